-- What open works on, and what it makes of the file in hand.
use Rattle.std.specs.Prelude.{ℕ, ◌<◌, ◌≡◌, Bool, true, List}
use Rattle.kinds.specs.declared.Answer.{Answer}
use Rattle.segment.specs.Fields.{file_at}
use Rattle.rules.specs.Limits.{files, places}
use Rattle.rules.specs.State.{Built, built}
use Rattle.rules.specs.Requests.{opened}
use Rattle.rules.specs.Open.{purged, room_to_open}
use Rattle.rules.specs.Reply.{Out}
use Rattle.rules.specs.Desk.{Desk, file_of}
use Rattle.rules.specs.Allocation.{Alloc}
use Rattle.memory.specs.Memories.{Memories, memories}
use Rattle.memory.specs.Fine.{StandsFor}
use Rattle.accessors.specs.Sides.{purges_at}
use Rattle.midst.specs.declared.File.{File}
use Rattle.midst.specs.File.{file_of_row}
use Rattle.midst.specs.Mid.{Start, Mid}
use Rattle.midst.specs.Outcome.{Done}
use Rattle.store.specs.Door.{Stored}

-- file f is built on every desk that the memories stand for, and K holds of it
abbrev pub Each : (Built → Type 0) → ℕ → Memories → Type 0
Each K f m = (d : Desk) (s : Alloc) → StandsFor m d s → (f < files) × (b : Built) × (file_of d f ≡ built b) × K b

-- a place is free; `Writes`: and there is room for a writer's open record
abbrev pub Reads : Built → Type 0
Reads b = opened b < places

abbrev pub Writes : ℕ → Built → Type 0
Writes access b = (opened b < places) × (room_to_open access b ≡ true)

-- an open with the given access that purges, or does not, as the segment says
abbrev pub Enters : ℕ → Bool → ℕ → Memories → Type 0
Enters access purges f m = (purges ≡ purges_at m.segment f access) × Each (Writes access) f m

-- An open makes x of the built file f, on every desk that the memories m stand for.
abbrev pub OpensBy : (Built → Out) → ℕ → Memories → Memories → Answer → Type 0
OpensBy x f m m' a = (d : Desk) (s : Alloc) (b : Built) → StandsFor m d s → file_of d f ≡ built b → Done f d s (x b) m m' a

-- file f in hand, purged or not, stands for the rules' file in the midst of every call
abbrev pub Takes : ℕ → ℕ → List ℕ → File → Type 0
Takes access f xs x =
    (o : Start) (blocks buffers : List ℕ) (b : Built) → Mid Stored f o (memories xs blocks buffers) (file_of_row (file_at xs f)) b → Mid Stored f o (memories xs blocks buffers) x (purged access b)

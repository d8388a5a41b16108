-- A run of the five calls: each is lent the memories as the call before left them, and beside them what the host likes.
use Rattle.std.specs.Prelude.{ℕ, true, false, List, [], ◌∷◌, eqb, length}
use Rattle.rules.specs.Limits.{record_room, answer_room}
use Rattle.rules.specs.Reply.{Reply}
use Rattle.rules.specs.Desk.{Desk, Call}
use Rattle.rules.specs.Desk as rules
use Rattle.rules.specs.Allocation.{Alloc}
use Rattle.memory.specs.Memories.{Memories}
use Rattle.memory.specs.Covers.{Blank}
use Rattle.memory.specs.Fine.{StandsFor}
use Rattle.promises.specs.Promise.{HostCall, fresh, event, look, save, load, Given, answered, shown, said, Promise}

pub data Run : Memories → List HostCall → List Given → Memories → Type 0 where
  ended : {m : Memories} → Run m [] [] m
  then : {m n o : Memories} {x : HostCall} {xs : List HostCall} {g : Given} {gs : List Given} → Promise m x g n → Run n xs gs o → Run m (x ∷ xs) (g ∷ gs) o

-- What a call means to the rules.

pub data Meant : Type 0 where
  -- the desk is made fresh
  anew : Meant
  -- the answer or the record memory has the wrong length: the call is refused (29), and nothing is asked
  unfit : Meant
  asks : Call → Meant

-- what a call means that is lent memory for n bytes: it asks c if that memory has n bytes, else it is unfit
unfoldable pub lending : ℕ → List ℕ → Call → Meant
lending n memory c = elim (eqb (length memory) n) [ true ↦ asks c | false ↦ unfit ]

unfoldable pub meant : HostCall → Meant
meant fresh = anew
meant (event memory frame) = lending answer_room memory (rules.event frame)
meant (look f p memory) = lending record_room memory (rules.look f p)
meant (save f output) = asks (rules.save f (length output))
meant (load f text) = asks (rules.load f text)

-- what the host is given of a reply
unfoldable pub gives : HostCall → Reply → Given
gives fresh r = said r
gives (event memory frame) r = answered memory r
gives (look f p memory) r = shown memory r
gives (save f output) r = shown output r
gives (load f text) r = said r

-- The memories are those of a desk and an allocation, to the last byte: bytes of files that are not built are zero. Two such memories are equal
-- (proofs/Holds.antt).
pub record Holds (m : Memories) (d : Desk) (s : Alloc) : Type 0 where
  pub stands : StandsFor m d s
  pub blank : Blank d m

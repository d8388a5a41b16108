-- The outcome of an event, on the way through the call.
use Rattle.std.specs.Prelude.{ℕ, ◌≤◌, ◌≡◌, Bool, List, length}
use Rattle.std.proofs.lemmas.List.Edits.{sets}
use Rattle.kinds.specs.declared.Answer.{Answer}
use Rattle.kinds.specs.declared.Event.{Event}
use Rattle.kinds.specs.declared.Frame.TheVariants as what
use Rattle.rules.specs.Limits.{buffer_bytes, answer_room}
use Rattle.rules.specs.Frames.{frame_of}
use Rattle.rules.specs.Answers.{answer_bytes}
use Rattle.rules.specs.Reply.{answers}
use Rattle.rules.specs.Desk.{Desk, Call, event, respond}
use Rattle.rules.specs.Allocation.{Alloc}
use Rattle.midst.specs.Outcome.{Sound, refusal_of, Told, Stays}
use Rattle.judges.specs.Refused.{purges_by}
use Rattle.memory.specs.Memories.{Memories}
use Rattle.memory.specs.Fine.{StandsFor}

-- what serving an event is lent: memories that stand for a desk, an answer memory, a frame that is the event, and whether the event purges
abbrev pub EventLent : Memories → List ℕ → List ℕ → Event → Bool → Type 0
EventLent m memory frame e purges = Sound m × (length memory ≡ answer_room) × (frame_of frame ≡ what.Event e) × (purges ≡ purges_by m.segment e)

-- no desk that the memories m stand for refuses the frame
abbrev pub Unrefused : Memories → List ℕ → Type 0
Unrefused m frame = (d : Desk) (s : Alloc) → StandsFor m d s → refusal_of (respond d (event frame)).reply ≡ 0

-- memories and answer are the rules'
pub record Responds (d : Desk) (s : Alloc) (c : Call) (m : Memories) (memory : List ℕ) (m' : Memories) (memory' : List ℕ) (n : ℕ) : Type 0 where
  pub stays : Stays d s c m m'
  pub told : Told (respond d c).reply memory memory' n

-- a call that is done, before its answer's own bytes are written: the data of a record lie where those bytes will end
pub record Acted (d : Desk) (s : Alloc) (c : Call) (m : Memories) (memory : List ℕ) (m' : Memories) (memory' : List ℕ) (a : Answer) (n : ℕ) : Type 0 where
  pub stays : Stays d s c m m'
  pub bytes : List ℕ
  pub reply : (respond d c).reply ≡ answers a bytes
  pub size : n ≡ length bytes
  pub most : n ≤ buffer_bytes
  pub behind : memory' ≡ sets memory (length (answer_bytes a)) bytes

-- a call is done on whatever desk and allocation the memories m stand for
abbrev pub Acting : Call → Memories → List ℕ → Memories → List ℕ → Answer → ℕ → Type 0
Acting c m memory m' memory' a n = (d : Desk) (s : Alloc) → StandsFor m d s → Acted d s c m memory m' memory' a n

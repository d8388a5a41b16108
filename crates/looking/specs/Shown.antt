-- What look was found to show, and that a desk of the rules shows the same.
use Rattle.std.specs.Prelude.{ℕ, ◌+◌, ◌≤◌, ◌≡◌, List, Result, Ok, Err}
use Rattle.rules.specs.State.{Built, built}
use Rattle.rules.specs.Reply.{Reply}
use Rattle.rules.specs.Look.{look_file}
use Rattle.rules.specs.Desk.{Desk, look, file_of, respond}
use Rattle.rules.specs.Allocation.{Alloc}
use Rattle.blocks.specs.Memory.{blocks_bytes}
use Rattle.buffers.specs.Buffer.{buffers_bytes}
use Rattle.memory.specs.Memories.{memories}
use Rattle.memory.specs.Fine.{StandsFor}
use Rattle.midst.specs.Outcome.{reply_status, SoundBlocks}
use Rattle.kinds.specs.declared.Outstanding.{Outstanding}
use Rattle.accessors.specs.Accessors.{Open, accessor_at}
use Rattle.kinds.specs.declared.refusals.Refusal.{Refusal}
use Rattle.kinds.specs.Refusals.{number}
use Rattle.promises.specs.Parts.{Part, nothing, of_blocks, of_buffers, of_file, part_on}
use Rattle.looking.specs.declared.finding.Shown.{Shown}
use Rattle.looking.specs.declared.finding.Shown.TheVariants.{Block, Buffer}

-- "Refused, it shows an empty part; a second call gives its status."
unfoldable pub part_shown : {E : Type 0} → Result Shown E → Part
part_shown (Err r) = nothing
part_shown (Ok (Block at size)) = of_blocks at size
part_shown (Ok (Buffer at size)) = of_buffers at size

-- the status: the number of what refuses, or 0
unfoldable pub status_shown : {E : Type 0} → (E → ℕ) → Result Shown E → ℕ
status_shown number (Err r) = number r
status_shown number (Ok x) = 0

-- what is shown lies within the given numbers of bytes of blocks and of record buffers
unfoldable pub Inside : {E : Type 0} → ℕ → ℕ → Result Shown E → Type 0
Inside blocks buffers (Err r) = Unit {0}
Inside blocks buffers (Ok (Block at size)) = at + size ≤ blocks
Inside blocks buffers (Ok (Buffer at size)) = at + size ≤ buffers

-- what is shown is the given part, with the status of the given reply
pub record Tells (part : Part) (r : Reply) (x : Result Shown Refusal) : Type 0 where
  pub shows : part_shown x ≡ part
  pub status : status_shown number x ≡ reply_status r

-- x is what look shows of file f of a desk; `OfReader`: of the reader that f and p name
abbrev pub OfFile : ℕ → Desk → Result Shown Refusal → Type 0
OfFile f d x = (b : Built) → file_of d f ≡ built b → Tells (of_file f b) (look_file b).reply x

abbrev pub OfReader : ℕ → ℕ → Desk → Result Shown Refusal → Type 0
OfReader f p d x = Tells (part_on d f p) (respond d (look f p)).reply x

-- x is what look shows on every desk that segment and blocks stand for, with any buffers
pub record Finds (Of : Desk → Result Shown Refusal → Type 0) (xs blocks : List ℕ) (x : Result Shown Refusal) : Type 0 where
  pub inside : Inside blocks_bytes buffers_bytes x
  pub tells : (buffers : List ℕ) (d : Desk) (s : Alloc) → StandsFor (memories xs blocks buffers) d s → Of d x

-- segment and blocks stand for a desk, and the accessor that f and p name is open, on the given side and with the given request
pub record Opens (xs blocks : List ℕ) (f p side : ℕ) (request : Outstanding) : Type 0 where
  pub stood : SoundBlocks xs blocks
  pub words : ℕ
  pub named : accessor_at xs f p ≡ Open words side request

-- segment and blocks stand for a desk, and the reader that f and p name is open, with the given request
abbrev pub ReaderOpens : List ℕ → List ℕ → ℕ → ℕ → Outstanding → Type 0
ReaderOpens xs blocks f p request = (side : ℕ) × Opens xs blocks f p side request × (side ≡ 2 → ⊥)

-- What a line asks of the desk, and how it is answered.
use Rattle.std.specs.Prelude.{ℕ, ◌+◌, ◌*◌, ◌≡◌, List, take}
use Rattle.std.proofs.lemmas.List.Edits.{sets}
use Rattle.words.specs.Word.{zeros}
use Rattle.rules.specs.Limits.{answer_room}
use Rattle.rules.specs.Line.{line_frame, line_of}
use Rattle.promises.specs.Promise.{Promise}
use Rattle.promises.specs.Promise as host
use Rattle.memory.specs.Memories.{Memories}

-- the digits of the longest answer, and LF
abbrev pub answer_line : ℕ
answer_line = 2 * answer_room + 1

-- the event call of a frame on a zero answer memory gives `size` bytes of answer
abbrev pub Gives : Memories → List ℕ → Memories → List ℕ → ℕ → Type 0
Gives m frame m' answer size = Promise m (host.event (zeros answer_room) frame) (host.answer size answer) m'

-- an event call of the line's frame: its answer is the line of the output from byte `used` to before byte r; the rest of the output is as it was
pub record Asked (m : Memories) (line out : List ℕ) (m' : Memories) (out' : List ℕ) (used r : ℕ) : Type 0 where
  pub answer : List ℕ
  pub size : ℕ
  pub event : Gives m (line_frame line) m' answer size
  pub printed : out' ≡ sets out used (line_of (take size answer))
  pub end : r ≡ used + (2 * size + 1)

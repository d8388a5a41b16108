-- Memories that are not sound are left as they are.
use Prim.Native.Nat.{ℕ}
use mathlib.Core.Path.{ap, ◌∙◌}
use mathlib.Core.List.{List}
use Rattle.words.specs.Word.{zeros}
use Rattle.words.proofs.Runs.{length-zeros}
use Rattle.rules.specs.Limits.{answer_room}
use Rattle.rules.specs.Line.{line_frame}
use Rattle.sound.specs.Sound.{soundly}
use Rattle.promises.proofs.Events.{event-keeps}
use Rattle.lines.specs.Asked.{Asked}
use Rattle.serving.specs.Served.{Kept}
use Rattle.memory.specs.Memories.{Memories}

pub line_kept : (m : Memories) (line out : List ℕ) (m' : Memories) (out' : List ℕ) (used r : ℕ) → Asked m line out m' out' used r → Kept m m'
line_kept m line out m' out' used r a h = event-keeps m (zeros answer_room) (line_frame line) (length-zeros answer_room) m' a.answer a.size a.event h

-- one change after another
pub kept_on : (m m' m'' : Memories) → Kept m m' → Kept m' m'' → Kept m m''
kept_on m m' m'' k l h = let x = k h in l (ap soundly x ∙ h) ∙ x

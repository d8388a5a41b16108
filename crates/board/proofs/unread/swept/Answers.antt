use mathlib.Core.Path.{sym, ◌∙◌}
use Rattle.board.specs.Swept.{files_zero}
use Rattle.board.proofs.Swept.{every_bad, swept_is}
use Rattle.board.proofs.unread.swept.Goals as goal

pub returns-then-not-file_zero : goal.returns-then-not-file_zero
unfolding files_zero
returns-then-not-file_zero c =
    λ d s S. sym (every_bad _ _ _ c.loop-f-test.true (sym c.file_zero.ensures ∙ c.if-not-file_zero.true)) ∙ swept_is S

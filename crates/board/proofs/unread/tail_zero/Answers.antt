use mathlib.Core.Path.{sym}
use native.Mathlib.Omega.{arith}
use Rattle.words.proofs.Zeros.{quiet-end}
use Rattle.board.proofs.unread.tail_zero.Goals as goal

pub returns-then-block-used : goal.returns-then-block-used
returns-then-block-used c =
    sym (quiet-end _ _ _ (omega (arith, c.get.ensures, c.if-block-used.true)))

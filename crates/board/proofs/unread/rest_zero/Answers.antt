use mathlib.Core.Path.{sym}
use native.Mathlib.Omega.{arith}
use Rattle.words.proofs.Zeros.{quiet-end}
use Rattle.board.specs.Swept.{rest_zero}
use Rattle.board.proofs.unread.rest_zero.Goals as goal

pub returns-then-n-ge-BUFFER_BYTES : goal.returns-then-n-ge-BUFFER_BYTES
unfolding rest_zero
returns-then-n-ge-BUFFER_BYTES c = sym (quiet-end _ _ _ (omega (arith, c.if-n-ge-BUFFER_BYTES.true)))

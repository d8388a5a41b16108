use mathlib.Core.Path.{◌≡◌}
use mathlib.Core.Bool.{true}
use Rattle.board.specs.Swept.{every, size_at, rest_zero}
use Rattle.board.proofs.unread.rests_zero.Given as goal

abbrev pub invariant-loop-p : goal.invariant-loop-p
invariant-loop-p l = every (λ q. rest_zero l.buffers q (size_at l.segment l.f q)) l.p ≡ true

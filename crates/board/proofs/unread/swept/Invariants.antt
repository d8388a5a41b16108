use mathlib.Core.Path.{◌≡◌}
use mathlib.Core.Bool.{true}
use Rattle.memory.specs.Memories.{memories}
use Rattle.board.specs.Swept.{every, file_zero}
use Rattle.board.proofs.unread.swept.Given as goal

abbrev pub invariant-loop-f : goal.invariant-loop-f
invariant-loop-f l = every (file_zero (memories l.segment l.blocks l.buffers)) l.f ≡ true

use Rattle.settling.specs.Turns.{Beside, Comes, waiting}
use Rattle.memory.specs.Memories.{memories}
use Rattle.settling.proofs.settle.Given as goal

abbrev pub invariant-loop-segment : goal.invariant-loop-segment
invariant-loop-segment l =
    Comes l.f (memories l.initial.segment l.initial.blocks l.initial.buffers) l.initial.file (memories l.segment l.blocks l.buffers) l.file
    × Beside l.writers l.f l.segment

abbrev pub decreases-loop-segment : goal.decreases-loop-segment
decreases-loop-segment l = waiting l.segment l.f

use Prim.Native.Nat.{◌-◌}
use Rattle.rules.specs.Limits.{entries}
use Rattle.rules.specs.Desk.{Desk}
use Rattle.rules.specs.Allocation.{Alloc}
use Rattle.timeouts.specs.Stage.{Stage, Reached}
use Rattle.timeouts.proofs.run_due.Given as goal

abbrev pub invariant-loop : goal.invariant-loop
invariant-loop l =
    ((d : Desk) (s : Alloc) → Stage l.initial.segment l.initial.buffers d s → Reached l.seconds (entries - l.counter) l.initial.buffers d s l.segment l.buffers)

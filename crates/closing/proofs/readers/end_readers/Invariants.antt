use Prim.Native.Nat.{◌-◌}
use Rattle.rules.specs.Limits.{entries}
use Rattle.closing.specs.Leaving.{Walked}
use Rattle.closing.proofs.readers.end_readers.Given as goal

abbrev pub invariant-loop : goal.invariant-loop
invariant-loop l =
    Walked l.f l.initial.segment l.initial.buffers l.segment l.buffers l.slot (entries - l.counter)

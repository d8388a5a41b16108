use Prim.Native.Nat.{◌≤◌}
use mathlib.Core.Path.{◌≡◌}
use lib.ListN.{drop}
use Rattle.faults.specs.Faults.{most_digits, fault_after, fault_of}
use Rattle.faults.proofs.reading.fault_of.Given as goal

abbrev pub invariant-loop-i : goal.invariant-loop-i
invariant-loop-i l = (l.i ≤ most_digits) × (fault_of l.line ≡ fault_after l.i (drop l.i l.line))

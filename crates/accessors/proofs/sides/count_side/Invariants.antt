use Prim.Native.Nat.{◌*◌, ◌≤◌}
use mathlib.Core.Path.{◌≡◌}
use Rattle.rules.specs.Limits.{places}
use Rattle.accessors.specs.Sides.{sides_from}
use Rattle.accessors.proofs.sides.count_side.Given as goal

abbrev pub invariant-loop-p : goal.invariant-loop-p
invariant-loop-p l = (l.found ≡ sides_from l.segment l.side (places * l.f) l.p) × (l.found ≤ l.p)

use Prim.Native.Nat.{◌-◌}
use mathlib.Core.Path.{◌≡◌}
use Rattle.opening.specs.Finding.{id_from, next_id}
use Rattle.opening.proofs.finding.free_id.Given as goal

abbrev pub invariant-loop-id : goal.invariant-loop-id
invariant-loop-id l = next_id l.segment l.f ≡ id_from l.segment l.f (9 - l.id) l.id

use Prim.Native.Nat.{◌+◌, ◌-◌, ◌*◌}
use mathlib.Core.Path.{◌≡◌}
use Rattle.rules.specs.Limits.{places}
use Rattle.opening.specs.Finding.{free_from, free_place}
use Rattle.opening.proofs.finding.free_place.Given as goal

abbrev pub invariant-loop-place : goal.invariant-loop-place
invariant-loop-place l = free_place l.segment l.f ≡ l.place + free_from l.segment (places * l.f + l.place) (places - l.place)

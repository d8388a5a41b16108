use mathlib.Core.Path.{◌≡◌}
use lib.Dec.{eqb}
use Rattle.sound.specs.quick.Ones.{ones}
use Rattle.sound.proofs.quick.heads.ones.Given as goal

abbrev pub invariant-loop-b : goal.invariant-loop-b
invariant-loop-b l = eqb l.all 0 ≡ ones l.s l.at l.b-index

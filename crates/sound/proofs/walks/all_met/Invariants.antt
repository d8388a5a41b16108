use mathlib.Core.Path.{◌≡◌}
use lib.Dec.{eqb}
use Rattle.sound.specs.Walks.{all_met}
use Rattle.sound.proofs.walks.all_met.Given as goal

abbrev pub invariant-loop-mark : goal.invariant-loop-mark
invariant-loop-mark l = eqb l.all 0 ≡ all_met l.seen l.mark-index

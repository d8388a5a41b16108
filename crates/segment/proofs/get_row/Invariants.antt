use mathlib.Core.Path.{◌≡◌}
use lib.ListN.{length}
use lib.Seq.{sets}
use Rattle.segment.specs.Table.{row}
use Rattle.segment.proofs.get_row.Given as goal

abbrev pub invariant-loop-i : goal.invariant-loop-i
invariant-loop-i g l = (l.v-items ≡ sets l.initial.v-items 0 (row l.s l.k l.i)) × (length l.v-items ≡ g.row.N)

use Prim.Native.Nat.{◌+◌}
use mathlib.Core.Path.{◌≡◌}
use lib.ListN.{length, drop}
use Rattle.segment.specs.Table.{fill}
use Rattle.segment.proofs.put_row.Given as goal

abbrev pub invariant-loop-i : goal.invariant-loop-i
invariant-loop-i g l =
    (fill l.s (l.k + l.i) (drop l.i l.v-items) ≡ fill l.initial.s l.k l.v-items) × (length l.s ≡ length l.initial.s) × (length l.v-items ≡ g.row.N)

use Prim.Native.Nat.{◌-◌, ◌<◌}
use mathlib.Core.Path.{◌≡◌}
use lib.ListN.{length}
use Rattle.rules.specs.Limits.{entries}
use Rattle.segment.specs.Layout.{timer_list, segment_bytes, file_rows}
use Rattle.timeouts.specs.Late.{less_all}
use Rattle.timeouts.proofs.lessen.Given as goal

abbrev pub invariant-loop : goal.invariant-loop
invariant-loop l =
    (length l.segment ≡ segment_bytes)
    × (l.p < file_rows)
    × (less_all l.initial.segment timer_list l.seconds entries ≡ less_all l.segment l.p l.seconds (entries - l.counter))

use Prim.Native.Nat.{ℕ, ◌-◌, ◌<◌}
use mathlib.Core.Path.{◌≡◌}
use mathlib.Core.Bool.{Bool}
use mathlib.Core.List.{List}
use Rattle.rules.specs.Limits.{entries}
use Rattle.segment.specs.Layout.{file_rows}
use Rattle.ports.specs.Slots.{seek, IsTestOf}
use Rattle.ports.proofs.seek.Given as goal

abbrev pub invariant-loop : goal.invariant-loop
invariant-loop g l =
    (l.p < file_rows) × ((t : List ℕ → Bool) → IsTestOf (goal.F-post g l.passes) l.s t → seek t l.s l.l entries ≡ seek t l.s l.p (entries - l.counter))

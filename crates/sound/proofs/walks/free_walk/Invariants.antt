use mathlib.Core.Path.{◌≡◌}
use mathlib.Core.List.{List}
use Prim.Native.Nat.{ℕ, ◌+◌, ◌≤◌, ◌<◌}
use Rattle.rules.specs.Limits.{entries}
use Rattle.segment.specs.Layout.{file_rows}
use Rattle.sound.specs.Walks.{free_walk}
use Rattle.sound.proofs.walks.free_walk.Given as goal

abbrev pub invariant-loop-left : goal.invariant-loop-left
invariant-loop-left l =
    (l.p < file_rows)
    × (l.left ≤ entries + 1)
    × (l.e < 256)
    × ((busy : List ℕ) → free_walk l.s l.head l.initial.seen busy (entries + 1) ≡ free_walk l.s l.p l.seen busy l.left)

abbrev pub decreases-loop-left : goal.decreases-loop-left
decreases-loop-left l = l.left

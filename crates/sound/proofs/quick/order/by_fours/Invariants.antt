use mathlib.Core.Path.{◌≡◌}
use mathlib.Core.List.{List}
use Prim.Native.Nat.{ℕ, ◌*◌, ◌-◌, ◌≤◌}
use Rattle.segment.specs.Layout.{link_at}
use Rattle.sound.specs.quick.Onward.{free_from}
use Rattle.sound.proofs.quick.order.by_fours.Given as goal

abbrev pub invariant-loop-last : goal.invariant-loop-last
invariant-loop-last l =
    (l.e ≤ l.last)
    × (l.last ≤ l.end)
    × (l.at ≡ 2 * link_at l.last)
    × ((busy : List ℕ) → free_from l.s l.e l.initial.seen busy l.most ≡ free_from l.s l.last l.seen busy (l.most - (l.last - l.e)))

abbrev pub decreases-loop-last : goal.decreases-loop-last
decreases-loop-last l = l.end - l.last

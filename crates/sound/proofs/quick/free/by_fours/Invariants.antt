use Prim.Native.Nat.{◌*◌, ◌-◌, ◌≤◌}
use mathlib.Core.Path.{◌≡◌}
use Rattle.segment.specs.Layout.{link_at}
use Rattle.sound.specs.quick.Ends.{ends_from}
use Rattle.sound.proofs.quick.free.by_fours.Given as goal

abbrev pub invariant-loop-last : goal.invariant-loop-last
invariant-loop-last l = (l.e ≤ l.last) × (l.last ≤ l.end) × (l.at ≡ 2 * link_at l.last) × (ends_from l.s l.e l.most ≡ ends_from l.s l.last (l.most - (l.last - l.e)))

abbrev pub decreases-loop-last : goal.decreases-loop-last
decreases-loop-last l = l.end - l.last

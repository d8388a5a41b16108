use mathlib.Core.Path.{◌≡◌}
use Prim.Native.Nat.{◌+◌, ◌-◌, ◌<◌}
use Rattle.rules.specs.Limits.{entries}
use Rattle.segment.specs.Layout.{file_rows}
use Rattle.sound.specs.Walks.{timer_walk}
use Rattle.sound.proofs.walks.timer_walk.Given as goal

abbrev pub invariant-loop : goal.invariant-loop
invariant-loop l =
    (l.p < file_rows) × (timer_walk l.s 1 l.head l.initial.seen l.initial.busy (entries + 1) ≡ timer_walk l.s l.low l.p l.seen l.busy (entries + 1 - l.counter))

use mathlib.Core.Path.{◌≡◌}
use Prim.Native.Nat.{◌+◌, ◌-◌, ◌<◌}
use Rattle.rules.specs.Limits.{entries}
use Rattle.segment.specs.Layout.{file_rows}
use Rattle.sound.specs.Walks.{queue_walk}
use Rattle.sound.proofs.walks.queue_walk.Given as goal

abbrev pub invariant-loop : goal.invariant-loop
invariant-loop l =
    (l.p < file_rows)
    × (queue_walk l.s l.side l.f l.head l.initial.seen l.initial.busy (entries + 1) ≡ queue_walk l.s l.side l.f l.p l.seen l.busy (entries + 1 - l.counter))

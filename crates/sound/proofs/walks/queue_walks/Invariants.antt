use mathlib.Core.Path.{◌≡◌}
use Prim.Native.Nat.{◌-◌}
use Rattle.rules.specs.Limits.{files}
use Rattle.sound.specs.Walks.{queue_walks}
use Rattle.sound.proofs.walks.queue_walks.Given as goal

abbrev pub invariant-loop-f : goal.invariant-loop-f
invariant-loop-f l = queue_walks l.s l.side 0 l.initial.seen l.initial.busy files ≡ queue_walks l.s l.side l.f l.seen l.busy (files - l.f)

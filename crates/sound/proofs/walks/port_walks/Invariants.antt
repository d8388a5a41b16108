use mathlib.Core.Path.{◌≡◌}
use Prim.Native.Nat.{◌-◌}
use Rattle.segment.specs.Layout.{desk_places}
use Rattle.sound.specs.Walks.{port_walks}
use Rattle.sound.proofs.walks.port_walks.Given as goal

abbrev pub invariant-loop-i : goal.invariant-loop-i
invariant-loop-i l = port_walks l.s 0 l.initial.seen l.initial.busy desk_places ≡ port_walks l.s l.i l.seen l.busy (desk_places - l.i)

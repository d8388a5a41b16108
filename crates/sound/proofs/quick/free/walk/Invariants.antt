use Prim.Native.Nat.{◌≤◌, ◌<◌}
use mathlib.Core.Path.{◌≡◌}
use Rattle.rules.specs.Limits.{entries}
use Rattle.segment.specs.Layout.{free_list, file_rows}
use Rattle.sound.specs.quick.Ends.{free_ends}
use Rattle.sound.proofs.quick.free.walk.Given as goal

abbrev pub invariant-loop-left : goal.invariant-loop-left
invariant-loop-left l = (l.p < file_rows) × (l.left ≤ entries) × (l.before < 256) × (free_ends l.s free_list entries ≡ free_ends l.s l.p l.left)

abbrev pub decreases-loop-left : goal.decreases-loop-left
decreases-loop-left l = l.left

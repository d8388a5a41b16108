use Prim.Native.Nat.{ℕ, ◌<◌}
use mathlib.Core.Path.{◌≡◌}
use lib.ListN.{length, get_or}
use Rattle.sound.specs.quick.Strides.{stops}
use Rattle.sound.proofs.quick.tables.twice.Given as goal

abbrev pub invariant-loop-k : goal.invariant-loop-k
invariant-loop-k l = (length l.to ≡ stops) × ((j : ℕ) → j < l.k → get_or l.to j 0 ≡ get_or l.from (get_or l.from j 0) 0)

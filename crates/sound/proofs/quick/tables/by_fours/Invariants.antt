use Prim.Native.Nat.{ℕ, ◌*◌, ◌-◌, ◌<◌}
use mathlib.Core.Path.{◌≡◌}
use mathlib.Core.List.{List}
use Rattle.sound.specs.quick.Strides.{stops, strides, Table}
use Rattle.sound.proofs.quick.tables.by_fours.Given as goal

abbrev pub invariant-loop : goal.invariant-loop
invariant-loop l = (l.at < stops) × ((s : List ℕ) → Table s 4 l.fours → strides s (4 * l.n) l.k ≡ strides s (4 * (l.n - l.counter)) l.at)

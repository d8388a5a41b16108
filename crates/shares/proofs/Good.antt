-- A geometry with room for a record is geometry-sized.
use Prim.Native.Nat.{ℕ, zero, suc, ◌+◌, ◌-◌, ◌*◌, ◌≤◌, ◌<◌}
use native.Mathlib.Omega.{arith}
use native.Mathlib.Nat.{mul-zero, mod-lt, div-add-mod'}
use Rattle.rules.specs.Limits.{share_words, least_capacity}
use Rattle.rules.specs.State.{Geo}
use Rattle.rules.specs.Geometry.{divided_up, capacity, block_size}
use Rattle.shares.specs.Holds.{Sized}

pub divided_up-most : (n m : ℕ) → 0 < m → n ≤ divided_up n m * m
unfolding divided_up
divided_up-most n m o = omega (arith, div-add-mod' (n + (m - 1)) m, mod-lt (n + (m - 1)) o)

pub geometry-sized : (g : Geo) → 1 ≤ g.factor → least_capacity ≤ capacity g.factor g.blocks → g.blocks * block_size g.words g.factor ≤ share_words → Sized g
unfolding capacity
geometry-sized g b c f = record { factor = b; blocks = some g.blocks c; fits = f }
  where
    some : (d : ℕ) → least_capacity ≤ g.factor * d → 0 < d
    some zero l = absurd (omega (arith, mul-zero g.factor))
    some (suc d) l = omega arith

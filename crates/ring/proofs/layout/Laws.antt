-- Laws of a block's bytes in the share.
use Prim.Native.Nat.{ℕ, ◌+◌, ◌*◌, ◌≤◌, ◌<◌}
use mathlib.Core.Path.{◌≡◌}
use native.Mathlib.Omega.{arith}
use Rattle.rules.specs.Limits.{share_bytes}
use Rattle.rules.specs.State.{Geo}
use Rattle.rules.specs.Geometry.{block_size}
use Rattle.rules.specs.Store.{block_bytes}
use Rattle.shares.specs.Holds.{Sized}
use Rattle.shares.proofs.Ring.{block_inside}

module _ (g : Geo) (o : Sized g) (n k : ℕ) (e : n ≡ block_size g.words g.factor) (h : k < g.blocks) where
  -- a block has room for its two words, and lies in the share
  pub span-inside : (4 ≤ 2 * n) × (k * (2 * n) + 2 * n ≤ share_bytes)
  unfolding block_bytes block_size
  span-inside = (omega arith, rw e (block_inside g o k h))

use Prim.Native.Nat.{◌-◌}
use mathlib.Core.Path.{◌≡◌}
use Rattle.shares.specs.Tails.{blocks_zero}
use Rattle.ring.specs.Ring.{geo}
use Rattle.board.proofs.unread.blocks_zero.Given as goal

abbrev pub invariant-loop-k : goal.invariant-loop-k
invariant-loop-k l = blocks_zero (geo l.words l.ring) l.share 0 l.ring.blocks ≡ blocks_zero (geo l.words l.ring) l.share l.k (l.ring.blocks - l.k)

use Prim.Native.Nat.{◌+◌, ◌-◌, ◌≤◌, ◌<◌}
use mathlib.Core.Path.{◌≡◌}
use Rattle.shares.specs.Sound.{sweep}
use Rattle.ring.specs.Ring.{geo}
use Rattle.blocks.proofs.check.sweep.Given as goal

abbrev pub invariant-loop : goal.invariant-loop
invariant-loop l =
    let g = geo l.words l.ring in
    record {
      same : sweep g l.share l.ring.block l.ring.blocks (l.ring.spent + l.ring.held) ≡ sweep g l.share l.block (l.ring.blocks - l.counter) l.left;
      block : l.block < l.ring.blocks;
      low : l.left ≤ l.ring.spent + l.ring.held;
    }

-- Memories of which one has the wrong length stand for no desk.
use mathlib.Core.Path.{◌≡◌}
use mathlib.Core.Bool.{false}
use Prim.Native.Nat.{◌*◌}
use lib.ListN.{length}
use borrow.Author.Tests.{eq-eqb, ne_eqb}
use Rattle.rules.specs.Limits.{files, places, share_bytes, buffer_bytes}
use Rattle.segment.specs.Layout.{segment_bytes}
use Rattle.memory.specs.Memories.{Memories}
use Rattle.sound.specs.Sound.{soundly}

module _ (m : Memories) where
  pub wrong-segment : (length m.segment ≡ segment_bytes → ⊥) → soundly m ≡ false
  unfolding soundly
  wrong-segment h = rw (ne_eqb _ _ h)

  module _ (e : length m.segment ≡ segment_bytes) where
    pub wrong-blocks : (length m.blocks ≡ share_bytes * files → ⊥) → soundly m ≡ false
    unfolding soundly
    wrong-blocks h = rw (eq-eqb _ _ e, ne_eqb _ _ h)

    pub wrong-buffers : length m.blocks ≡ share_bytes * files → (length m.buffers ≡ places * buffer_bytes * files → ⊥) → soundly m ≡ false
    unfolding soundly
    wrong-buffers k h = rw (eq-eqb _ _ e, eq-eqb _ _ k, ne_eqb _ _ h)

pub ruleset lengths = (wrong-segment, wrong-blocks, wrong-buffers)

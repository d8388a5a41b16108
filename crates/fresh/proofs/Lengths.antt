-- The call by its tests: a length that is wrong, and all three right.
use Prim.Native.Nat.{ℕ, ◌*◌}
use mathlib.Core.Path.{◌≡◌, sym, ◌∙◌}
use mathlib.Core.Bool.{true}
use mathlib.Core.List.{List}
use lib.Dec.{eqb}
use lib.ListN.{length}
use lib.Seq.{sets}
use borrow.Author.Tests.{eq-eqb, ne_eqb}
use Rattle.words.specs.Word.{zeros}
use Rattle.words.proofs.Runs.{length-zeros}
use Rattle.words.proofs.Parts.{sets-whole}
use Rattle.segment.specs.Layout.{segment_bytes}
use Rattle.rules.specs.Limits.{files, places, share_bytes, buffer_bytes}
use Rattle.rules.proofs.Split.{pick_true, pick-false}
use Rattle.memory.specs.Memories.{Memories, memories}
use Rattle.memory.specs.Fresh.{fresh_segment, fresh_blocks, fresh_buffers, fresh_memories}
use Rattle.fresh.specs.Made.{nothing_made, made}

module _ (m : Memories) where
  pub no-segment : (length m.segment ≡ segment_bytes → ⊥) → nothing_made m ≡ made m
  unfolding made
  no-segment h = sym (pick-false (eqb (length m.segment) segment_bytes) _ _ (ne_eqb (length m.segment) segment_bytes h))

  module _ (e : length m.segment ≡ segment_bytes) where
    one : eqb (length m.segment) segment_bytes ≡ true
    one = eq-eqb (length m.segment) segment_bytes e

    pub no_blocks : (length m.blocks ≡ share_bytes * files → ⊥) → nothing_made m ≡ made m
    unfolding made
    no_blocks h =
        sym (pick_true (eqb (length m.segment) segment_bytes) _ _ one ∙ pick-false (eqb (length m.blocks) (share_bytes * files)) _ _ (ne_eqb (length m.blocks) (share_bytes * files) h))

    module _ (k : length m.blocks ≡ share_bytes * files) where
      two : eqb (length m.blocks) (share_bytes * files) ≡ true
      two = eq-eqb (length m.blocks) (share_bytes * files) k

      pub no-buffers : (length m.buffers ≡ places * buffer_bytes * files → ⊥) → nothing_made m ≡ made m
      unfolding made
      no-buffers h =
          sym
          (pick_true (eqb (length m.segment) segment_bytes) _ _ one ∙ pick_true (eqb (length m.blocks) (share_bytes * files)) _ _ two
          ∙ pick-false (eqb (length m.buffers) (places * buffer_bytes * files)) _ _ (ne_eqb (length m.buffers) (places * buffer_bytes * files) h))

      all_right : length m.buffers ≡ places * buffer_bytes * files → record { status = 0; memories = fresh_memories } ≡ made m
      unfolding made
      all_right h =
          sym
          (pick_true (eqb (length m.segment) segment_bytes) _ _ one ∙ pick_true (eqb (length m.blocks) (share_bytes * files)) _ _ two
          ∙ pick_true (eqb (length m.buffers) (places * buffer_bytes * files)) _ _ (eq-eqb (length m.buffers) (places * buffer_bytes * files) h))

      -- the three memories written
      pub makes : (s b u : List ℕ) → length m.buffers ≡ places * buffer_bytes * files
          → s ≡ fresh_segment → b ≡ sets m.blocks 0 (zeros (share_bytes * files)) → u ≡ sets m.buffers 0 (zeros (places * buffer_bytes * files))
          → record { status = 0; memories = memories s b u } ≡ made m
      makes s b u h x y z =
          let y' : b ≡ fresh_blocks = unfold fresh_blocks in y ∙ sets-whole m.blocks (zeros (share_bytes * files)) (length-zeros (share_bytes * files) ∙ sym k) in
          let z' : u ≡ fresh_buffers = unfold fresh_buffers in z ∙ sets-whole m.buffers (zeros (places * buffer_bytes * files)) (length-zeros (places * buffer_bytes * files) ∙ sym h) in
          rw (x, y', z') (all_right h)

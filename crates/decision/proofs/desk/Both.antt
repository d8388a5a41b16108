-- Memories pass the test exactly where they stand for a desk.
use Prim.Native.Nat.{◌*◌}
use mathlib.Core.Bool.{true}
use mathlib.Core.Path.{◌≡◌}
use mathlib.Core.List.{List}
use borrow.Author.Tests.{eqb-true, eq-eqb}
use lib.ListN.{length}
use Rattle.rules.specs.Limits.{files, places, share_bytes, buffer_bytes}
use Rattle.rules.specs.Desk.{Desk, Call, fresh_desk, after}
use Rattle.rules.specs.Allocation.{Alloc, fresh_alloc, alloc_after}
use Rattle.rules.proofs.Split.{and-true, true-and}
use Rattle.segment.specs.Layout.{segment_bytes}
use Rattle.memory.specs.Memories.{Memories}
use Rattle.memory.specs.Image.{lists_of}
use Rattle.memory.specs.Stands.{Stands}
use Rattle.words.specs.Word.{Bytes}
use Rattle.memory.specs.Fine.{StandsFor}
use Rattle.memory.proofs.Reached.{reached}
use Rattle.sound.specs.Sound.{soundly, lists_ok}
use Rattle.decision.proofs.lists.Decides.{decides-yes, decides-no}
use Rattle.decision.proofs.desk.DeskPasses.{passes}
use Rattle.decision.proofs.desk.Accepts.{accepts}

module _ (m : Memories) where
  pub sound-stands : Bytes m.segment → Bytes m.blocks → Bytes m.buffers → soundly m ≡ true → (d : Desk) × (a : Alloc) × StandsFor m d a
  unfolding soundly lists_ok
  sound-stands bs bb bf h =
      let (r₁, w) = and-true _ _ h in
      let (r₂, ok) = and-true _ _ r₁ in
      let (r₃, ef) = and-true _ _ r₂ in
      let (es, eb) = and-true _ _ r₃ in
      let (good, met) = and-true _ _ w in
      let (ls, U) = decides-yes m.segment good met in
      accepts m.segment m.blocks m.buffers bs bb bf ls (eqb-true (length m.segment) segment_bytes es) (eqb-true (length m.blocks) (share_bytes * files) eb)
      (eqb-true (length m.buffers) (places * buffer_bytes * files) ef) ok U

  pub stands-sound : (d : Desk) (a : Alloc) → StandsFor m d a → soundly m ≡ true
  unfolding soundly lists_ok
  stands-sound d a S =
      let (es, eb, ef, ok, U) = passes m.segment m.blocks m.buffers d a S in
      let (good, met) = decides-no m.segment (lists_of d a) U in
      true-and _ _ (true-and _ _ (true-and _ _ (true-and _ _ (eq-eqb (length m.segment) segment_bytes es) (eq-eqb (length m.blocks) (share_bytes * files) eb))
      (eq-eqb (length m.buffers) (places * buffer_bytes * files) ef)) ok)
      (true-and _ _ good met)

  pub soundly-is : Bytes m.segment → Bytes m.blocks → Bytes m.buffers
      → (soundly m ≡ true → (d : Desk) × (a : Alloc) × StandsFor m d a) × ((d : Desk) × (a : Alloc) × StandsFor m d a → soundly m ≡ true)
  soundly-is bs bb bf = (sound-stands bs bb bf, λ t. stands-sound t.0 t.1 t.2)

  -- a sound desk never refuses itself: whatever calls were made, the memories that show it pass
  pub reached-sound : (cs : List Call) → Stands m (after fresh_desk cs) (alloc_after fresh_desk cs fresh_alloc) → soundly m ≡ true
  reached-sound cs S = stands-sound (after fresh_desk cs) (alloc_after fresh_desk cs fresh_alloc) (reached cs m S)

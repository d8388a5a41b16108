-- Boxes: what each operation does to them, as the code has it. The rows stay.
use Prim.Native.Nat.{ℕ, ◌≤◌, ◌<◌}
use mathlib.Core.Path.{◌≡◌, refl, ◌∙◌}
use mathlib.Core.Bool.{Bool}
use mathlib.Core.List.{List, [], ◌∷◌}
use native.Mathlib.Omega.{arith}
use borrow.Author.Tests.{lt-ltb}
use lib.ListN.{length, get_or, set, take, drop, replicate}
use Rattle.rules.specs.Limits.{entries}
use Rattle.segment.specs.Layout.{list_count, free_list, data_words, nil}
use Rattle.segment.specs.Table.{nth}
use Rattle.ports.specs.Slots.{seek, insert, unlink, taken, released}
use Rattle.ports.specs.Lists.{Chain, Boxes}
use Rattle.ports.specs.Index.{cut, put_in, index}
use Rattle.ports.proofs.Chains.{slot_at}
use Rattle.ports.proofs.Boxes.{length-box, slot-box, end-box, seek-box, unlink-boxes, insert-boxes}
use Rattle.ports.proofs.Contents.{put_data-hand}

module _ {s hand : List ℕ} {hm ls : List (List ℕ)} {ms : List (List (List ℕ))} {rs : List (List ℕ)} (B : Boxes s hand hm ls ms rs) where
  -- the first of list l is taken out, into the hand
  pub first-boxes : (l e : ℕ) (xs : List ℕ) → l < list_count → get_or ls l [] ≡ e ∷ xs
      → (nth s l ≡ e) × (e < entries)
      × Boxes (unlink s l) (e ∷ hand) (get_or (get_or ms l []) 0 [] ∷ hm) (set ls l xs) (set ms l (drop 1 (get_or ms l []))) rs
  unfolding cut
  first-boxes l e xs h q =
      let w : (nth s l ≡ e) × (e < entries) = rw q at (slot-box B l h 0 (rw q (omega arith))) in
      (w.0, w.1, rw q at (unlink-boxes B l h 0 (rw q (omega arith))))

  -- nothing is taken out of an empty list
  pub none-boxes : (l : ℕ) → l < list_count → get_or ls l [] ≡ [] → (nth s l ≡ nil) × (unlink s l ≡ s)
  unfolding Chain
  none-boxes l h q = (rw q at (B.lists.chains l h), (end-box B l h 0 (rw q refl)).1)

  -- the first free entry is taken and filled
  pub taken-boxes : (e : ℕ) (xs m : List ℕ) → get_or ls free_list [] ≡ e ∷ xs → length m ≡ data_words
      → (nth s free_list ≡ e) × (e < entries)
      × Boxes (taken s m) (e ∷ hand) (m ∷ hm) (set ls free_list xs) (set ms free_list (drop 1 (get_or ms free_list []))) rs
  unfolding taken
  taken-boxes e xs m q n =
      let w = first-boxes free_list e xs (omega arith) q in
      (w.0, w.1, rw (w.0, lt-ltb e entries w.1) (put_data-hand w.2 m n))

  -- element i of list l is the first whose box passes a test, or the list ends at i
  module _ (t : List ℕ → Bool) (l i : ℕ) (h : l < list_count) (q : index t (get_or ms l []) ≡ i) where
    sought : seek t s l entries ≡ slot_at l (take i (get_or ls l []))
    sought = rw q at (seek-box B l h t)

    pub found : i < length (get_or ms l []) → (nth s (seek t s l entries) ≡ get_or (get_or ls l []) i 0) × (get_or (get_or ls l []) i 0 < entries)
    found k = rw sought (slot-box B l h i (rw (length-box B l h) at k))

    pub found-boxes : i < length (get_or ms l [])
        → Boxes (unlink s (seek t s l entries)) (get_or (get_or ls l []) i 0 ∷ hand) (get_or (get_or ms l []) i [] ∷ hm)
        (set ls l (cut i (get_or ls l []))) (set ms l (cut i (get_or ms l []))) rs
    found-boxes k = rw sought (unlink-boxes B l h i (rw (length-box B l h) at k))

    pub missed : i ≡ length (get_or ms l []) → (entries ≤ nth s (seek t s l entries)) × (unlink s (seek t s l entries) ≡ s)
    missed k = rw sought (end-box B l h i (k ∙ length-box B l h))

module _ {s hand : List ℕ} {hm ls : List (List ℕ)} {ms : List (List (List ℕ))} {rs : List (List ℕ)} {e : ℕ} {m : List ℕ}
    (B : Boxes s (e ∷ hand) (m ∷ hm) ls ms rs) where
  -- the entry in hand goes in front of the first whose box passes a test
  pub placed-boxes : (t : List ℕ → Bool) (l i : ℕ) → l < list_count → index t (get_or ms l []) ≡ i
      → Boxes (insert s (seek t s l entries) e) hand hm (set ls l (put_in i e (get_or ls l []))) (set ms l (put_in i m (get_or ms l []))) rs
  placed-boxes t l i h q = rw (sought B t l i h q) (insert-boxes B l h i)

  -- the entry is zeroed and goes to the front of the free list
  pub released-boxes : Boxes (released s e) hand hm (set ls free_list (e ∷ get_or ls free_list [])) (set ms free_list (replicate data_words 0 ∷ get_or ms free_list [])) rs
  unfolding released put_in
  released-boxes = insert-boxes (put_data-hand B (replicate data_words 0) refl) free_list (omega arith) 0

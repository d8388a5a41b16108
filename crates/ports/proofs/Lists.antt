-- What a change of the segment does to its lists: an entry goes from the hand into a list and back, and data and rows are no part of any list.
use Prim.Native.Nat.{ℕ, ◌+◌, ◌≤◌, ◌<◌}
use mathlib.Core.Path.{◌≡◌, refl, ◌∙◌}
use mathlib.Core.List.{List, [], ◌∷◌, ◌++◌}
use native.Mathlib.Omega.{arith}
use native.Mathlib.Decide.{ℕ_discrete}
use lib.Dec.{ltb}
use lib.ListN.{length, get_or, set, length-set}
use lib.Seq.{get_or-set_same, get_or-set_other}
use Rattle.rules.specs.Limits.{entries}
use Rattle.occurrences.specs.Count.{count}
use Rattle.occurrences.proofs.Counts.{bit_le, bit-eq, bit-lt, count_head, count-append, count-apart, total-set, total-one, total-two}
use Rattle.occurrences.proofs.Pigeons.{holes}
use Rattle.segment.specs.Layout.{list_count, link_at, data_words, row_at, segment_bytes}
use Rattle.segment.specs.Table.{nth, put_nth, fill, put_data}
use Rattle.segment.proofs.Rows.{length-put_nth, length-fill, nth-other}
use Rattle.segment.proofs.Apart.{Slot, slot-head, length-put_data, head-put_data, link-put_data, slot-fill}
use Rattle.ports.specs.Slots.{insert, unlink}
use Rattle.ports.specs.Lists.{Chain, Lists}
use Rattle.ports.proofs.Chains.{slot_at, chain-move, chain-below, slot-at, off-slot, slot-word, insert-other, chain-insert, unlink-is, chain-unlink}

module _ {s hand : List ℕ} {ls : List (List ℕ)} (L : Lists s hand ls) where
  -- none stands twice in a list, and one that is in hand stands in none
  pub once-list : (l z : ℕ) → count z hand + count z (get_or ls l []) ≤ 1
  once-list l z = omega (arith, L.once z, total-one z ls l, bit_le (ltb z entries))

  pub once-two : (i j z : ℕ) → (i ≡ j → ⊥) → count z hand + (count z (get_or ls i []) + count z (get_or ls j [])) ≤ 1
  once-two i j z d = omega (arith, L.once z, total-two z ls i j d, bit_le (ltb z entries))

  pub small-hand : (z : ℕ) → 1 ≤ count z hand → z < entries
  small-hand z k = bit-lt z entries (omega (arith, L.once z))

  pub small-list : (l z : ℕ) → 1 ≤ count z (get_or ls l []) → z < entries
  small-list l z k = bit-lt z entries (omega (arith, L.once z, total-one z ls l))

  -- a list is short enough for the walks
  pub short : (l : ℕ) → l < list_count → length (get_or ls l []) ≤ entries
  short l h = holes entries (get_or ls l []) (chain-below s l (get_or ls l []) (L.chains l h)) (λ z. omega (arith, once-list l z))

  pub slot-in : (l : ℕ) (xs ys : List ℕ) → l < list_count → get_or ls l [] ≡ xs ++ ys → Slot (slot_at l xs)
  slot-in l xs ys h q = slot-at l xs ys (rw q at (chain-below s l (get_or ls l []) (L.chains l h))) (slot-head l h)

  -- another segment holds the same lists if it has the heads and the links of what is in them
  pub same_lists : (t : List ℕ) → length t ≡ segment_bytes → ((l : ℕ) → l < list_count → nth t l ≡ nth s l)
      → ((l z : ℕ) → 1 ≤ count z (get_or ls l []) → nth t (link_at z) ≡ nth s (link_at z)) → Lists t hand ls
  same_lists t size f g =
      record {
        size = size;
        heads = L.heads;
        once = L.once;
        chains = λ l h. chain-move s t l l (get_or ls l []) (L.chains l h) (f l h) (g l);
      }

  -- list l becomes ys and the hand changes with it: other heads, and links of what is neither in hand nor in list l, are as they were
  pub change : (t hand' : List ℕ) (l : ℕ) (ys : List ℕ) → l < list_count → length t ≡ segment_bytes → Chain t l ys
      → ((z : ℕ) → count z hand' + count z ys ≡ count z hand + count z (get_or ls l []))
      → ((j : ℕ) → j < list_count → (j ≡ l → ⊥) → nth t j ≡ nth s j)
      → ((z : ℕ) → count z hand ≡ 0 → count z (get_or ls l []) ≡ 0 → nth t (link_at z) ≡ nth s (link_at z))
      → Lists t hand' (set ls l ys)
  change t hand' l ys h size c m f g =
      record {
        size = size;
        heads = length-set ls l ys ∙ L.heads;
        once = λ z. omega (arith, L.once z, m z, total-set z ls l ys (rw L.heads h));
        chains = λ j k. go j k (ℕ_discrete j l);
      }
    where
      go : (j : ℕ) → j < list_count → Dec (j ≡ l) → Chain t j (get_or (set ls l ys) j [])
      go j k (yes e) = rw (e, get_or-set_same ls l ys [] (rw L.heads h)) c
      go j k (no d) =
          rw (get_or-set_other ls l j ys [] d)
          (chain-move s t j j (get_or ls j []) (L.chains j k) (f j k d) (λ z i. g z (omega (arith, once-list j z)) (omega (arith, once-two j l z d))))

-- the link of an entry that is not in the list is no slot of it
off-other : (l z : ℕ) (xs ys : List ℕ) → l < list_count → count z (xs ++ ys) ≡ 0 → link_at z ≡ slot_at l xs → ⊥
off-other l z xs ys h a =
    off-slot (link_at z) l xs (λ u. omega arith) (λ w i u. count-apart w z (xs ++ ys) (omega (arith, count-append w xs ys)) a (omega arith))

-- another head is not a slot of the list
off_head : (j l : ℕ) (xs : List ℕ) → j < list_count → (j ≡ l → ⊥) → j ≡ slot_at l xs → ⊥
off_head j l xs h d = off-slot j l xs d (λ z i u. omega arith)

length-insert : (s : List ℕ) (q e : ℕ) → length (insert s q e) ≡ length s
unfolding insert
length-insert s q e = simp length-put_nth

-- an entry in hand is put in after xs of list l
pub insert-lists : {s hand : List ℕ} {ls : List (List ℕ)} {e : ℕ} → Lists s (e ∷ hand) ls → (l : ℕ) (xs ys : List ℕ) → l < list_count
    → get_or ls l [] ≡ xs ++ ys → Lists (insert s (slot_at l xs) e) hand (set ls l (xs ++ e ∷ ys))
unfolding count
insert-lists {s} {hand} {ls} {e} L l xs ys h q =
    let small = small-hand L e (count_head e hand) in
    let once : (z : ℕ) → count z (e ∷ hand) + count z (xs ++ ys) ≤ 1 = λ z. rw q at (once-list L l z) in
    let c : Chain s l (xs ++ ys) = rw q at (L.chains l h) in
    change L (insert s (slot_at l xs) e) hand l (xs ++ e ∷ ys) h (length-insert s (slot_at l xs) e ∙ L.size)
    (chain-insert s L.size e small l xs ys (omega arith) c (λ z. omega (arith, once z)) (omega (arith, once e, bit-eq e e refl)) (λ z i u. omega arith) (λ u. omega arith))
    (λ z. rw q (omega (arith, count-append z xs ys, count-append z xs (e ∷ ys))))
    (λ j k d. insert-other s L.size e small (slot_at l xs) j (off_head j l xs k d) (λ u. omega arith))
    (λ z i k. insert-other s L.size e small (slot_at l xs) (link_at z) (off-other l z xs ys h (rw q at k)) (λ u. omega (arith, bit-eq e z (omega arith))))

-- the entry after xs of list l is taken out, into the hand
pub unlink-lists : {s hand : List ℕ} {ls : List (List ℕ)} → Lists s hand ls → (l e : ℕ) (xs ys : List ℕ) → l < list_count
    → get_or ls l [] ≡ xs ++ e ∷ ys → Lists (unlink s (slot_at l xs)) (e ∷ hand) (set ls l (xs ++ ys))
unfolding count
unlink-lists {s} {hand} L l e xs ys h q =
    let once : (z : ℕ) → count z hand + count z (xs ++ e ∷ ys) ≤ 1 = λ z. rw q at (once-list L l z) in
    let c : Chain s l (xs ++ e ∷ ys) = rw q at (L.chains l h) in
    let w = slot-word s l xs e ys c in
    rw (unlink-is s (slot_at l xs) e w.0 w.1)
    (change L (put_nth s (slot_at l xs) (nth s (link_at e))) (e ∷ hand) l (xs ++ ys) h (length-put_nth s (slot_at l xs) (nth s (link_at e)) ∙ L.size)
    (chain-unlink s L.size l xs e ys (omega arith) c (λ z. omega (arith, once z)) (λ z i u. omega arith))
    (λ z. rw q (omega (arith, count-append z xs ys, count-append z xs (e ∷ ys))))
    (λ j k d. nth-other s (slot_at l xs) (nth s (link_at e)) j (off_head j l xs k d))
    (λ z i k. nth-other s (slot_at l xs) (nth s (link_at e)) (link_at z) (off-other l z xs (e ∷ ys) h (rw q at k))))

-- data of an entry, or a row, are written
module _ {s hand : List ℕ} {ls : List (List ℕ)} (L : Lists s hand ls) where
  pub put_data-lists : (e : ℕ) (m : List ℕ) → length m ≡ data_words → Lists (put_data s e m) hand ls
  put_data-lists e m n = same_lists L (put_data s e m) (length-put_data s e m ∙ L.size) (head-put_data s e m) (λ l z k. link-put_data s e m n z)

  pub fill-lists : (i : ℕ) (r : List ℕ) → Lists (fill s (row_at i) r) hand ls
  fill-lists i r =
      same_lists L (fill s (row_at i) r) (length-fill s (row_at i) r ∙ L.size) (λ l h. slot-fill s i r l (omega arith))
      (λ l z k. slot-fill s i r (link_at z) (omega (arith, small-list L l z k)))

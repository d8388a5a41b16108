-- Boxes: what the slots of a segment with boxes hold, and what putting an entry in and taking one out does to them.
use Prim.Native.Nat.{ℕ, suc, ◌-◌, ◌≤◌, ◌<◌}
use mathlib.Core.Path.{◌≡◌, refl, sym, ap, ap₂, ◌∙◌}
use mathlib.Core.Bool.{Bool, true, false, cond}
use mathlib.Core.List.{List, [], ◌∷◌, ◌++◌, map}
use native.Mathlib.Omega.{arith}
use lib.Dec.{ltb}
use lib.ListN.{length, get_or, set, take, drop, length-set, length-map, take-append-drop}
use lib.Seq.{take-length, split_at}
use Rattle.rules.specs.Limits.{entries}
use Rattle.occurrences.proofs.Counts.{count_head}
use Rattle.segment.specs.Layout.{list_count, link_at, row_at, row_width}
use Rattle.segment.specs.Table.{nth, put_nth, row, data_of}
use Rattle.segment.proofs.Apart.{Slot, slot-link, data_of-slot, row-slot}
use Rattle.ports.specs.Slots.{seek, insert, unlink, append}
use Rattle.ports.specs.Lists.{Chain, Lists, Boxes}
use Rattle.ports.specs.Index.{cut, put_in, index}
use Rattle.ports.proofs.Steps.{seek_stop, seek-here, seek-step}
use Rattle.ports.proofs.Chains.{slot_at, slot-word, slot-end, end_is, unlink-none}
use Rattle.ports.proofs.Lists.{small-hand, short, slot-in, insert-lists, unlink-lists}
use Rattle.ports.proofs.Index.{put_in-end}
use Rattle.ports.proofs.Maps.{map-all, map_at, map-cut, map-put_in, map-set}

-- t is as s, except for heads and links
pub record Rest (s t : List ℕ) : Type 0 where
  pub same-data : (z : ℕ) → data_of t z ≡ data_of s z
  pub same_rows : (i : ℕ) → row t (row_at i) (row_width i) ≡ row s (row_at i) (row_width i)

insert-rest : (s : List ℕ) (p e : ℕ) → Slot p → e < entries → Rest s (insert s p e)
unfolding insert
insert-rest s p e a b =
    let t : List ℕ = put_nth s (link_at e) (nth s p) in
    record {
      same-data = λ z. data_of-slot t p e a z ∙ data_of-slot s (link_at e) (nth s p) (slot-link e b) z;
      same_rows = λ i. row-slot t p e a i ∙ row-slot s (link_at e) (nth s p) (slot-link e b) i;
    }

unlink-rest : (s : List ℕ) (p : ℕ) → Slot p → Rest s (unlink s p)
unfolding unlink
unlink-rest s p a = go (ltb (nth s p) entries)
  where
    go : (b : Bool) → Rest s (cond b (put_nth s p (nth s (link_at (nth s p)))) s)
    go true = record { same-data = data_of-slot s p (nth s (link_at (nth s p))) a; same_rows = row-slot s p (nth s (link_at (nth s p))) a }
    go false = record { same-data = λ z. refl; same_rows = λ i. refl }

-- the walk by data finds the first entry that passes the test
chain-seek : (t : List ℕ → Bool) (s : List ℕ) (p : ℕ) (xs : List ℕ) (n : ℕ) → Chain s p xs → length xs ≤ n
    → seek t s p n ≡ slot_at p (take (index t (map (data_of s) xs)) xs)
unfolding Chain index
chain-seek t s p [] n c k = seek_stop s p (nth s p) refl t n (omega arith)
chain-seek t s p (x ∷ xs) n c k = go (t (data_of s x)) refl (λ m. chain-seek t s (link_at x) xs (n - 1) c.2 m)
  where
    go : (b : Bool) → t (data_of s x) ≡ b → (length xs ≤ n - 1 → seek t s (link_at x) (n - 1) ≡ slot_at (link_at x) (take (index t (map (data_of s) xs)) xs))
        → seek t s p n ≡ slot_at p (take (index t (map (data_of s) (x ∷ xs))) (x ∷ xs))
    go true e r = rw (e, index) (seek-here s p x (sym c.0) t n c.1 e)
    go false e r = rw (e, index) (seek-step s p x (sym c.0) t n (omega arith) c.1 e ∙ r (omega arith))

module _ {s hand : List ℕ} {hm ls : List (List ℕ)} {ms : List (List (List ℕ))} {rs : List (List ℕ)} (B : Boxes s hand hm ls ms rs) where
  -- other lists, of entries that hold what they held
  pub relist : (t hand' : List ℕ) (hm' ls' : List (List ℕ)) (ms' : List (List (List ℕ))) → Rest s t → Lists t hand' ls' → map (data_of s) hand' ≡ hm'
      → length ms' ≡ list_count → ((l : ℕ) → l < list_count → map (data_of s) (get_or ls' l []) ≡ get_or ms' l []) → Boxes t hand' hm' ls' ms' rs
  relist t hand' hm' ls' ms' r L h n f =
      record {
        lists = L;
        held = map-all (data_of t) (data_of s) hand' r.same-data ∙ h;
        boxes = λ l k. map-all (data_of t) (data_of s) (get_or ls' l []) r.same-data ∙ f l k;
        sized = n;
        rows = λ i k. r.same_rows i ∙ B.rows i k;
        rowed = B.rowed;
      }

  -- list l: as many boxes as entries, and what element i holds
  module _ (l : ℕ) (h : l < list_count) where
    pub length-box : length (get_or ms l []) ≡ length (get_or ls l [])
    length-box = ap length (sym (B.boxes l h)) ∙ length-map (get_or ls l []) (data_of s)

    pub data-box : (i : ℕ) → i < length (get_or ls l []) → data_of s (get_or (get_or ls l []) i 0) ≡ get_or (get_or ms l []) i []
    data-box i k = sym (map_at (data_of s) (get_or ls l []) i 0 [] k) ∙ ap (λ b. get_or b i []) (B.boxes l h)

    -- what its slots hold, the last a number that is no entry's
    pub slot-box : (i : ℕ) → i < length (get_or ls l [])
        → (nth s (slot_at l (take i (get_or ls l []))) ≡ get_or (get_or ls l []) i 0) × (get_or (get_or ls l []) i 0 < entries)
    slot-box i k =
        slot-word s l (take i (get_or ls l [])) (get_or (get_or ls l []) i 0) (drop (suc i) (get_or ls l []))
        (rw (← split_at (get_or ls l []) i 0 k) (B.lists.chains l h))

    pub end-box : (i : ℕ) → i ≡ length (get_or ls l [])
        → (entries ≤ nth s (slot_at l (take i (get_or ls l [])))) × (unlink s (slot_at l (take i (get_or ls l []))) ≡ s)
    end-box i k =
        let n = slot-end s l (get_or ls l []) (B.lists.chains l h) in
        rw (k, take-length (get_or ls l [])) (n, unlink-none s (slot_at l (get_or ls l [])) n)

    -- where the first box stands that passes a test
    pub seek-box : (t : List ℕ → Bool) → seek t s l entries ≡ slot_at l (take (index t (get_or ms l [])) (get_or ls l []))
    seek-box t = rw (← B.boxes l h) (chain-seek t s l (get_or ls l []) entries (B.lists.chains l h) (short B.lists l h))

    -- element i is taken out, into the hand
    pub unlink-boxes : (i : ℕ) → i < length (get_or ls l [])
        → Boxes (unlink s (slot_at l (take i (get_or ls l [])))) (get_or (get_or ls l []) i 0 ∷ hand) (get_or (get_or ms l []) i [] ∷ hm)
        (set ls l (cut i (get_or ls l []))) (set ms l (cut i (get_or ms l []))) rs
    unfolding cut
    unlink-boxes i k =
        let q = split_at (get_or ls l []) i 0 k in
        relist _ _ _ _ _ (unlink-rest s (slot_at l (take i (get_or ls l []))) (slot-in B.lists l (take i (get_or ls l [])) _ h q))
        (unlink-lists B.lists l (get_or (get_or ls l []) i 0) (take i (get_or ls l [])) (drop (suc i) (get_or ls l [])) h q)
        (ap₂ {C = List (List ℕ)} (λ x y. x ∷ y) (data-box i k) B.held) (length-set ms l _ ∙ B.sized)
        (λ j g. rw (← B.boxes l h, ← map-cut (data_of s) i (get_or ls l []))
        (map-set (data_of s) ls ms l (cut i (get_or ls l [])) (rw B.lists.heads h) (rw B.sized h) j (B.boxes j g)))

module _ {s hand : List ℕ} {hm ls : List (List ℕ)} {ms : List (List (List ℕ))} {rs : List (List ℕ)} {e : ℕ} {m : List ℕ}
    (B : Boxes s (e ∷ hand) (m ∷ hm) ls ms rs) (l : ℕ) (h : l < list_count) where
  -- the entry in hand becomes element i
  pub insert-boxes : (i : ℕ) → Boxes (insert s (slot_at l (take i (get_or ls l []))) e) hand hm (set ls l (put_in i e (get_or ls l []))) (set ms l (put_in i m (get_or ms l []))) rs
  unfolding put_in
  insert-boxes i =
      let q = sym (take-append-drop i (get_or ls l [])) in
      let here : data_of s e ≡ m = cc B.held in
      relist B _ _ _ _ _
      (insert-rest s (slot_at l (take i (get_or ls l []))) e (slot-in B.lists l (take i (get_or ls l [])) _ h q) (small-hand B.lists e (count_head e hand)))
      (insert-lists B.lists l (take i (get_or ls l [])) (drop i (get_or ls l [])) h q) (cc B.held) (length-set ms l _ ∙ B.sized)
      (λ j g. rw (← B.boxes l h, ← here, ← map-put_in (data_of s) i e (get_or ls l []))
      (map-set (data_of s) ls ms l (put_in i e (get_or ls l [])) (rw B.lists.heads h) (rw B.sized h) j (B.boxes j g)))

  append-is : append s l e ≡ insert s (slot_at l (take (length (get_or ls l [])) (get_or ls l []))) e
  unfolding append
  append-is = rw (end_is s l (get_or ls l []) entries (B.lists.chains l h) (short B.lists l h), take-length (get_or ls l []))

  -- the last
  pub append-boxes : Boxes (append s l e) hand hm (set ls l (get_or ls l [] ++ e ∷ [])) (set ms l (get_or ms l [] ++ m ∷ [])) rs
  append-boxes =
      rw (append-is, ← put_in-end e (get_or ls l []), ← put_in-end m (get_or ms l []), length-box B l h) (insert-boxes (length (get_or ls l [])))

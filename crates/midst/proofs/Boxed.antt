-- A segment whose lists and their contents are known one by one, by their numbers: what the moves of entries do to it.
use Prim.Native.Nat.{ℕ, ◌≤◌, ◌<◌}
use mathlib.Core.Path.{◌≡◌, refl, sym, ap, ◌∙◌}
use mathlib.Core.Bool.{Bool, cond}
use mathlib.Core.List.{List, [], ◌∷◌}
use native.Mathlib.Omega.{arith}
use native.Mathlib.Decide.{ℕ_discrete}
use borrow.Author.Tests.{eq-eqb, ne_eqb}
use lib.Dec.{eqb}
use lib.ListN.{length, get_or, set, replicate}
use lib.Seq.{get_or-set_same, get_or-set_other}
use Rattle.rules.specs.Limits.{entries}
use Rattle.segment.specs.Layout.{list_count, free_list, data_words}
use Rattle.segment.specs.Table.{nth, put_data}
use Rattle.ports.specs.Slots.{seek, insert, unlink, released}
use Rattle.ports.specs.Lists.{Boxes}
use Rattle.ports.specs.Index.{cut, put_in, index}
use Rattle.ports.proofs.Boxes.{insert-boxes}
use Rattle.ports.proofs.Contents.{put_data-hand}
use Rattle.ports.proofs.Moves.{first-boxes, found, found-boxes, missed, released-boxes}

-- list l is ls l, and its entries hold ms l
pub record Boxed (s hand : List ℕ) (hm : List (List ℕ)) (ls : ℕ → List ℕ) (ms : ℕ → List (List ℕ)) (rs : List (List ℕ)) : Type 0 where
  pub heads : List (List ℕ)
  pub datas : List (List (List ℕ))
  pub boxes : Boxes s hand hm heads datas rs
  pub lists : (l : ℕ) → l < list_count → get_or heads l [] ≡ ls l
  pub holds : (l : ℕ) → l < list_count → get_or datas l [] ≡ ms l

-- one value set
unfoldable pub over : {A : Type 0} → ℕ → A → (ℕ → A) → ℕ → A
over l v g j = cond (eqb j l) v (g j)

module _ {A : Type 0} (l : ℕ) (v : A) (g : ℕ → A) where
  pub over-same : over l v g l ≡ v
  unfolding over
  over-same = rw (eq-eqb l l refl)

  pub over-other : (j : ℕ) → (j ≡ l → ⊥) → over l v g j ≡ g j
  unfolding over
  over-other j n = rw (ne_eqb j l n)

  pub over-still : g l ≡ v → (j : ℕ) → over l v g j ≡ g j
  over-still e j = go (ℕ_discrete j l)
    where
      go : Dec (j ≡ l) → over l v g j ≡ g j
      go (yes k) = rw k (over-same ∙ sym e)
      go (no k) = over-other j k

-- a list of lists, and the same by numbers
set-over : {A : Type 0} (xs : List (List A)) (g : ℕ → List A) (l : ℕ) (v : List A) → length xs ≡ list_count → l < list_count
    → ((j : ℕ) → j < list_count → get_or xs j [] ≡ g j) → (j : ℕ) → j < list_count → get_or (set xs l v) j [] ≡ over l v g j
set-over xs g l v n h e j k = go (ℕ_discrete j l)
  where
    go : Dec (j ≡ l) → get_or (set xs l v) j [] ≡ over l v g j
    go (yes z) = rw z (get_or-set_same xs l v [] (rw n h) ∙ sym (over-same l v g))
    go (no z) = get_or-set_other xs l j v [] z ∙ e j k ∙ sym (over-other l v g j z)

module _ {s hand : List ℕ} {hm : List (List ℕ)} {ls : ℕ → List ℕ} {ms : ℕ → List (List ℕ)} {rs : List (List ℕ)} (B : Boxed s hand hm ls ms rs) where
  -- said otherwise
  pub recast : (xs : ℕ → List ℕ) (ns : ℕ → List (List ℕ)) → ((l : ℕ) → l < list_count → ls l ≡ xs l) → ((l : ℕ) → l < list_count → ms l ≡ ns l)
      → Boxed s hand hm xs ns rs
  recast xs ns e f =
      record { heads = B.heads; datas = B.datas; boxes = B.boxes; lists = λ l h. B.lists l h ∙ e l h; holds = λ l h. B.holds l h ∙ f l h }

  -- list l becomes v, and its contents n
  became : (s' hand' : List ℕ) (hm' : List (List ℕ)) (l : ℕ) (v : List ℕ) (n : List (List ℕ)) → l < list_count
      → Boxes s' hand' hm' (set B.heads l v) (set B.datas l n) rs → Boxed s' hand' hm' (over l v ls) (over l n ms) rs
  became s' hand' hm' l v n h C =
      record {
        heads = set B.heads l v;
        datas = set B.datas l n;
        boxes = C;
        lists = set-over B.heads ls l v B.boxes.lists.heads h B.lists;
        holds = set-over B.datas ms l n B.boxes.sized h B.holds;
      }

  module _ (t : List ℕ → Bool) (l i : ℕ) (h : l < list_count) (q : index t (ms l) ≡ i) where
    here : index t (get_or B.datas l []) ≡ i
    here = ap (index t) (B.holds l h) ∙ q

    -- the first of list l that passes a test is taken out, into the hand
    pub out-boxed : i < length (ms l) → (e : ℕ) → get_or (ls l) i 0 ≡ e
        → (nth s (seek t s l entries) ≡ e) × (e < entries)
        × Boxed (unlink s (seek t s l entries)) (e ∷ hand) (get_or (ms l) i [] ∷ hm) (over l (cut i (ls l)) ls) (over l (cut i (ms l)) ms) rs
    out-boxed k e u =
        let k' : i < length (get_or B.datas l []) = rw (B.holds l h) k in
        let w = found B.boxes t l i h here k' in
        let v : get_or (get_or B.heads l []) i 0 ≡ e = rw (B.lists l h) u in (
          w.0 ∙ v,
          rw v at w.1,
          became _ _ _ l (cut i (ls l)) (cut i (ms l)) h
              (rw (← B.lists l h, ← B.holds l h, ← v) (found-boxes B.boxes t l i h here k')),
        )

    -- none does
    pub none-boxed : i ≡ length (ms l) → (entries ≤ nth s (seek t s l entries)) × (unlink s (seek t s l entries) ≡ s)
    none-boxed k = missed B.boxes t l i h here (rw (B.holds l h) k)

  -- the first of list l is taken out
  pub first-boxed : (l e : ℕ) (xs m : List ℕ) (ns : List (List ℕ)) → l < list_count → ls l ≡ e ∷ xs → ms l ≡ m ∷ ns
      → (nth s l ≡ e) × (e < entries) × Boxed (unlink s l) (e ∷ hand) (m ∷ hm) (over l xs ls) (over l ns ms) rs
  first-boxed l e xs m ns h q r =
      let w = first-boxes B.boxes l e xs h (B.lists l h ∙ q) in
      let g : get_or B.datas l [] ≡ m ∷ ns = B.holds l h ∙ r in
      (w.0, w.1, became _ _ _ l xs ns h (rw g at w.2))

module _ {s hand : List ℕ} {hm : List (List ℕ)} {ls : ℕ → List ℕ} {ms : ℕ → List (List ℕ)} {rs : List (List ℕ)} {e : ℕ} {m : List ℕ}
    (B : Boxed s (e ∷ hand) (m ∷ hm) ls ms rs) where
  -- the entry in hand is freed
  pub released-boxed : Boxed (released s e) hand hm (over free_list (e ∷ ls free_list) ls) (over free_list (replicate data_words 0 ∷ ms free_list) ms) rs
  released-boxed =
      became B _ _ _ free_list _ _ (omega arith)
      (rw (← B.lists free_list (omega arith), ← B.holds free_list (omega arith)) (released-boxes B.boxes))

  -- the entry gets the data n and goes to the front of list l
  pub posted-boxed : (n : List ℕ) (l : ℕ) → length n ≡ data_words → l < list_count
      → Boxed (insert (put_data s e n) l e) hand hm (over l (e ∷ ls l) ls) (over l (n ∷ ms l) ms) rs
  unfolding put_in
  posted-boxed n l k h =
      became B _ _ _ l _ _ h
      (rw (← B.lists l h, ← B.holds l h) (insert-boxes (put_data-hand B.boxes n k) l h 0))

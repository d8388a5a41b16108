-- Boxes: what writing an entry's data or a row does to them. The lists stay.
use Prim.Native.Nat.{ℕ, ◌≤◌, ◌<◌}
use mathlib.Core.Path.{◌≡◌, sym, ap, ap₂, ◌∙◌}
use mathlib.Core.List.{List, [], ◌∷◌, map}
use native.Mathlib.Omega.{arith}
use native.Mathlib.Decide.{ℕ_discrete}
use lib.ListN.{length, get_or, set, length-set}
use lib.Seq.{get_or-set_same, get_or-set_other}
use Rattle.rules.specs.Limits.{entries}
use Rattle.occurrences.specs.Count.{count}
use Rattle.occurrences.proofs.Counts.{bit-eq, count_head, count_at}
use Rattle.segment.specs.Layout.{list_count, data_words, row_count, row_at, row_width}
use Rattle.segment.specs.Table.{row, fill, data_of, put_data}
use Rattle.segment.proofs.Apart.{data_of-same, data_of-other, row-put_data, row-fill-same, row-fill-other, data_of-fill}
use Rattle.ports.specs.Lists.{Boxes}
use Rattle.ports.proofs.Lists.{once-list, once-two, small-hand, small-list, put_data-lists, fill-lists}
use Rattle.ports.proofs.Maps.{map-in, map-but}
use Rattle.ports.proofs.Boxes.{slot-box}

-- the data of the entry in hand
pub put_data-hand : {s hand : List ℕ} {hm ls : List (List ℕ)} {ms : List (List (List ℕ))} {rs : List (List ℕ)} {e : ℕ} {m : List ℕ}
    → Boxes s (e ∷ hand) (m ∷ hm) ls ms rs → (n : List ℕ) → length n ≡ data_words → Boxes (put_data s e n) (e ∷ hand) (n ∷ hm) ls ms rs
unfolding count
put_data-hand {s} {hand} {hm} {ls} {ms} {rs} {e} {m} B n k =
    let small = small-hand B.lists e (count_head e hand) in
    let other : (z : ℕ) → (z ≡ e → ⊥) → data_of (put_data s e n) z ≡ data_of s z = data_of-other s e n k in
    record {
      lists = put_data-lists B.lists e n k;
      held = ap₂ {C = List (List ℕ)} (λ x y. x ∷ y) (data_of-same s e n k B.lists.size small)
          (map-in (data_of (put_data s e n)) (data_of s) hand (λ z i. other z (λ u. omega (arith, once-list B.lists 0 z, bit-eq e z (sym u)))) ∙ cc B.held);
      boxes = λ l h. map-in (data_of (put_data s e n)) (data_of s) (get_or ls l []) (λ z i. other z (λ u. omega (arith, once-list B.lists l z, bit-eq e z (sym u)))) ∙ B.boxes l h;
      sized = B.sized;
      rows = λ i h. row-put_data s e n k small i ∙ B.rows i h;
      rowed = B.rowed;
    }

module _ {s hand : List ℕ} {hm ls : List (List ℕ)} {ms : List (List (List ℕ))} {rs : List (List ℕ)} (B : Boxes s hand hm ls ms rs) where
  -- the data of element i of list l, where it stands
  pub put_data-list : (l i : ℕ) (n : List ℕ) → l < list_count → i < length (get_or ls l []) → length n ≡ data_words
      → Boxes (put_data s (get_or (get_or ls l []) i 0) n) hand hm ls (set ms l (set (get_or ms l []) i n)) rs
  put_data-list l i n h k w =
      record {
        lists = put_data-lists B.lists e n w;
        held = map-in (data_of (put_data s e n)) (data_of s) hand (λ z g. other z (λ u. omega (arith, ap (λ y. count y hand) u, once-list B.lists l e, in_list))) ∙ B.held;
        boxes = λ j g. box j g (ℕ_discrete j l);
        sized = length-set ms l _ ∙ B.sized;
        rows = λ j g. row-put_data s e n w small j ∙ B.rows j g;
        rowed = B.rowed;
      }
    where
      e : ℕ
      e = get_or (get_or ls l []) i 0

      small : e < entries
      small = (slot-box B l h i k).1

      in_list : 1 ≤ count e (get_or ls l [])
      in_list = count_at (get_or ls l []) i k

      other : (z : ℕ) → (z ≡ e → ⊥) → data_of (put_data s e n) z ≡ data_of s z
      other = data_of-other s e n w

      box : (j : ℕ) → j < list_count → Dec (j ≡ l) → map (data_of (put_data s e n)) (get_or ls j []) ≡ get_or (set ms l (set (get_or ms l []) i n)) j []
      box j g (yes u) =
          rw (u, get_or-set_same ms l (set (get_or ms l []) i n) [] (rw B.sized h), ← B.boxes l h)
          (map-but (data_of (put_data s e n)) (data_of s) (get_or ls l []) i n k (data_of-same s e n w B.lists.size small) other (omega (arith, once-list B.lists l e)))
      box j g (no u) =
          rw (get_or-set_other ms l j (set (get_or ms l []) i n) [] u)
          (map-in (data_of (put_data s e n)) (data_of s) (get_or ls j [])
          (λ z c. other z (λ v. omega (arith, ap (λ y. count y (get_or ls j [])) v, once-two B.lists j l e u, in_list)))
          ∙ B.boxes j g)

  -- row i
  pub fill-boxes : (i : ℕ) (r : List ℕ) → i < row_count → length r ≡ row_width i → Boxes (fill s (row_at i) r) hand hm ls ms (set rs i r)
  fill-boxes i r h n =
      record {
        lists = fill-lists B.lists i r;
        held = map-in (data_of (fill s (row_at i) r)) (data_of s) hand (λ z k. data_of-fill s i r z (small-hand B.lists z k)) ∙ B.held;
        boxes = λ l k. map-in (data_of (fill s (row_at i) r)) (data_of s) (get_or ls l []) (λ z g. data_of-fill s i r z (small-list B.lists l z g)) ∙ B.boxes l k;
        sized = B.sized;
        rows = λ j k. go j k (ℕ_discrete j i);
        rowed = length-set rs i r ∙ B.rowed;
      }
    where
      go : (j : ℕ) → j < row_count → Dec (j ≡ i) → row (fill s (row_at i) r) (row_at j) (row_width j) ≡ get_or (set rs i r) j []
      go j k (yes e) = rw (e, get_or-set_same rs i r [] (rw B.rowed h)) (row-fill-same s i r n B.lists.size h)
      go j k (no d) = rw (get_or-set_other rs i j r [] d) (row-fill-other s i r n j d ∙ B.rows j k)

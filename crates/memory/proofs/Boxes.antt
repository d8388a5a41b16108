-- A segment that stands for a desk, as the boxes and rows of `ports`, and back.
use Prim.Native.Nat.{ℕ, suc, ◌≤◌, ◌<◌}
use mathlib.Core.Path.{◌≡◌, refl, ap, ◌∙◌}
use mathlib.Core.List.{List, [], ◌∷◌}
use native.Mathlib.Omega.{arith}
use native.Mathlib.Decide.{dec_lt}
use lib.ListN.{length, get_or}
use borrow.Author.Tests.{lt-ltb}
use Rattle.occurrences.specs.Count.{bit, count, total}
use Rattle.segment.specs.Layout.{list_count, row_count}
use Rattle.ports.specs.Lists.{Boxes}
use Rattle.rules.specs.Limits.{entries}
use Rattle.rules.specs.Desk.{Desk}
use Rattle.rules.specs.Allocation.{Alloc}
use Rattle.laws.proofs.Lists.{length_up, get_or-all}
use Rattle.memory.specs.Image.{row_of, list_of, box_of, lists_of, boxes_of, rows_of}
use Rattle.memory.specs.Stands.{Segment}
use Rattle.words.specs.Word.{Bytes}
use Rattle.memory.specs.Covers.{Covers, Once}

module _ (d : Desk) (s : Alloc) where
  pub get_or-lists_of : (l : ℕ) → l < list_count → get_or (lists_of d s) l [] ≡ list_of d s l
  unfolding lists_of
  get_or-lists_of l h = get_or-all (list_of d s) list_count l [] h

  pub get_or-boxes_of : (l : ℕ) → l < list_count → get_or (boxes_of d s) l [] ≡ box_of d s l
  unfolding boxes_of
  get_or-boxes_of l h = get_or-all (box_of d s) list_count l [] h

  pub get_or-rows_of : (i : ℕ) → i < row_count → get_or (rows_of d) i [] ≡ row_of d i
  unfolding rows_of
  get_or-rows_of i h = get_or-all (row_of d) row_count i [] h

  pub segment-boxes : (xs : List ℕ) → Once d s → Segment xs d s → Boxes xs [] [] (lists_of d s) (boxes_of d s) (rows_of d)
  segment-boxes xs once S = record {
    lists = record {
      size = S.size;
      heads = unfold lists_of in length_up (list_of d s) list_count 0;
      once = λ x. unfold count in omega (arith, once x);
      chains = λ l h. rw (get_or-lists_of l h) (S.chains l h);
    };
    held = refl;
    boxes = λ l h. rw (get_or-lists_of l h, get_or-boxes_of l h) (S.boxes l h);
    sized = unfold boxes_of in length_up (box_of d s) list_count 0;
    rows = λ i h. rw (get_or-rows_of i h) (S.rows i h);
    rowed = unfold rows_of in length_up (row_of d) row_count 0;
  }

  -- nothing in hand, and boxes and rows as the desk has them
  pub boxes-segment : (xs : List ℕ) (hm ls : List (List ℕ)) (ms : List (List (List ℕ))) (rs : List (List ℕ)) → Bytes xs → Boxes xs [] hm ls ms rs
      → ((l : ℕ) → l < list_count → get_or ls l [] ≡ list_of d s l)
      → ((l : ℕ) → l < list_count → get_or ms l [] ≡ box_of d s l)
      → ((i : ℕ) → i < row_count → get_or rs i [] ≡ row_of d i)
      → Segment xs d s
  boxes-segment xs hm ls ms rs bytes B el em er = record {
    bytes = bytes;
    size = B.lists.size;
    chains = λ l h. rw (← el l h) (B.lists.chains l h);
    boxes = λ l h. rw (← el l h, ← em l h) (B.boxes l h);
    rows = λ i h. B.rows i h ∙ er i h;
  }

-- an entry that stands in some list

find : (x : ℕ) (ls : List (List ℕ)) → 1 ≤ total x ls → (l : ℕ) × (l < length ls) × (1 ≤ count x (get_or ls l []))
unfolding total
find x [] h = absurd (omega arith)
find x (xs ∷ ls) h = go (dec_lt 0 (count x xs)) (λ k. find x ls k)
  where
    go : Dec (0 < count x xs) → (1 ≤ total x ls → (l : ℕ) × (l < length ls) × (1 ≤ count x (get_or ls l [])))
        → (l : ℕ) × (l < suc (length ls)) × (1 ≤ count x (get_or (xs ∷ ls) l []))
    go (yes k) r = (0, omega arith, k)
    go (no k) r = let (l, a, b) = r (omega arith) in (suc l, omega arith, b)

pub once-covers : (d : Desk) (s : Alloc) → Once d s → Covers d s
once-covers d s once e h =
    let (l, a, b) = find e (lists_of d s) (omega (arith, once e, ap bit (lt-ltb e entries h))) in
    let k : l < list_count = rw long at a in
    (l, k, rw (get_or-lists_of d s l k) at b)
  where
    long : length (lists_of d s) ≡ list_count
    long = unfold lists_of in length_up (list_of d s) list_count 0

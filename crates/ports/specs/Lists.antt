-- The lists that a segment's bytes stand for, and what their entries hold.
use Rattle.std.specs.Prelude.{ℕ, ◌+◌, ◌<◌, ◌≡◌, List, [], ◌∷◌, map, ltb, length, get_or}
use Rattle.rules.specs.Limits.{entries}
use Rattle.occurrences.specs.Count.{bit, count, total}
use Rattle.segment.specs.Layout.{list_count, nil, link_at, row_count, row_at, row_width, segment_bytes}
use Rattle.segment.specs.Table.{nth, row, data_of}

-- the links from slot p lead through the entries xs, in this order, and then to nil
unfoldable pub Chain : List ℕ → ℕ → List ℕ → Type 0
Chain s p [] = nth s p ≡ nil
Chain s p (x ∷ xs) = (nth s p ≡ x) × (x < entries) × Chain s (link_at x) xs

-- the segment holds the lists ls, one for each head, and "Each ten-word entry is always on exactly one list", or in hand
pub record Lists (s hand : List ℕ) (ls : List (List ℕ)) : Type 0 where
  pub size : length s ≡ segment_bytes
  pub heads : length ls ≡ list_count
  pub once : (x : ℕ) → count x hand + total x ls ≡ bit (ltb x entries)
  pub chains : (l : ℕ) → l < list_count → Chain s l (get_or ls l [])

-- a segment as boxes and rows: the entries in hand hold hm, those in list l hold ms l, and row i is rs i
pub record Boxes (s hand : List ℕ) (hm : List (List ℕ)) (ls : List (List ℕ)) (ms : List (List (List ℕ))) (rs : List (List ℕ)) : Type 0 where
  pub lists : Lists s hand ls
  pub held : map (data_of s) hand ≡ hm
  pub boxes : (l : ℕ) → l < list_count → map (data_of s) (get_or ls l []) ≡ get_or ms l []
  pub sized : length ms ≡ list_count
  pub rows : (i : ℕ) → i < row_count → row s (row_at i) (row_width i) ≡ get_or rs i []
  pub rowed : length rs ≡ row_count

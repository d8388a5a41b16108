-- Heads, links, data and rows lie apart: what is written to one of them is read there, and every other is as it was.
use Prim.Native.Nat.{ℕ, ◌+◌, ◌-◌, ◌%◌, ◌≤◌, ◌<◌}
use mathlib.Core.Path.{◌≡◌, refl}
use mathlib.Core.List.{List}
use mathlib.Core.Logic.{◌⊎◌, inl, inr}
use native.Mathlib.Omega.{arith}
use native.Mathlib.Decide.{dec_lt}
use borrow.Author.Tests.{lt-ltb, le-ltb}
use lib.ListN.{length}
use Rattle.rules.specs.Limits.{files, entries}
use Rattle.segment.specs.Layout.{list_count, entry_width, link_at, data_at, data_words, file_width, place_width, file_rows, segment_words, segment_bytes, file_row_at, place_row_at, row_count, file_row, place_row, row_at, row_width}
use Rattle.segment.specs.Table.{put_nth, nth, row, fill, data_of, put_data}
use Rattle.segment.proofs.Rows.{nth-other, length-fill, fill-below, fill-above, row-fill, row_same, row_other}

-- rows by their number, and by their kind

pub row-file : (f : ℕ) → f < files → (row_at (file_row f) ≡ file_row_at f) × (row_width (file_row f) ≡ file_width)
unfolding row_at row_width
row-file f h = rw (lt-ltb f files h) (refl, refl)

pub row-place : (i : ℕ) → (row_at (place_row i) ≡ place_row_at i) × (row_width (place_row i) ≡ place_width)
unfolding row_at row_width
row-place i = let e : files + i - files ≡ i = omega arith in rw (le-ltb (files + i) files (omega arith), e) (refl, refl)

pub words-file : (s : List ℕ) (f : ℕ) → f < files → row s (row_at (file_row f)) (row_width (file_row f)) ≡ row s (file_row_at f) file_width
words-file s f h = rw ((row-file f h).0, (row-file f h).1)

pub words-place : (s : List ℕ) (i : ℕ) → row s (row_at (place_row i)) (row_width (place_row i)) ≡ row s (place_row_at i) place_width
words-place s i = rw ((row-place i).0, (row-place i).1)

-- what holds of the rows of files and of places holds of all
pub each_row : (P : ℕ → Type 0) → ((f : ℕ) → f < files → P (file_row f)) → ((i : ℕ) → P (place_row i)) → (i : ℕ) → P i
each_row P file place i = go (dec_lt i files)
  where
    go : Dec (i < files) → P i
    go (yes h) = file i h
    go (no h) = let p : ℕ = i - files in let e : i ≡ files + p = omega arith in rw e (place p)

row-behind : (i : ℕ) → file_rows ≤ row_at i
row-behind = each_row (λ i. file_rows ≤ row_at i) (λ f h. omega (arith, row-file f h)) (λ i. omega (arith, row-place i))

row_within : (i : ℕ) → i < row_count → row_at i + row_width i ≤ segment_words
row_within = each_row (λ i. i < row_count → row_at i + row_width i ≤ segment_words) (λ f h _. omega (arith, row-file f h)) (λ i h. omega (arith, row-place i))

row-order : (j i : ℕ) → j < i → row_at j + row_width j ≤ row_at i
row-order =
    each_row (λ j. (i : ℕ) → j < i → row_at j + row_width j ≤ row_at i)
    (λ g k. each_row (λ i. g < i → row_at g + row_width g ≤ row_at i) (λ f h l. omega (arith, row-file g k, row-file f h)) (λ i l. omega (arith, row-file g k, row-place i)))
    (λ p. each_row (λ i. place_row p < i → row_at (place_row p) + row_width (place_row p) ≤ row_at i) (λ f h l. absurd (omega arith)) (λ i l. omega (arith, row-place p, row-place i)))

rows_apart : (j i : ℕ) → (j ≡ i → ⊥) → (row_at j + row_width j ≤ row_at i) ⊎ (row_at i + row_width i ≤ row_at j)
rows_apart j i d = go (dec_lt j i)
  where
    go : Dec (j < i) → (row_at j + row_width j ≤ row_at i) ⊎ (row_at i + row_width i ≤ row_at j)
    go (yes h) = inl (row-order j i h)
    go (no h) = inr (row-order i j (omega arith))

-- word p is a list's head or an entry's link
abbrev pub Slot : ℕ → Type 0
Slot p = (p < file_rows) × (list_count ≤ p → (p - list_count) % entry_width ≡ 0)

pub slot-head : (l : ℕ) → l < list_count → Slot l
slot-head l h = (omega arith, λ k. absurd (omega arith))

pub slot-link : (e : ℕ) → e < entries → Slot (link_at e)
slot-link e h = (omega arith, λ k. omega arith)

-- a head or a link is written: data and rows stay

pub data_of-slot : (s : List ℕ) (p v : ℕ) → Slot p → (z : ℕ) → data_of (put_nth s p v) z ≡ data_of s z
unfolding data_of
data_of-slot s p v h z =
    row_same s (put_nth s p v) (data_at z) data_words (λ j a b. nth-other s p v j (λ u. omega (arith, h.1 (omega arith))))

pub row-slot : (s : List ℕ) (p v : ℕ) → Slot p → (i : ℕ) → row (put_nth s p v) (row_at i) (row_width i) ≡ row s (row_at i) (row_width i)
row-slot s p v h i = row_same s (put_nth s p v) (row_at i) (row_width i) (λ j a b. nth-other s p v j (λ u. omega (arith, row-behind i)))

-- the data of an entry are written

pub length-put_data : (s : List ℕ) (e : ℕ) (m : List ℕ) → length (put_data s e m) ≡ length s
unfolding put_data
length-put_data s e m = length-fill s (data_at e) m

pub head-put_data : (s : List ℕ) (e : ℕ) (m : List ℕ) (l : ℕ) → l < list_count → nth (put_data s e m) l ≡ nth s l
unfolding put_data
head-put_data s e m l h = fill-below s (data_at e) m l (omega arith)

module _ (s : List ℕ) (e : ℕ) (m : List ℕ) (n : length m ≡ data_words) where
  pub data_of-same : length s ≡ segment_bytes → e < entries → data_of (put_data s e m) e ≡ m
  unfolding data_of put_data
  data_of-same size h = rw n at (row-fill s (data_at e) m (omega arith))

  pub data_of-other : (z : ℕ) → (z ≡ e → ⊥) → data_of (put_data s e m) z ≡ data_of s z
  unfolding data_of put_data
  data_of-other z d = go (dec_lt z e)
    where
      go : Dec (z < e) → data_of (put_data s e m) z ≡ data_of s z
      go (yes h) = row_other s (data_at e) m (data_at z) data_words (inl (omega arith))
      go (no h) = row_other s (data_at e) m (data_at z) data_words (inr (omega arith))

  pub link-put_data : (z : ℕ) → nth (put_data s e m) (link_at z) ≡ nth s (link_at z)
  unfolding put_data
  link-put_data z = go (dec_lt e z)
    where
      go : Dec (e < z) → nth (put_data s e m) (link_at z) ≡ nth s (link_at z)
      go (yes h) = fill-above s (data_at e) m (link_at z) (omega arith)
      go (no h) = fill-below s (data_at e) m (link_at z) (omega arith)

  pub row-put_data : e < entries → (i : ℕ) → row (put_data s e m) (row_at i) (row_width i) ≡ row s (row_at i) (row_width i)
  unfolding put_data
  row-put_data h i = row_other s (data_at e) m (row_at i) (row_width i) (inr (omega (arith, row-behind i)))

-- a row is written

pub slot-fill : (s : List ℕ) (i : ℕ) (r : List ℕ) (p : ℕ) → p < file_rows → nth (fill s (row_at i) r) p ≡ nth s p
slot-fill s i r p h = fill-below s (row_at i) r p (omega (arith, row-behind i))

pub data_of-fill : (s : List ℕ) (i : ℕ) (r : List ℕ) (z : ℕ) → z < entries → data_of (fill s (row_at i) r) z ≡ data_of s z
unfolding data_of
data_of-fill s i r z h = row_other s (row_at i) r (data_at z) data_words (inl (omega (arith, row-behind i)))

module _ (s : List ℕ) (i : ℕ) (r : List ℕ) (n : length r ≡ row_width i) where
  pub row-fill-same : length s ≡ segment_bytes → i < row_count → row (fill s (row_at i) r) (row_at i) (row_width i) ≡ r
  row-fill-same size h = rw n at (row-fill s (row_at i) r (omega (arith, row_within i h)))

  pub row-fill-other : (j : ℕ) → (j ≡ i → ⊥) → row (fill s (row_at i) r) (row_at j) (row_width j) ≡ row s (row_at j) (row_width j)
  row-fill-other j d = row_other s (row_at i) r (row_at j) (row_width j) (go (rows_apart j i d))
    where
      go : (row_at j + row_width j ≤ row_at i) ⊎ (row_at i + row_width i ≤ row_at j) → (row_at j + row_width j ≤ row_at i) ⊎ (row_at i + length r ≤ row_at j)
      go (inl h) = inl h
      go (inr h) = inr (omega (arith, h, n))

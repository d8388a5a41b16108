-- What the test of the rows finds out, put plainly.
use Prim.Native.Nat.{ℕ, zero, suc, ◌+◌, ◌*◌, ◌/◌, ◌%◌, ◌≤◌, ◌<◌}
use mathlib.Core.Bool.{true, false, ◌&&◌}
use mathlib.Core.Path.{◌≡◌, sym, ap, ◌∙◌}
use mathlib.Core.List.{List}
use mathlib.Core.Logic.{◌⊎◌, inl, inr}
use native.Mathlib.Omega.{arith}
use borrow.Author.Tests.{eqb-true, eqb-false, leb-true}
use lib.Dec.{leb, eqb}
use Rattle.rules.specs.Limits.{files, places}
use Rattle.rules.specs.Geometry.{capacity}
use Rattle.rules.specs.Memories.{share_at}
use Rattle.rules.proofs.Split.{by_cases, and-true, or-true, pass-true, pick_true, pick-false}
use Rattle.segment.specs.Layout.{file_width, place_fields, place_spare, place_width, file_row_at, place_row_at}
use Rattle.segment.specs.Table.{nth}
use Rattle.shares.specs.Sound.{sound}
use Rattle.laws.specs.Changes.{GoodGeo}
use Rattle.accessors.specs.Sides.{count_side}
use Rattle.sound.specs.Rows.{file_word, place_word, zero_words, built_at, geo_at, side_at, good_place, place_ok, places_ok, unbuilt_ok}
use Rattle.sound.specs.Sound.{built_ok, file_ok, files_ok}
use Rattle.sound.proofs.Geometries.{geo-good}
use Rattle.decision.proofs.desk.Words.{zero-words}

-- a built file
pub record BuiltRow (s blocks : List ℕ) (f : ℕ) : Type 0 where
  pub geo : GoodGeo (geo_at s f)
  pub six : file_word s f 6 ≡ 0
  pub seven : file_word s f 7 ≡ 0
  pub rows : (p : ℕ) → p < places → place_ok s (places * f + p) ≡ true
  pub few : file_word s f 4 + file_word s f 5 + count_side s f 2 ≤ capacity (geo_at s f).factor (geo_at s f).blocks
  pub one_more : count_side s f 2 + 1 ≤ capacity (geo_at s f).factor (geo_at s f).blocks
  pub laid : sound (geo_at s f) (share_at f blocks) (file_word s f 3) (file_word s f 4) (file_word s f 5) ≡ true

places-each : (s : List ℕ) (i n : ℕ) → places_ok s i n ≡ true → (p : ℕ) → p < n → place_ok s (i + p) ≡ true
unfolding places_ok
places-each s i zero h p k = absurd (omega arith)
places-each s i (suc n) h zero k = let e : i + 0 ≡ i = omega arith in ap (place_ok s) e ∙ (pass-true (place_ok s i) _ h).0
places-each s i (suc n) h (suc p) k = let e : i + suc p ≡ suc i + p = omega arith in ap (place_ok s) e ∙ places-each s (suc i) n (pass-true (place_ok s i) _ h).1 p (omega arith)

built-row : (s blocks : List ℕ) (f : ℕ) → built_ok s blocks f ≡ true → BuiltRow s blocks f
unfolding built_ok
built-row s blocks f h =
    let (r₁, laid) = and-true _ _ h in
    let (r₂, more) = and-true _ _ r₁ in
    let (r₃, few) = and-true _ _ r₂ in
    let (r₄, rows) = and-true _ _ r₃ in
    let (r₅, seven) = and-true _ _ r₄ in
    let (geo, six) = and-true _ _ r₅ in
    record {
      geo = geo-good (geo_at s f) geo;
      six = eqb-true (file_word s f 6) 0 six;
      seven = eqb-true (file_word s f 7) 0 seven;
      rows = places-each s (places * f) places rows;
      few = leb-true (file_word s f 4 + file_word s f 5 + count_side s f 2) (capacity (geo_at s f).factor (geo_at s f).blocks) few;
      one_more = leb-true (count_side s f 2 + 1) (capacity (geo_at s f).factor (geo_at s f).blocks) more;
      laid = laid;
    }

-- the row of a file that is not built
pub record BlankRow (s : List ℕ) (f : ℕ) : Type 0 where
  pub file : (j : ℕ) → j < file_width → file_word s f j ≡ 0
  pub closed : (p : ℕ) → p < places → (j : ℕ) → j < place_width → place_word s (places * f + p) j ≡ 0

blank-row : (s : List ℕ) (f : ℕ) → unbuilt_ok s f ≡ true → BlankRow s f
unfolding unbuilt_ok file_word place_word
blank-row s f h =
    let (a, b) = and-true _ _ h in
    record {
      file = zero-words s (file_row_at f) file_width a;
      closed = λ p k j l. let e : place_row_at (8 * f + p) + j ≡ place_row_at (8 * f) + (place_width * p + j) = omega arith in
          ap (nth s) e ∙ zero-words s (place_row_at (8 * f)) (places * place_width) b (place_width * p + j) (omega arith);
    }

files-each : (s blocks : List ℕ) (f n : ℕ) → files_ok s blocks f n ≡ true → (g : ℕ) → g < n → file_ok s blocks (f + g) ≡ true
unfolding files_ok
files-each s blocks f zero h g k = absurd (omega arith)
files-each s blocks f (suc n) h zero k = let e : f + 0 ≡ f = omega arith in ap (file_ok s blocks) e ∙ (pass-true (file_ok s blocks f) _ h).0
files-each s blocks f (suc n) h (suc g) k =
    let e : f + suc g ≡ suc f + g = omega arith in
    ap (file_ok s blocks) e ∙ files-each s blocks (suc f) n (pass-true (file_ok s blocks f) _ h).1 g (omega arith)

-- an accessor's row
pub record OpenRow (s : List ℕ) (i : ℕ) : Type 0 where
  pub side : ((side_at s i ≡ 1) × (place_word s i 1 ≡ 0)) ⊎ ((side_at s i ≡ 2) × (1 ≤ place_word s i 1))
  pub extended : place_word s i 4 ≤ 1
  pub typed : place_word s i 5 ≤ 1
  pub keep : place_word s i 6 ≤ 1
  pub first : place_word s i 7 ≤ 1
  pub spare : (j : ℕ) → j < place_spare → nth s (place_row_at i + place_fields + j) ≡ 0

open_row : (s : List ℕ) (i : ℕ) → (good_place s i && zero_words s (place_row_at i + place_fields) place_spare) ≡ true → OpenRow s i
unfolding good_place
open_row s i h =
    let (r₀, spare) = and-true _ _ h in
    let (r₁, first) = and-true _ _ r₀ in
    let (r₂, keep) = and-true _ _ r₁ in
    let (r₃, typed) = and-true _ _ r₂ in
    let (side, extended) = and-true _ _ r₃ in
    record {
      side = sides (or-true (eqb (side_at s i) 1 && eqb (place_word s i 1) 0) (eqb (side_at s i) 2 && leb 1 (place_word s i 1)) side);
      extended = leb-true (place_word s i 4) 1 extended;
      typed = leb-true (place_word s i 5) 1 typed;
      keep = leb-true (place_word s i 6) 1 keep;
      first = leb-true (place_word s i 7) 1 first;
      spare = zero-words s (place_row_at i + place_fields) place_spare spare;
    }
  where
    sides : (eqb (side_at s i) 1 && eqb (place_word s i 1) 0 ≡ true) ⊎ (eqb (side_at s i) 2 && leb 1 (place_word s i 1) ≡ true)
        → ((side_at s i ≡ 1) × (place_word s i 1 ≡ 0)) ⊎ ((side_at s i ≡ 2) × (1 ≤ place_word s i 1))
    sides (inl t) = let (a, b) = and-true _ _ t in inl (eqb-true (side_at s i) 1 a, eqb-true (place_word s i 1) 0 b)
    sides (inr t) = let (a, b) = and-true _ _ t in inr (eqb-true (side_at s i) 2 a, leb-true 1 (place_word s i 1) b)

module _ (s blocks : List ℕ) (ok : files_ok s blocks 0 files ≡ true) where
  file-at : (f : ℕ) → f < files → file_ok s blocks f ≡ true
  file-at f h = let e : f ≡ 0 + f = omega arith in ap (file_ok s blocks) e ∙ files-each s blocks 0 files ok f h

  pub built-at : (f : ℕ) → f < files → built_at s f ≡ true → BuiltRow s blocks f
  unfolding file_ok
  built-at f h t = built-row s blocks f (sym (pick_true (built_at s f) _ _ t) ∙ file-at f h)

  pub blank-at : (f : ℕ) → f < files → built_at s f ≡ false → BlankRow s f
  unfolding file_ok
  blank-at f h t = blank-row s f (sym (pick-false (built_at s f) _ _ t) ∙ file-at f h)

  -- place i: closed, all its words zero; or open, its file built
  pub place_at : (i : ℕ) → i < files * places
      → ((j : ℕ) → j < place_width → place_word s i j ≡ 0) ⊎ ((side_at s i ≡ 0 → ⊥) × (built_at s (i / places) ≡ true) × OpenRow s i)
  unfolding place_ok place_word
  place_at i h = by_cases (built_at s (i / places))
      (λ t. let q : place_ok s i ≡ true = ap (place_ok s) e ∙ (built-at (i / places) (omega arith) t).rows (i % places) (omega arith) in
      by_cases (eqb (side_at s i) 0)
      (λ u. inl (zero-words s (place_row_at i) place_width (sym (pick_true (eqb (side_at s i) 0) _ _ u) ∙ q)))
      (λ u. inr (eqb-false (side_at s i) 0 u, t, open_row s i (sym (pick-false (eqb (side_at s i) 0) _ _ u) ∙ q))))
      (λ t. inl (λ j k. ap (λ (m : ℕ). place_word s m j) e ∙ (blank-at (i / places) (omega arith) t).closed (i % places) (omega arith) j k))
    where
      e : i ≡ places * (i / places) + i % places
      e = omega arith

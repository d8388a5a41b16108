-- The rows of memories that stand for a desk pass the test.
use Prim.Native.Nat.{ℕ, zero, suc, ◌+◌, ◌≤◌, ◌<◌}
use mathlib.Core.Bool.{Bool, true, false, ◌&&◌, ◌||◌}
use mathlib.Core.Path.{◌≡◌, refl, ap, ◌∙◌}
use mathlib.Core.List.{List}
use mathlib.Core.Option.{Option, none, some}
use native.Mathlib.Omega.{arith}
use borrow.Author.Tests.{eq-eqb, ne_eqb, le-leb}
use lib.Dec.{leb, eqb}
use lib.ListN.{length, get_or}
use Rattle.occurrences.specs.Count.{bit}
use Rattle.occurrences.proofs.Counts.{bit_le}
use Rattle.rules.specs.State.{Acc}
use Rattle.rules.proofs.Split.{true-and, true-or, pick_true, pick-false}
use Rattle.segment.specs.Layout.{place_fields, place_spare, place_row_at, place_width}
use Rattle.segment.specs.Table.{nth, row}
use Rattle.laws.specs.Sides.{Sided}
use Rattle.memory.specs.Image.{place_words}
use Rattle.memory.proofs.Image.{spare-zero}
use Rattle.sound.specs.Rows.{place_word, side_at, good_place, place_ok, places_ok}
use Rattle.decision.proofs.desk.Words.{none-at, row_is, words-zero}

-- place i has the row of o
abbrev pub Rowed : List ℕ → ℕ → Option Acc → Type 0
Rowed s i o = (j : ℕ) → j < place_width → place_word s i j ≡ get_or (place_words o) j 0

module _ (s : List ℕ) (i : ℕ) where
  pub none-side : Rowed s i none → side_at s i ≡ 0
  unfolding side_at place_words
  none-side r = r 0 (omega arith)

  pub some-side : (a : Acc) → Rowed s i (some a) → side_at s i ≡ 1 + bit a.writer
  unfolding side_at place_words
  some-side a r = r 0 (omega arith)

  none-ok : Rowed s i none → place_ok s i ≡ true
  unfolding place_ok
  none-ok r =
      pick_true (eqb (side_at s i) 0) _ _ (eq-eqb (side_at s i) 0 (none-side r)) ∙ words-zero s (place_row_at i) place_width (λ j h. unfold place_word in r j h ∙ word j)
    where
      word : (j : ℕ) → get_or (place_words none) j 0 ≡ 0
      word j = unfold place_words in none-at place_width j

  -- a reader or a writer
  side-ok : (w : Bool) (d : ℕ) → side_at s i ≡ 1 + bit w → place_word s i 1 ≡ d → (w ≡ false → d ≡ 0) → (w ≡ true → 1 ≤ d)
      → (eqb (side_at s i) 1 && eqb (place_word s i 1) 0 || eqb (side_at s i) 2 && leb 1 (place_word s i 1)) ≡ true
  side-ok true d e f r w =
      true-or (eqb (side_at s i) 1 && eqb (place_word s i 1) 0) _
      (λ _. true-and (eqb (side_at s i) 2) (leb 1 (place_word s i 1)) (eq-eqb (side_at s i) 2 e) (le-leb 1 (place_word s i 1) (omega (arith, f, w refl))))
  side-ok false d e f r w =
      ap (λ (t : Bool). t || eqb (side_at s i) 2 && leb 1 (place_word s i 1))
      (true-and (eqb (side_at s i) 1) (eqb (place_word s i 1) 0) (eq-eqb (side_at s i) 1 e) (eq-eqb (place_word s i 1) 0 (f ∙ r refl)))

  some-ok : (a : Acc) → Sided a → Rowed s i (some a) → place_ok s i ≡ true
  unfolding place_ok good_place
  some-ok a S r =
      pick-false (eqb (side_at s i) 0) _ _ (ne_eqb (side_at s i) 0 (λ e. omega (arith, some-side a r)))
      ∙ true-and _ _ (true-and _ _ (true-and _ _ (true-and _ _ (true-and _ _ side (flag 4 a.extended (unfold place_words in r 4 (omega arith))))
      (flag 5 a.typed (unfold place_words in r 5 (omega arith)))) (flag 6 a.keep (unfold place_words in r 6 (omega arith))))
      (flag 7 a.first (unfold place_words in r 7 (omega arith)))) (words-zero s (place_row_at i + place_fields) place_spare spare)
    where
      spare : (j : ℕ) → j < place_spare → nth s (place_row_at i + place_fields + j) ≡ 0
      spare j h =
          let e : place_row_at i + place_fields + j ≡ place_row_at i + (place_fields + j) = omega arith in
          let w : nth s (place_row_at i + (place_fields + j)) ≡ get_or (place_words (some a)) (place_fields + j) 0 = unfold place_word in r (place_fields + j) (omega arith) in
          ap (nth s) e ∙ w ∙ spare-zero (some a) j h

      side : (eqb (side_at s i) 1 && eqb (place_word s i 1) 0 || eqb (side_at s i) 2 && leb 1 (place_word s i 1)) ≡ true
      side = side-ok a.writer a.ident (some-side a r) (unfold place_words in r 1 (omega arith)) S.reader S.writer

      flag : (j : ℕ) (b : Bool) → place_word s i j ≡ bit b → leb (place_word s i j) 1 ≡ true
      flag j b e = le-leb (place_word s i j) 1 (omega (arith, e, bit_le b))

  pub place_ok_lem : (o : Option Acc) → Rowed s i o → ((a : Acc) → o ≡ some a → Sided a) → place_ok s i ≡ true
  place_ok_lem none r k = none-ok r
  place_ok_lem (some a) r k = some-ok a (k a refl) r

pub places-ok : (s : List ℕ) (i n : ℕ) → ((p : ℕ) → p < n → place_ok s (i + p) ≡ true) → places_ok s i n ≡ true
unfolding places_ok
places-ok s i zero h = refl
places-ok s i (suc n) h =
    let e : i ≡ i + 0 = omega arith in
    pick_true (place_ok s i) _ _ (ap (place_ok s) e ∙ h 0 (omega arith))
    ∙ places-ok s (suc i) n (λ p k. let d : suc i + p ≡ i + suc p = omega arith in ap (place_ok s) d ∙ h (suc p) (omega arith))

row-long : (o : Option Acc) → length (place_words o) ≡ place_width
unfolding place_words
row-long none = refl
row-long (some a) = refl

-- the row of a place as a list of words
pub rowed-row : (s : List ℕ) (i : ℕ) (o : Option Acc) → Rowed s i o → row s (place_row_at i) place_width ≡ place_words o
unfolding place_word
rowed-row s i o r = row_is s (place_row_at i) place_width (place_words o) (row-long o) r

-- A place's fields, eight bytes at a time, where it is not open or its settings are the usual ones, and nothing is in the words to spare.
use Prim.Native.Nat.{ℕ, ◌+◌, ◌*◌, ◌-◌, ◌≤◌, ◌<◌}
use mathlib.Core.Path.{◌≡◌, refl, sym, ap, ◌∙◌}
use mathlib.Core.Bool.{Bool, true, false, ◌&&◌, ◌||◌, and-true, true≢false}
use mathlib.Core.List.{List}
use native.Mathlib.Omega.{arith}
use borrow.Author.Tests.{eq-eqb, ne_eqb, eqb-true, eqb-false, le-leb}
use lib.Dec.{leb, eqb}
use lib.ListN.{get_or}
use Rattle.rules.proofs.Split.{by_cases}
use Rattle.words.specs.Word.{quiet}
use Rattle.words.specs.Led.{Led, Lone}
use Rattle.segment.specs.Layout.{place_fields, place_spare, place_width, place_row_at}
use Rattle.segment.specs.Table.{nth}
use Rattle.sound.specs.Rows.{place_word, side_at, zero_words, good_place, place_ok}
use Rattle.sound.proofs.Steps.{zero-bad, zero-step}
use Rattle.sound.proofs.Bytes.{zero-bytes}
use Rattle.words.proofs.Joins.{quiet-join}

-- a reader's ID is 0 and a writer's at least 1
abbrev pub good_side : ℕ → ℕ → Bool
good_side side id = eqb side 1 && eqb id 0 || eqb side 2 && leb 1 id

and-held : (t : Bool) → t ≡ (t && true && true && true && true)
and-held true = refl
and-held false = refl

first-zero : (s : List ℕ) (k n : ℕ) → 0 < n → zero_words s k n ≡ true → (nth s k ≡ 0) × (zero_words s (k + 1) (n - 1) ≡ true)
first-zero s k n o h = go (eqb (nth s k) 0) refl
  where
    go : (t : Bool) → eqb (nth s k) 0 ≡ t → (nth s k ≡ 0) × (zero_words s (k + 1) (n - 1) ≡ true)
    go true e = let z : nth s k ≡ 0 = eqb-true (nth s k) 0 e in (z, sym (zero-step s k (nth s k) refl n o z) ∙ h)
    go false e = absurd (true≢false (sym h ∙ zero-bad s k (nth s k) refl n o (eqb-false (nth s k) 0 e)))

four-zero : (s : List ℕ) (k : ℕ) → zero_words s k 4 ≡ true → (nth s k ≡ 0) × (nth s (k + 1) ≡ 0) × (nth s (k + 2) ≡ 0) × (nth s (k + 3) ≡ 0)
four-zero s k h =
    let a = first-zero s k 4 (omega arith) h in
    let b = first-zero s (k + 1) 3 (omega arith) a.1 in
    let c = first-zero s (k + 1 + 1) 2 (omega arith) b.1 in
    let d = first-zero s (k + 1 + 1 + 1) 1 (omega arith) c.1 in
    let p : k + 1 + 1 ≡ k + 2 = omega arith in
    let q : k + 1 + 1 + 1 ≡ k + 3 = omega arith in
    (a.0, b.0, rw p at c.0, rw q at d.0)

-- a run of zero words in two parts
zero-join : (s : List ℕ) (k m n : ℕ) → zero_words s k (m + n) ≡ (zero_words s k m && zero_words s (k + m) n)
zero-join s k m n =
    sym (zero-bytes s (m + n) k) ∙ quiet-join s (2 * n) (2 * m) (2 * (m + n)) (2 * k) (2 * (k + m)) (omega arith) (omega arith)
    ∙ rw (zero-bytes s m k, zero-bytes s n (k + m))

-- a row is zero where its fields are, which are two numbers
zero_row : (s : List ℕ) (i : ℕ) → zero_words s (place_row_at i + place_fields) place_spare ≡ true
    → zero_words s (place_row_at i) place_width ≡ (quiet s (2 * place_row_at i) 8 && quiet s (2 * place_row_at i + 8) 8)
zero_row s i h =
    zero-join s (place_row_at i) place_fields place_spare ∙ ap (λ (t : Bool). zero_words s (place_row_at i) place_fields && t) h ∙ and-true (zero_words s (place_row_at i) place_fields)
    ∙ sym (zero-bytes s place_fields (place_row_at i)) ∙ quiet-join s 8 8 16 (2 * place_row_at i) (2 * place_row_at i + 8) refl refl

-- a place that is not open
pub closed-row : (s : List ℕ) (i a b : ℕ) → zero_words s (place_row_at i + place_fields) place_spare ≡ true → eqb a 0 ≡ quiet s (2 * place_row_at i) 8 → a ≡ 0 → eqb b 0 ≡ quiet s (2 * place_row_at i + 8) 8 → eqb b 0 ≡ place_ok s i
unfolding place_ok side_at place_word
closed-row s i a b h ea ha eb =
    let q : quiet s (2 * place_row_at i) 8 ≡ true = sym ea ∙ eq-eqb a 0 ha in
    let z : zero_words s (place_row_at i) place_width ≡ eqb b 0 = zero_row s i h ∙ rw q (sym eb) in
    let f : nth s (place_row_at i) ≡ 0 = (first-zero s (place_row_at i) 4 (omega arith) (sym (zero-bytes s 4 (place_row_at i)) ∙ q)).0 in
    let n : place_row_at i + 0 ≡ place_row_at i = omega arith in
    let g : nth s (place_row_at i + 0) ≡ 0 = rw n f in
    sym (rw (eq-eqb (nth s (place_row_at i + 0)) 0 g, place_ok) z)

-- the four settings starting at word k are each 0 or 1: where they are zero, and where the last is 1 and the three before it are zero

abbrev pub Switches : List ℕ → ℕ → Type 0
Switches s k = (nth s k ≤ 1) × (nth s (k + 1) ≤ 1) × (nth s (k + 2) ≤ 1) × (nth s (k + 3) ≤ 1)

pub switches-off : (s : List ℕ) (k p b : ℕ) → p ≡ 2 * k → eqb b 0 ≡ quiet s p 8 → b ≡ 0 → Switches s k
switches-off s k p b a e h =
    let e' : eqb b 0 ≡ quiet s (2 * k) 8 = rw a at e in
    let z = four-zero s k (sym (zero-bytes s 4 k) ∙ sym e' ∙ eq-eqb b 0 h) in
    (omega arith, omega arith, omega arith, omega arith)

pub switches-first : (s : List ℕ) (k p : ℕ) → p ≡ 2 * k → Lone s p 6 1 0 → Switches s k
unfolding Lone Led nth
switches-first s k p at l =
    let h : Lone s (2 * k) 6 1 0 = rw at at l in
    let a = first-zero s k 3 (omega arith) (sym (zero-bytes s 3 k) ∙ h.0) in
    let b = first-zero s (k + 1) 2 (omega arith) a.1 in
    let c = first-zero s (k + 1 + 1) 1 (omega arith) b.1 in
    let o : k + 1 + 1 ≡ k + 2 = omega arith in
    let q : 2 * k + 6 ≡ 2 * (k + 3) = omega arith in
    let third : nth s (k + 2) ≡ 0 = rw o at c.0 in
    let high : get_or s (2 * (k + 3)) 0 ≡ 0 = rw q at h.1.0 in
    let low : get_or s (2 * (k + 3) + 1) 0 ≡ 1 = rw q at h.1.1 in
    (omega (arith, a.0), omega (arith, b.0), omega (arith, third), omega (arith, high, low))

-- a reader's side and ID
pub a-reader : (s : List ℕ) (k p : ℕ) → Led s p 1 2 → p ≡ 2 * k → (1 ≡ nth s (k + 0)) × (0 ≡ nth s (k + 1))
unfolding Led nth
a-reader s k p l at =
    let h : Led s (2 * k) 1 2 = rw at at l in
    let q : 2 * k + 2 ≡ 2 * (k + 1) = omega arith in
    let o : k + 0 ≡ k = omega arith in
    let z : quiet s (2 * (k + 1)) 2 ≡ true = rw q at h.2 in
    let i = first-zero s (k + 1) 1 (omega arith) (sym (zero-bytes s 1 (k + 1)) ∙ z) in
    (rw o (omega (arith, h.0, h.1)), sym i.0)

-- where something stands before the settings, and each of them is 0 or 1
module _ (s : List ℕ) (i a : ℕ) (none : zero_words s (place_row_at i + place_fields) place_spare ≡ true) (ea : eqb a 0 ≡ quiet s (2 * place_row_at i) 8) (ha : a ≡ 0 → ⊥) (fair : Switches s (place_row_at i + 4)) where
  row-filled : zero_words s (place_row_at i) place_width ≡ false
  row-filled = zero_row s i none ∙ rw (sym ea ∙ ne_eqb a 0 ha)

  good : good_side (place_word s i 0) (place_word s i 1) ≡ good_place s i
  unfolding good_place side_at place_word
  good =
      let x : place_row_at i + 4 + 1 ≡ place_row_at i + 5 = omega arith in
      let y : place_row_at i + 4 + 2 ≡ place_row_at i + 6 = omega arith in
      let w : place_row_at i + 4 + 3 ≡ place_row_at i + 7 = omega arith in
      rw (
        le-leb (nth s (place_row_at i + 4)) 1 fair.0,
        le-leb (nth s (place_row_at i + 5)) 1 (rw x at fair.1),
        le-leb (nth s (place_row_at i + 6)) 1 (rw y at fair.2),
        le-leb (nth s (place_row_at i + 7)) 1 (rw w at fair.3),
      )
      (and-held (good_side (nth s (place_row_at i + 0)) (nth s (place_row_at i + 1))))

  -- side and ID say the rest
  row_open : good_side (place_word s i 0) (place_word s i 1) ≡ place_ok s i
  unfolding place_ok side_at
  row_open =
      by_cases (eqb (place_word s i 0) 0)
      (λ h.
      let z : place_word s i 0 ≡ 0 = eqb-true (place_word s i 0) 0 h in
      let n : good_side (place_word s i 0) (place_word s i 1) ≡ false = rw z in
      n ∙ sym (rw (h, place_ok) row-filled))
      (λ h.
      let e : place_ok s i ≡ (good_place s i && zero_words s (place_row_at i + place_fields) place_spare) = rw (h, place_ok) in
      good ∙ sym (e ∙ ap (λ (t : Bool). good_place s i && t) none ∙ and-true (good_place s i)))

  pub open_row : (side id : ℕ) → side ≡ place_word s i 0 → id ≡ place_word s i 1 → good_side side id ≡ place_ok s i
  open_row side id es ei = rw (es, ei) row_open

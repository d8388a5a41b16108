-- A free entry's eighteen bytes, in three parts.
use Prim.Native.Nat.{ℕ, ◌+◌, ◌*◌}
use mathlib.Core.Path.{◌≡◌, refl, sym, ap, ◌∙◌}
use mathlib.Core.Bool.{Bool, true, false, ◌&&◌}
use mathlib.Core.List.{List}
use native.Mathlib.Omega.{arith}
use borrow.Author.Tests.{eq-eqb, ne_eqb}
use lib.Dec.{eqb}
use Rattle.rules.proofs.Split.{and_right}
use Rattle.words.specs.Word.{quiet}
use Rattle.segment.specs.Layout.{data_words}
use Rattle.sound.specs.Rows.{zero_words}
use Rattle.sound.proofs.Bytes.{zero-bytes}
use Rattle.words.proofs.Joins.{quiet-join}

-- where the eight before are zero, the last two are zero exactly where the last eight are
overlap : (s : List ℕ) (p : ℕ) → quiet s (p + 8) 8 ≡ true → quiet s (p + 10) 8 ≡ quiet s (p + 16) 2
overlap s p h =
    let j : quiet s (p + 8) 8 ≡ (quiet s (p + 8) 2 && quiet s (p + 10) 6) = quiet-join s 6 2 8 (p + 8) (p + 10) refl (omega arith) in
    let six : quiet s (p + 10) 6 ≡ true = and_right (quiet s (p + 8) 2) (quiet s (p + 10) 6) (sym j ∙ h) in
    quiet-join s 2 6 8 (p + 10) (p + 16) refl (omega arith) ∙ rw six

whole : (s : List ℕ) (k : ℕ) → zero_words s k data_words ≡ (quiet s (2 * k) 8 && (quiet s (2 * k + 8) 8 && quiet s (2 * k + 16) 2))
whole s k =
    sym (zero-bytes s data_words k) ∙ quiet-join s 10 8 18 (2 * k) (2 * k + 8) refl refl
    ∙ ap (λ (b : Bool). quiet s (2 * k) 8 && b) (quiet-join s 2 8 10 (2 * k + 8) (2 * k + 16) refl (omega arith))

module _ (s : List ℕ) (k x : ℕ) (ex : eqb x 0 ≡ quiet s (2 * k) 8) where
  pub first-bad : (x ≡ 0 → ⊥) → false ≡ zero_words s k data_words
  first-bad d = sym (whole s k ∙ rw (← ex, ne_eqb x 0 d))

  module _ (y : ℕ) (ey : eqb y 0 ≡ quiet s (2 * k + 8) 8) (hx : x ≡ 0) where
    pub second-bad : (y ≡ 0 → ⊥) → false ≡ zero_words s k data_words
    second-bad d = sym (whole s k ∙ rw (← ex, ← ey, eq-eqb x 0 hx, ne_eqb y 0 d))

    pub third : (z : ℕ) → eqb z 0 ≡ quiet s (2 * k + 10) 8 → y ≡ 0 → eqb z 0 ≡ zero_words s k data_words
    third z ez hy =
        let o : quiet s (2 * k + 10) 8 ≡ quiet s (2 * k + 16) 2 = overlap s (2 * k) (sym ey ∙ eq-eqb y 0 hy) in
        sym (whole s k ∙ rw (← o, ← ex, ← ey, ← ez, eq-eqb x 0 hx, eq-eqb y 0 hy))

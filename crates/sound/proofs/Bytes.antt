-- Words that are zero, byte by byte.
use Prim.Native.Nat.{ℕ, zero, suc, ◌+◌, ◌*◌, ◌-◌}
use mathlib.Core.Path.{◌≡◌, refl, sym, ◌∙◌}
use mathlib.Core.Bool.{Bool, true, false}
use mathlib.Core.List.{List}
use native.Mathlib.Omega.{arith}
use borrow.Author.Tests.{eqb-true, eqb-false}
use lib.Dec.{eqb}
use lib.ListN.{get_or}
use Rattle.words.specs.Word.{quiet}
use Rattle.words.proofs.Zeros.{quiet_step, quiet-bad, quiet-end}
use Rattle.segment.specs.Table.{nth}
use Rattle.sound.specs.Rows.{zero_words}
use Rattle.sound.proofs.Steps.{zero-bad, zero-step}

-- n words are zero exactly where their 2n bytes are
pub zero-bytes : (s : List ℕ) (n k : ℕ) → quiet s (2 * k) (2 * n) ≡ zero_words s k n
unfolding zero_words nth
zero-bytes s zero k = quiet-end s (2 * k) (2 * zero) (omega arith)
zero-bytes s (suc n) k = go (eqb (get_or s (2 * k) 0) 0) refl (eqb (get_or s (2 * k + 1) 0) 0) refl (zero-bytes s n (k + 1))
  where
    on : 2 * k + 1 + 1 ≡ 2 * (k + 1)
    on = omega arith

    less : 2 * suc n - 1 - 1 ≡ 2 * n
    less = omega arith

    one : suc n - 1 ≡ n
    one = omega arith

    go : (t : Bool) → eqb (get_or s (2 * k) 0) 0 ≡ t → (u : Bool) → eqb (get_or s (2 * k + 1) 0) 0 ≡ u → quiet s (2 * (k + 1)) (2 * n) ≡ zero_words s (k + 1) n → quiet s (2 * k) (2 * suc n) ≡ zero_words s k (suc n)
    go false e u f ih =
        let d : get_or s (2 * k) 0 ≡ 0 → ⊥ = eqb-false (get_or s (2 * k) 0) 0 e in
        let w : nth s k ≡ 0 → ⊥ = λ q. d (omega arith) in
        quiet-bad s (2 * k) (2 * suc n) (omega arith) d ∙ sym (zero-bad s k (nth s k) refl (suc n) (omega arith) w)
    go true e false f ih =
        let a : get_or s (2 * k) 0 ≡ 0 = eqb-true (get_or s (2 * k) 0) 0 e in
        let d : get_or s (2 * k + 1) 0 ≡ 0 → ⊥ = eqb-false (get_or s (2 * k + 1) 0) 0 f in
        let w : nth s k ≡ 0 → ⊥ = λ q. d (omega arith) in
        quiet_step s (2 * k) (2 * suc n) (omega arith) a ∙ quiet-bad s (2 * k + 1) (2 * suc n - 1) (omega arith) d
        ∙ sym (zero-bad s k (nth s k) refl (suc n) (omega arith) w)
    go true e true f ih =
        let a : get_or s (2 * k) 0 ≡ 0 = eqb-true (get_or s (2 * k) 0) 0 e in
        let b : get_or s (2 * k + 1) 0 ≡ 0 = eqb-true (get_or s (2 * k + 1) 0) 0 f in
        let w : nth s k ≡ 0 = omega arith in
        let z : zero_words s k (suc n) ≡ zero_words s (k + 1) (suc n - 1) = zero-step s k (nth s k) refl (suc n) (omega arith) w in
        let y : quiet s (2 * k + 1) (2 * suc n - 1) ≡ quiet s (2 * k + 1 + 1) (2 * suc n - 1 - 1) = quiet_step s (2 * k + 1) (2 * suc n - 1) (omega arith) b in
        let y' : quiet s (2 * k + 1) (2 * suc n - 1) ≡ quiet s (2 * (k + 1)) (2 * n) = rw (on, less) at y in
        quiet_step s (2 * k) (2 * suc n) (omega arith) a ∙ y' ∙ ih ∙ sym (rw one at z)

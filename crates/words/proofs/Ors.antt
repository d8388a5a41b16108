-- An `or` of all that a loop has read, tested once, after the loop.
use Prim.Native.Nat.{ℕ}
use mathlib.Core.Bool.{Bool, true, false}
use mathlib.Core.Path.{◌≡◌, refl, sym, ◌∙◌}
use native.Mathlib.Omega.{arith}
use lib.Dec.{eqb}
use lib.Bits.{bit_or, bit_xor, or_add_and, xor_add_and, and_le_l, and_le_r}
use borrow.Author.Tests.{eqb-true, eqb-false}

pub or_left : (a b : ℕ) → bit_or a b ≡ 0 → a ≡ 0
or_left a b e = omega (arith, or_add_and a b, and_le_r a b)

pub or_right : (a b : ℕ) → bit_or a b ≡ 0 → b ≡ 0
or_right a b e = omega (arith, or_add_and a b, and_le_l a b)

-- what differs in no bit is the same

pub xor_same : (a b : ℕ) → bit_xor a b ≡ 0 → a ≡ b
xor_same a b e = omega (arith, xor_add_and a b, and_le_l a b, and_le_r a b)

-- where `all` is the `or` so far: the whole test is that of the rest, or fails
unfoldable pub Sofar : ℕ → Bool → Bool → Type 0
Sofar all whole rest = (all ≡ 0 → whole ≡ rest) × ((all ≡ 0 → ⊥) → whole ≡ false)

pub sofar-start : (whole : Bool) → Sofar 0 whole whole
unfolding Sofar
sofar-start whole = (λ h. refl, λ d. absurd (d refl))

-- the first number
pub sofar-one : (x : ℕ) (whole rest : Bool) → (x ≡ 0 → whole ≡ rest) → ((x ≡ 0 → ⊥) → whole ≡ false) → Sofar x whole rest
unfolding Sofar
sofar-one x whole rest good bad = (good, bad)

pub sofar-on : (all x : ℕ) (whole rest rest' : Bool) → Sofar all whole rest → (x ≡ 0 → rest ≡ rest') → ((x ≡ 0 → ⊥) → rest ≡ false) → Sofar (bit_or all x) whole rest'
unfolding Sofar
sofar-on all x whole rest rest' s good bad = (λ h. s.0 (or_left all x h) ∙ good (or_right all x h), λ d. go d (eqb all 0) refl)
  where
    go : (bit_or all x ≡ 0 → ⊥) → (t : Bool) → eqb all 0 ≡ t → whole ≡ false
    go d false h = s.1 (eqb-false all 0 h)
    go d true h =
        let a : all ≡ 0 = eqb-true all 0 h in
        let y : bit_or all x ≡ x = rw a in
        s.0 a ∙ bad (λ q. d (y ∙ q))

-- one more number, where the whole test fails if it is not 0
pub sofar-also : (all x : ℕ) (whole rest : Bool) → Sofar all whole rest → ((x ≡ 0 → ⊥) → whole ≡ false) → Sofar (bit_or all x) whole rest
unfolding Sofar
sofar-also all x whole rest s bad = (λ h. s.0 (or_left all x h), λ d. go d (eqb all 0) refl)
  where
    go : (bit_or all x ≡ 0 → ⊥) → (t : Bool) → eqb all 0 ≡ t → whole ≡ false
    go d false h = s.1 (eqb-false all 0 h)
    go d true h =
        let a : all ≡ 0 = eqb-true all 0 h in
        let y : bit_or all x ≡ x = rw a in
        bad (λ q. d (y ∙ q))

-- the rest holds if the `or` is 0
pub sofar-over : (all : ℕ) (whole rest : Bool) → Sofar all whole rest → (all ≡ 0 → rest ≡ true) → eqb all 0 ≡ whole
unfolding Sofar
sofar-over all whole rest s e = go (eqb all 0) refl
  where
    go : (t : Bool) → eqb all 0 ≡ t → eqb all 0 ≡ whole
    go true h = let z : all ≡ 0 = eqb-true all 0 h in h ∙ sym (s.0 z ∙ e z)
    go false h = h ∙ sym (s.1 (eqb-false all 0 h))

pub sofar-end : (all : ℕ) (whole rest : Bool) → Sofar all whole rest → rest ≡ true → eqb all 0 ≡ whole
sofar-end all whole rest s e = sofar-over all whole rest s (λ h. e)

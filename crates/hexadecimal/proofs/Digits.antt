-- Laws of one digit: its value by where the byte lies, and that digit and value undo each other.
use Prim.Native.Nat.{ℕ, ◌+◌, ◌-◌, ◌<◌, ◌≤◌}
use mathlib.Core.Bool.{Bool, true, false}
use mathlib.Core.Path.{◌≡◌, refl}
use native.Mathlib.Omega.{arith}
use lib.Dec.{ltb}
use borrow.Author.Tests.{lt-ltb, le-ltb, ltb-true, ltb-false}
use Rattle.rules.specs.Line.{digit_of, value_of}

-- a < b or not
pub below : {P : Type 0} (a b : ℕ) → (a < b → P) → (b ≤ a → P) → P
below {P} a b f g = go (ltb a b) refl where
  go : (t : Bool) → ltb a b ≡ t → P
  go true e = f (ltb-true a b e)
  go false e = g (ltb-false a b e)

pub value-under : (b : ℕ) → b < 48 → value_of b ≡ 16
unfolding value_of
value-under b h = rw (lt-ltb b 48 h)

pub value-number : (b : ℕ) → 48 ≤ b → b < 58 → value_of b ≡ b - 48
unfolding value_of
value-number b g h = rw (le-ltb b 48 g, lt-ltb b 58 h)

pub value-between : (b : ℕ) → 58 ≤ b → b < 65 → value_of b ≡ 16
unfolding value_of
value-between b g h = rw (le-ltb b 48 (omega arith), le-ltb b 58 g, lt-ltb b 65 h)

pub value-letter : (b : ℕ) → 65 ≤ b → b < 71 → value_of b ≡ b - 55
unfolding value_of
value-letter b g h = rw (le-ltb b 48 (omega arith), le-ltb b 58 (omega arith), le-ltb b 65 g, lt-ltb b 71 h)

pub value-over : (b : ℕ) → 71 ≤ b → value_of b ≡ 16
unfolding value_of
value-over b g = rw (le-ltb b 48 (omega arith), le-ltb b 58 (omega arith), le-ltb b 65 (omega arith), le-ltb b 71 g)

pub digit-number : (n : ℕ) → n < 10 → digit_of n ≡ 48 + n
unfolding digit_of
digit-number n h = rw (lt-ltb n 10 h)

pub digit-letter : (n : ℕ) → 10 ≤ n → digit_of n ≡ 55 + n
unfolding digit_of
digit-letter n h = rw (le-ltb n 10 h)

pub value-digit : (n : ℕ) → n < 16 → value_of (digit_of n) ≡ n
value-digit n h =
    below n 10
    (λ k. rw (digit-number n k) (omega (arith, value-number (48 + n) (omega arith) (omega arith))))
    (λ k. rw (digit-letter n k) (omega (arith, value-letter (55 + n) (omega arith) (omega arith))))

pub digit_value : (b : ℕ) → value_of b < 16 → digit_of (value_of b) ≡ b
digit_value b h =
    below b 48 (λ k. absurd (omega (arith, value-under b k)))
    (λ k. below b 58 (λ l. rw (value-number b k l) (omega (arith, digit-number (b - 48) (omega arith))))
    (λ l. below b 65 (λ m. absurd (omega (arith, value-between b l m)))
    (λ m. below b 71 (λ n. rw (value-letter b m n) (omega (arith, digit-letter (b - 55) (omega arith))))
    (λ n. absurd (omega (arith, value-over b n))))))

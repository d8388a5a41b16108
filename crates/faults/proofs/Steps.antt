-- What one byte of a line does to its fault.
use Prim.Native.Nat.{ℕ, suc, ◌+◌, ◌<◌, ◌≤◌}
use mathlib.Core.Bool.{true, false}
use mathlib.Core.Path.{◌≡◌}
use mathlib.Core.List.{List, ◌∷◌}
use native.Mathlib.Numerals.{add-one}
use lib.Dec.{ltb}
use lib.ListN.{length, get_or, drop, drop_of_length-le}
use lib.Seq.{drop-cons}
use borrow.Author.Tests.{lt-ltb, le-ltb}
use Rattle.std.specs.Prelude.{Some}
use Rattle.rules.specs.Line.{value_of}
use Rattle.faults.specs.declared.reading.Fault.TheVariants.{Long}
use Rattle.faults.specs.Faults.{most_digits, strange, digits_alone, fault_after}

-- after n digits: one more digit, one too many, no digit
pub after-digit : (n b : ℕ) (s : List ℕ) → ltb (value_of b) 16 ≡ true → n < most_digits → fault_after n (b ∷ s) ≡ fault_after (suc n) s
unfolding fault_after
after-digit n b s e k = rw (e, lt-ltb n most_digits k)

pub after-long : (n b : ℕ) (s : List ℕ) → ltb (value_of b) 16 ≡ true → most_digits ≤ n → fault_after n (b ∷ s) ≡ Some Long
unfolding fault_after
after-long n b s e k = rw (e, le-ltb n most_digits k)

pub after-strange : (n b : ℕ) (s : List ℕ) → ltb (value_of b) 16 ≡ false → fault_after n (b ∷ s) ≡ Some (strange b)
unfolding fault_after
after-strange n b s e = rw e

-- the byte at place i of a line that begins with i digits
pub at-digit : (s : List ℕ) (i : ℕ) → i < length s → ltb (value_of (get_or s i 0)) 16 ≡ true → i < most_digits → fault_after i (drop i s) ≡ fault_after (i + 1) (drop (i + 1) s)
at-digit s i h e k = rw (add-one, drop-cons s i 0 h) (after-digit i (get_or s i 0) (drop (suc i) s) e k)

pub at_long : (s : List ℕ) (i : ℕ) → i < length s → ltb (value_of (get_or s i 0)) 16 ≡ true → most_digits ≤ i → fault_after i (drop i s) ≡ Some Long
at_long s i h e k = rw (drop-cons s i 0 h) (after-long i (get_or s i 0) (drop (suc i) s) e k)

pub at-strange : (s : List ℕ) (i : ℕ) → i < length s → ltb (value_of (get_or s i 0)) 16 ≡ false → fault_after i (drop i s) ≡ Some (strange (get_or s i 0))
at-strange s i h e = rw (drop-cons s i 0 h) (after-strange i (get_or s i 0) (drop (suc i) s) e)

pub at-end : (s : List ℕ) (i : ℕ) → length s ≤ i → fault_after i (drop i s) ≡ digits_alone i
unfolding fault_after
at-end s i h = rw (drop_of_length-le s h)

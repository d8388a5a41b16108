-- Several bytes as one number that is n times the weight of one byte: that byte is n, and the others are zero.
use Prim.Native.Nat.{ℕ, ◌+◌, ◌*◌, ◌<◌}
use mathlib.Core.Path.{◌≡◌, refl, sym, ◌∙◌}
use mathlib.Core.Bool.{true}
use mathlib.Core.List.{List}
use native.Mathlib.Omega.{arith}
use borrow.Author.Tests.{eq-eqb}
use lib.Dec.{eqb}
use lib.ListN.{get_or}
use Rattle.words.specs.Word.{quiet}
use Rattle.words.specs.Led.{Led, Lone}
use Rattle.words.proofs.Zeros.{quiet-end}
use Rattle.words.proofs.Joins.{both-quiet}

-- a number that is 0 where its bytes are
pub none : (xs : List ℕ) (p n b : ℕ) → eqb b 0 ≡ quiet xs p n → b ≡ 0 → quiet xs p n ≡ true
none xs p n b e z = sym e ∙ eq-eqb b 0 z

pub led-two : (xs : List ℕ) (p a b n : ℕ) → a ≡ get_or xs p 0 → b ≡ get_or xs (p + 1) 0 → a < 256 → a + b * 256 ≡ n * 256 → Led xs p n 0
unfolding Led
led-two xs p a b n ea eb l e = (omega arith, omega arith, quiet-end xs (p + 2) 0 (omega arith))

-- the word is the first of those that were joined

pub led-four : (xs : List ℕ) (p a b n : ℕ) → ((m : ℕ) → a ≡ m * 256 → Led xs p m 0) → eqb b 0 ≡ quiet xs (p + 2) 2 → a < 65536 → n < 256 → a + b * 65536 ≡ n * 256 → Led xs p n 2
unfolding Led
led-four xs p a b n f eb l k e =
    let z : b ≡ 0 = omega arith in
    let v = f n (omega arith) in
    (v.0, v.1, none xs (p + 2) 2 b eb z)

pub led-eight : (xs : List ℕ) (p a b n : ℕ) → ((m : ℕ) → m < 256 → a ≡ m * 256 → Led xs p m 2) → eqb b 0 ≡ quiet xs (p + 4) 4 → a < 4294967296 → n < 256
    → a + b * 4294967296 ≡ n * 256 → Led xs p n 6
unfolding Led
led-eight xs p a b n f eb l k e =
    let z : b ≡ 0 = omega arith in
    let v = f n k (omega arith) in
    (v.0, v.1, both-quiet xs 2 4 6 (p + 2) (p + 4) refl (omega arith) v.2 (none xs (p + 4) 4 b eb z))

-- the word comes after zeros

pub last-of-four : (xs : List ℕ) (p a b n : ℕ) → eqb a 0 ≡ quiet xs p 2 → ((m : ℕ) → b ≡ m * 256 → Led xs (p + 2) m 0) → a < 65536 → a + b * 65536 ≡ n * 16777216 → Lone xs p 2 n 0
unfolding Lone
last-of-four xs p a b n ea f l e = (none xs p 2 a ea (omega arith), f n (omega arith))

pub third-of-eight : (xs : List ℕ) (p a b n : ℕ) → eqb a 0 ≡ quiet xs p 4 → ((m : ℕ) → m < 256 → b ≡ m * 256 → Led xs (p + 4) m 2) → a < 4294967296 → n < 256
    → a + b * 4294967296 ≡ n * 1099511627776 → Lone xs p 4 n 2
unfolding Lone
third-of-eight xs p a b n ea f l k e = (none xs p 4 a ea (omega arith), f n k (omega arith))

pub last-of-eight : (xs : List ℕ) (p a b n : ℕ) → eqb a 0 ≡ quiet xs p 4 → ((m : ℕ) → b ≡ m * 16777216 → Lone xs (p + 4) 2 m 0) → a < 4294967296
    → a + b * 4294967296 ≡ n * 72057594037927936 → Lone xs p 6 n 0
unfolding Lone
last-of-eight xs p a b n ea f l e =
    let v = f n (omega arith) in
    let w : p + 4 + 2 ≡ p + 6 = omega arith in
    (both-quiet xs 4 2 6 p (p + 4) refl refl (none xs p 4 a ea (omega arith)) v.0, rw w at v.1)

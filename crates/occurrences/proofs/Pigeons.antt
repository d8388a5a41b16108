-- How many numbers below n a list can have: a list that has each of them has at least n, one that has none twice and no other at most n.
use Prim.Native.Nat.{ℕ, zero, suc, ◌+◌, ◌≤◌, ◌<◌}
use mathlib.Core.Path.{◌≡◌, refl}
use mathlib.Core.List.{List, [], ◌∷◌}
use native.Mathlib.Omega.{arith}
use native.Mathlib.Decide.{ℕ_discrete, dec_lt}
use lib.ListN.{length}
use Rattle.occurrences.specs.Count.{count}
use Rattle.occurrences.proofs.Counts.{bit-eq, bit-ne}

-- how many of a list are below n
below : ℕ → List ℕ → ℕ
below zero l = 0
below (suc n) l = count n l + below n l

below-nil : (n : ℕ) → below n [] ≡ 0
unfolding below count
below-nil zero = refl
below-nil (suc n) = omega (arith, below-nil n)

below-far : (n y : ℕ) (l : List ℕ) → n ≤ y → below n (y ∷ l) ≡ below n l
unfolding below count
below-far zero y l h = refl
below-far (suc n) y l h = omega (arith, below-far n y l (omega arith), bit-ne y n (λ e. omega arith))

below-near : (n y : ℕ) (l : List ℕ) → y < n → below n (y ∷ l) ≡ suc (below n l)
unfolding below count
below-near zero y l h = absurd (omega arith)
below-near (suc n) y l h = go (ℕ_discrete y n) (λ k. below-near n y l k)
  where
    go : Dec (y ≡ n) → (y < n → below n (y ∷ l) ≡ suc (below n l)) → below (suc n) (y ∷ l) ≡ suc (below (suc n) l)
    go (yes e) r = omega (arith, below-far n y l (omega arith), bit-eq y n e)
    go (no d) r = omega (arith, bit-ne y n d, r (omega arith))

-- from below

below_length : (n : ℕ) (l : List ℕ) → below n l ≤ length l
below_length n [] = omega (arith, below-nil n)
below_length n (y ∷ l) = go (dec_lt y n) (below_length n l)
  where
    go : Dec (y < n) → below n l ≤ length l → below n (y ∷ l) ≤ suc (length l)
    go (yes h) r = omega (arith, below-near n y l h)
    go (no h) r = omega (arith, below-far n y l (omega arith))

below_each : (n : ℕ) (l : List ℕ) → ((x : ℕ) → x < n → 1 ≤ count x l) → n ≤ below n l
unfolding below
below_each zero l h = omega arith
below_each (suc n) l h = omega (arith, h n (omega arith), below_each n l (λ x k. h x (omega arith)))

pub pigeons : (n : ℕ) (l : List ℕ) → ((x : ℕ) → x < n → 1 ≤ count x l) → n ≤ length l
pigeons n l h = omega (arith, below_each n l h, below_length n l)

-- from above

abbrev pub Below : ℕ → List ℕ → Type 0
Below n [] = Unit {0}
Below n (x ∷ l) = (x < n) × Below n l

length-below : (n : ℕ) (l : List ℕ) → Below n l → length l ≤ below n l
length-below n [] b = omega arith
length-below n (x ∷ l) b = omega (arith, length-below n l b.1, below-near n x l b.0)

below-once : (n : ℕ) (l : List ℕ) → ((x : ℕ) → count x l ≤ 1) → below n l ≤ n
unfolding below
below-once zero l h = omega arith
below-once (suc n) l h = omega (arith, h n, below-once n l h)

pub holes : (n : ℕ) (l : List ℕ) → Below n l → ((x : ℕ) → count x l ≤ 1) → length l ≤ n
holes n l b h = omega (arith, length-below n l b, below-once n l h)

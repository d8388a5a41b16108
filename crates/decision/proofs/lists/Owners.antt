-- How many entries of the lists belong to a place: those of a queue to places of its file, those of a port to its place.
use Prim.Native.Nat.{ℕ, zero, suc, ◌+◌, ◌<◌}
use mathlib.Core.Path.{◌≡◌, refl, ap, ◌∙◌}
use mathlib.Core.List.{List, [], ◌∷◌, map-append}
use native.Mathlib.Omega.{arith}
use lib.ListN.{length, get_or}
use Rattle.occurrences.specs.Count.{count}
use Rattle.sound.specs.Walks.{place_in}
use Rattle.decision.specs.Survey.{Each}
use Rattle.occurrences.proofs.Counts.{bit-eq, bit-ne, count-append}
use Rattle.occurrences.proofs.Pigeons.{Below}
use Rattle.decision.proofs.lists.Flat.{below-append, flat}
use Rattle.decision.proofs.lists.Sweep.{Lists}
use Rattle.decision.proofs.lists.Means.{owners}

pub each_below : (s : List ℕ) (n : ℕ) (Q : ℕ → Type 0) → ((e : ℕ) → Q e → place_in s e < n) → (xs : List ℕ) → Each Q xs → Below n (owners s xs)
unfolding Each
each_below s n Q f [] a = tt
each_below s n Q f (x ∷ xs) a = (f x a.0, each_below s n Q f xs a.1)

pub row_below : (s : List ℕ) (n : ℕ) (S : ℕ → List ℕ → Type 0) (k : ℕ) (ls : List (List ℕ)) → ((j : ℕ) (xs : List ℕ) → j < k + length ls → S j xs → Below n (owners s xs))
    → Lists S k ls → Below n (owners s (flat ls))
unfolding Lists flat
row_below s n S k [] f a = tt
row_below s n S k (xs ∷ ls) f a =
    rw (map-append (place_in s) xs (flat ls))
    (below-append n (owners s xs) (owners s (flat ls)) (f k xs (omega arith) a.0) (row_below s n S (suc k) ls (λ j ys h. f j ys (omega arith)) a.1))

module _ (s : List ℕ) (i : ℕ) where
  pub each_none : (Q : ℕ → Type 0) → ((e : ℕ) → Q e → place_in s e ≡ i → ⊥) → (xs : List ℕ) → Each Q xs → count i (owners s xs) ≡ 0
  unfolding Each count
  each_none Q f [] a = refl
  each_none Q f (x ∷ xs) a = omega (arith, bit-ne (place_in s x) i (f x a.0), each_none Q f xs a.1)

  pub each_all : (Q : ℕ → Type 0) → ((e : ℕ) → Q e → place_in s e ≡ i) → (xs : List ℕ) → Each Q xs → count i (owners s xs) ≡ length xs
  unfolding Each count
  each_all Q f [] a = refl
  each_all Q f (x ∷ xs) a = omega (arith, bit-eq (place_in s x) i (f x a.0), each_all Q f xs a.1)

  -- lists of which one only has entries of place i
  module _ (S : ℕ → List ℕ → Type 0) (home : ℕ) (other : (j : ℕ) (xs : List ℕ) → (j ≡ home → ⊥) → S j xs → count i (owners s xs) ≡ 0) where
    cons-count : (xs : List ℕ) (ls : List (List ℕ)) → count i (owners s (flat (xs ∷ ls))) ≡ count i (owners s xs) + count i (owners s (flat ls))
    unfolding flat
    cons-count xs ls = ap (count i) (map-append (place_in s) xs (flat ls)) ∙ count-append i (owners s xs) (owners s (flat ls))

    row-none : (k : ℕ) (ls : List (List ℕ)) → home < k → Lists S k ls → count i (owners s (flat ls)) ≡ 0
    unfolding Lists flat count
    row-none k [] h a = refl
    row-none k (xs ∷ ls) h a = omega (arith, cons-count xs ls, other k xs (λ e. omega arith) a.0, row-none (suc k) ls (omega arith) a.1)

    pub row_one : (m k : ℕ) (ls : List (List ℕ)) → home ≡ k + m → Lists S k ls → count i (owners s (flat ls)) ≡ count i (owners s (get_or ls m []))
    unfolding Lists flat
    row_one m k [] h a = refl
    row_one zero k (xs ∷ ls) h a = omega (arith, cons-count xs ls, row-none (suc k) ls (omega arith) a.1)
    row_one (suc m) k (xs ∷ ls) h a = omega (arith, cons-count xs ls, other k xs (λ e. omega arith) a.0, row_one m (suc k) ls (omega arith) a.1)

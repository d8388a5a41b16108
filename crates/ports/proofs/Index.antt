-- Where the first element stands that passes a test, and where a list ends.
use Prim.Native.Nat.{ℕ, zero, suc, ◌≤◌, ◌<◌}
use mathlib.Core.Path.{◌≡◌, refl, ap}
use mathlib.Core.Bool.{Bool, true, false, cond}
use mathlib.Core.List.{List, [], ◌∷◌, ◌++◌, map}
use native.Mathlib.Omega.{arith}
use lib.ListN.{length, get_or}
use Rattle.rules.proofs.Split.{by_cases}
use Rattle.ports.specs.Index.{put_in, index}

module _ {A : Type 0} where
  pub put_in-end : (x : A) (xs : List A) → put_in (length xs) x xs ≡ xs ++ x ∷ []
  unfolding put_in
  put_in-end x [] = refl
  put_in-end x (y ∷ xs) = ap (◌∷◌ y) (put_in-end x xs)

  module _ (t : A → Bool) (d : A) where
    -- no further than any that passes
    pub index-le : (xs : List A) (i : ℕ) → i < length xs → t (get_or xs i d) ≡ true → index t xs ≤ i
    unfolding index
    index-le [] i h e = absurd (omega arith)
    index-le (x ∷ xs) zero h e = rw e (omega arith)
    index-le (x ∷ xs) (suc i) h e = let r = index-le xs i (omega arith) e in by_cases (t x) (λ k. rw k (omega arith)) (λ k. rw k (omega arith))

    -- the element at the index passes, if the index is not the end
    pub index_at : (xs : List A) → index t xs < length xs → t (get_or xs (index t xs) d) ≡ true
    unfolding index
    index_at [] h = absurd (omega arith)
    index_at (x ∷ xs) h = go (t x) refl h (index_at xs)
      where
        go : (b : Bool) → t x ≡ b → cond b 0 (suc (index t xs)) < suc (length xs) → (index t xs < length xs → t (get_or xs (index t xs) d) ≡ true)
            → t (get_or (x ∷ xs) (cond b 0 (suc (index t xs))) d) ≡ true
        go true e k r = e
        go false e k r = r (omega arith)

    -- the index is the end, if none passes
    pub index-none : (xs : List A) → ((i : ℕ) → i < length xs → t (get_or xs i d) ≡ false) → index t xs ≡ length xs
    unfolding index
    index-none [] h = refl
    index-none (x ∷ xs) h = rw (h 0 (omega arith)) (ap suc (index-none xs (λ i k. h (suc i) (omega arith))))

-- a test of what a function makes of the elements
pub index-map : {A B : Type 0} (t : B → Bool) (f : A → B) (xs : List A) → index t (map f xs) ≡ index (λ x. t (f x)) xs
unfolding index
index-map t f [] = refl
index-map t f (x ∷ xs) = rw (index-map t f xs)

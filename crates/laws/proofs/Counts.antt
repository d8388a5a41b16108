-- Counting in lists; a list that has each number below n has at least n.
use mathlib.Core.Path.{◌≡◌, refl, sym, ap, subst, ◌∙◌}
use mathlib.Core.List.{List, [], ◌∷◌}
use Prim.Native.Nat.{ℕ, zero, suc, ◌+◌, ◌≤◌, ◌<◌}
use native.Mathlib.Omega.{arith}
use native.Mathlib.Decide.{ℕ_discrete}
use lib.Dec.{ltb, eqb}
use lib.ListN.{length}
use borrow.Author.Tests.{eqb-true, eqb-false, lt-ltb, le-ltb}
use Rattle.rules.specs.Requests.{without}
use Rattle.rules.specs.Allocation.{up_from}
use Rattle.rules.proofs.Split.{by_cases, bothc}
use Rattle.occurrences.specs.Count.{bit, count}
use Rattle.occurrences.proofs.Counts.{bit-eq, bit-ne}

-- a place is p, or another
pub at-or-else : (P : ℕ → Type 0) (p x : ℕ) → P p → ((p ≡ x → ⊥) → P x) → P x
at-or-else P p x h k = by_cases (eqb p x) (λ e. subst P (eqb-true p x e) h) (λ e. k (eqb-false p x e))

pub count-without-same : (p : ℕ) (l : List ℕ) → count p (without p l) ≡ 0
unfolding without count
count-without-same p [] = refl
count-without-same p (q ∷ l) = bothc (λ (m : List ℕ). count p m ≡ 0) (eqb q p) (λ _. count-without-same p l) (λ e. rw e (omega (arith, count-without-same p l)))

pub count-without-other : (p x : ℕ) (l : List ℕ) → (p ≡ x → ⊥) → count x (without p l) ≡ count x l
unfolding without count
count-without-other p x [] h = refl
count-without-other p x (q ∷ l) h =
    let ih = count-without-other p x l h in
    bothc (λ (m : List ℕ). count x m ≡ count x (q ∷ l)) (eqb q p)
    (λ e. let n : bit (eqb q x) ≡ 0 = bit-ne q x (λ k. h (sym (eqb-true q p e) ∙ k)) in omega (arith, ih))
    (λ _. omega (arith, ih))

pub length_without : (p : ℕ) (l : List ℕ) → length (without p l) + count p l ≡ length l
unfolding without count
length_without p [] = refl
length_without p (q ∷ l) =
    let ih = length_without p l in
    by_cases (eqb q p) (λ e. rw e (omega (arith, ih))) (λ e. rw e (omega (arith, ih)))

-- numbers in a row

count-up_from-low : (x k n : ℕ) → x < n → count x (up_from n k) ≡ 0
unfolding up_from count
count-up_from-low x zero n h = refl
count-up_from-low x (suc k) n h = omega (arith, bit-ne n x (λ e. omega arith), count-up_from-low x k (suc n) (omega arith))

pub count-up_from : (x k n : ℕ) → n ≤ x → count x (up_from n k) ≡ bit (ltb x (n + k))
unfolding up_from count
count-up_from x zero n h = sym (ap bit (le-ltb x (n + 0) (omega arith)))
count-up_from x (suc k) n h = go (ℕ_discrete n x) (λ d. count-up_from x k (suc n) d)
  where
    go : Dec (n ≡ x) → (suc n ≤ x → count x (up_from (suc n) k) ≡ bit (ltb x (suc n + k))) → bit (eqb n x) + count x (up_from (suc n) k) ≡ bit (ltb x (n + suc k))
    go (yes e) r = omega (arith, bit-eq n x e, count-up_from-low x k (suc n) (omega arith), ap bit (lt-ltb x (n + suc k) (omega arith)))
    go (no d) r = let e : suc n + k ≡ n + suc k = omega arith in omega (arith, bit-ne n x d, rw e at (r (omega arith)))

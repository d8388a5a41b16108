-- Sums over the numbers below n, and counts as sums.
use Prim.Native.Nat.{ℕ, zero, suc, ◌+◌, ◌*◌, ◌≤◌, ◌<◌}
use mathlib.Core.Path.{◌≡◌, refl, sym, ap, ap₂, ◌∙◌}
use mathlib.Core.List.{List, [], ◌∷◌, map}
use native.Mathlib.Omega.{arith}
use native.Mathlib.Decide.{dec_lt}
use native.Mathlib.Nat.{zero-add, add-zero, suc-add, zero-mul, add-mul}
use lib.Dec.{eqb, eqb-zero-suc, eqb-suc-zero, eqb-suc-suc}
use borrow.Author.Tests.{eq-eqb}
use Rattle.occurrences.specs.Count.{bit, count, total}
use Rattle.rules.specs.Allocation.{up_from}

unfoldable pub sum : ℕ → (ℕ → ℕ) → ℕ
sum zero g = 0
sum (suc n) g = g 0 + sum n (λ i. g (suc i))

pub sum_same : (n : ℕ) (g h : ℕ → ℕ) → ((i : ℕ) → i < n → g i ≡ h i) → sum n g ≡ sum n h
unfolding sum
sum_same zero g h e = refl
sum_same (suc n) g h e = omega (arith, e 0 (omega arith), sum_same n (λ i. g (suc i)) (λ i. h (suc i)) (λ i k. e (suc i) (omega arith)))

pub sum-plus : (n : ℕ) (g h : ℕ → ℕ) → sum n (λ i. g i + h i) ≡ sum n g + sum n h
unfolding sum
sum-plus zero g h = refl
sum-plus (suc n) g h = omega (arith, sum-plus n (λ i. g (suc i)) (λ i. h (suc i)))

pub sum-none : (n : ℕ) (g : ℕ → ℕ) → ((i : ℕ) → i < n → g i ≡ 0) → sum n g ≡ 0
unfolding sum
sum-none zero g e = refl
sum-none (suc n) g e = omega (arith, e 0 (omega arith), sum-none n (λ i. g (suc i)) (λ i k. e (suc i) (omega arith)))

pub sum_one : (g : ℕ → ℕ) → sum 1 g ≡ g 0
unfolding sum
sum_one g = omega arith

pub sum-split : (a b : ℕ) (g : ℕ → ℕ) → sum (a + b) g ≡ sum a g + sum b (λ i. g (a + i))
unfolding sum
sum-split zero b g = rw (zero-add b) (sum_same b g (λ i. g (0 + i)) (λ i _. ap g (sym (zero-add i))) ∙ sym (zero-add _))
sum-split (suc a) b g =
    rw (suc-add a b)
    (omega (arith, sum-split a b (λ i. g (suc i)), sum_same b (λ i. g (suc (a + i))) (λ i. g (suc a + i)) (λ i _. ap g (sym (suc-add a i)))))

-- in rows of eight
pub sum_rows : (n : ℕ) (g : ℕ → ℕ) → sum (8 * n) g ≡ sum n (λ f. sum 8 (λ p. g (8 * f + p)))
unfolding sum
sum_rows zero g = refl
sum_rows (suc n) g =
    let e : 8 * suc n ≡ 8 + 8 * n = omega arith in
    rw e
    (sum-split 8 (8 * n) g
    ∙ ap₂ {C = ℕ} (λ a b. a + b) (sum_same 8 g (λ p. g (8 * 0 + p)) (λ p _. ap g (sym (zero-add p))))
    (sum_rows n (λ i. g (8 + i)) ∙ sum_same n _ _ (λ f _. sum_same 8 _ _ (λ p _. let q : 8 + (8 * f + p) ≡ 8 * suc f + p = omega arith in ap g q))))

-- the one that y picks
pub sum-at : (n y : ℕ) (g : ℕ → ℕ) → y < n → sum n (λ i. bit (eqb y i) * g i) ≡ g y
unfolding sum
sum-at zero y g h = absurd (omega arith)
sum-at (suc n) zero g h =
    omega (arith, sum-none n (λ i. bit (eqb 0 (suc i)) * g (suc i)) (λ i _. rw (eqb-zero-suc i) (zero-mul (g (suc i)))))
sum-at (suc n) (suc y) g h =
    omega (
      arith,
      (ap (λ t. bit t * g 0) (eqb-suc-zero y) ∙ zero-mul (g 0)),
      (sum_same n (λ i. bit (eqb (suc y) (suc i)) * g (suc i)) (λ i. bit (eqb y i) * g (suc i)) (λ i _. ap (λ t. bit t * g (suc i)) (eqb-suc-suc y i))),
      sum-at n y (λ i. g (suc i)) (omega arith),
    )

-- lists of lists
pub total-up : (x : ℕ) (L : ℕ → List ℕ) (n k : ℕ) → total x (map L (up_from k n)) ≡ sum n (λ i. count x (L (k + i)))
unfolding up_from total sum
total-up x L zero k = refl
total-up x L (suc n) k =
    ap₂ {C = ℕ} (λ a b. a + b) (ap (λ i. count x (L i)) (sym (add-zero k)))
    (total-up x L n (suc k)
    ∙ sum_same n (λ i. count x (L (suc k + i))) (λ i. count x (L (k + suc i))) (λ i _. let e : suc k + i ≡ k + suc i = omega arith in ap (λ j. count x (L j)) e))

-- what k makes of a list of numbers below n
pub count_map : (x n : ℕ) (k : ℕ → ℕ) (xs : List ℕ) → ((p : ℕ) → n ≤ p → count p xs ≡ 0) → count x (map k xs) ≡ sum n (λ p. count p xs * bit (eqb (k p) x))
unfolding count
count_map x n k [] h = sym (sum-none n _ (λ p _. zero-mul (bit (eqb (k p) x))))
count_map x n k (y ∷ ys) h =
    ap₂ {C = ℕ} (λ a b. a + b) (sym (sum-at n y B small)) (count_map x n k ys (λ p i. omega (arith, h p i)))
    ∙ sym (sum-plus n (λ p. bit (eqb y p) * B p) (λ p. count p ys * B p))
    ∙ sum_same n (λ p. bit (eqb y p) * B p + count p ys * B p) (λ p. (bit (eqb y p) + count p ys) * B p) (λ p _. sym (add-mul (bit (eqb y p)) (count p ys) (B p)))
  where
    B : ℕ → ℕ
    B p = bit (eqb (k p) x)

    small : y < n
    small = go (dec_lt y n)
      where
        go : Dec (y < n) → y < n
        go (yes a) = a
        go (no a) = absurd (omega (arith, h y (omega arith), ap bit (eq-eqb y y refl)))

-- All elements of the lists, one list after the other.
use Prim.Native.Nat.{ℕ, suc, ◌+◌, ◌≤◌, ◌<◌}
use mathlib.Core.Path.{◌≡◌, refl, ap, ◌∙◌}
use mathlib.Core.List.{List, [], ◌∷◌, ◌++◌}
use native.Mathlib.Omega.{arith}
use lib.ListN.{length, get_or}
use Rattle.occurrences.specs.Count.{count, total}
use Rattle.occurrences.proofs.Counts.{bit-ne, count-append}
use Rattle.occurrences.proofs.Pigeons.{Below}

unfoldable pub flat : List (List ℕ) → List ℕ
flat [] = []
flat (xs ∷ ls) = xs ++ flat ls

pub count-flat : (x : ℕ) (ls : List (List ℕ)) → count x (flat ls) ≡ total x ls
unfolding flat total count
count-flat x [] = refl
count-flat x (xs ∷ ls) = count-append x xs (flat ls) ∙ ap (λ n. count x xs + n) (count-flat x ls)

pub below-append : (n : ℕ) (xs ys : List ℕ) → Below n xs → Below n ys → Below n (xs ++ ys)
below-append n [] ys a b = b
below-append n (x ∷ xs) ys a b = (a.0, below-append n xs ys a.1 b)

pub below-count : (n x : ℕ) (xs : List ℕ) → Below n xs → n ≤ x → count x xs ≡ 0
unfolding count
below-count n x [] b h = refl
below-count n x (y ∷ xs) b h = let r = below-count n x xs b.1 h in omega (arith, b.0, bit-ne y x (λ e. omega (arith, b.0)))

pub below-flat : (n : ℕ) (ls : List (List ℕ)) → ((l : ℕ) → l < length ls → Below n (get_or ls l [])) → Below n (flat ls)
unfolding flat
below-flat n [] f = tt
below-flat n (xs ∷ ls) f = below-append n xs (flat ls) (f 0 (omega arith)) (below-flat n ls (λ l h. f (suc l) (omega arith)))

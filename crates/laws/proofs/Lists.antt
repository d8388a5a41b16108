-- Lists of one value, and of values g k, g (k + 1), ..
use mathlib.Core.Path.{◌≡◌, refl, ap, ◌∙◌}
use mathlib.Core.List.{map}
use Prim.Native.Nat.{ℕ, zero, suc, ◌+◌, ◌<◌}
use native.Mathlib.Omega.{arith}
use lib.ListN.{length, get_or, replicate}
use Rattle.rules.specs.Allocation.{up_from}

pub get_or-replicate-same : {A : Type 0} (a : A) (n i : ℕ) → get_or (replicate n a) i a ≡ a
get_or-replicate-same a zero i = refl
get_or-replicate-same a (suc n) zero = refl
get_or-replicate-same a (suc n) (suc i) = get_or-replicate-same a n i

module _ {A : Type 0} (g : ℕ → A) where
  pub length_up : (n k : ℕ) → length (map g (up_from k n)) ≡ n
  unfolding up_from
  length_up zero k = refl
  length_up (suc n) k = ap suc (length_up n (suc k))

  pub get_or-up : (n k l : ℕ) (a : A) → l < n → get_or (map g (up_from k n)) l a ≡ g (k + l)
  unfolding up_from
  get_or-up zero k l a h = absurd (omega arith)
  get_or-up (suc n) k zero a h = let e : k ≡ k + 0 = omega arith in ap g e
  get_or-up (suc n) k (suc l) a h = let e : suc k + l ≡ k + suc l = omega arith in get_or-up n (suc k) l a (omega arith) ∙ ap g e

  pub get_or-all : (n l : ℕ) (a : A) → l < n → get_or (map g (up_from 0 n)) l a ≡ g l
  get_or-all n l a h = let e : 0 + l ≡ l = omega arith in get_or-up n 0 l a h ∙ ap g e

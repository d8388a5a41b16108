-- The search for another share.
use Prim.Native.Nat.{ℕ, zero, suc, ◌+◌}
use mathlib.Core.Path.{◌≡◌, refl, ap, ◌∙◌}
use mathlib.Core.Bool.{Bool, true, false, cond, ◌||◌}
use mathlib.Core.List.{List}
use native.Mathlib.Omega.{arith}
use borrow.Author.Tests.{lt-ltb, le-ltb}
use lib.Dec.{ltb}
use Rattle.std.specs.List.{list_any, range_with_len}
use Rattle.judges.specs.Sharing.{differs, others_from}

as-cond : (t r : Bool) → (t || r) ≡ cond t true r
as-cond true r = refl
as-cond false r = refl

-- an accessor with another share is open at one of the n places starting at place j, that is i + a
pub others-any : (s : List ℕ) (share i a j n : ℕ) → i + a ≡ j → list_any (λ p. differs s share (i + p)) (range_with_len a n) ≡ others_from s share j n
unfolding others_from
others-any s share i a j zero e = refl
others-any s share i a j (suc n) e =
    ap (λ r. differs s share (i + a) || r) (others-any s share i (a + 1) (suc j) n (omega arith))
    ∙ as-cond (differs s share (i + a)) (others_from s share (suc j) n) ∙ ap (λ k. cond (differs s share k) true (others_from s share (suc j) n)) e

-- a number that is 0, or is not
pub is-nought : (n : ℕ) → n ≡ 0 → ltb 0 n ≡ false
is-nought n e = le-ltb 0 n (omega arith)

pub not-nought : (n : ℕ) → (n ≡ 0 → ⊥) → ltb 0 n ≡ true
not-nought n d = lt-ltb 0 n (omega arith)

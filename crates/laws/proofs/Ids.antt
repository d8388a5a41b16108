-- A writer's ID: "the smallest number from 1 that no open writer of the file holds". With eight places eight steps are enough to find it.
use mathlib.Core.Path.{◌≡◌, refl}
use mathlib.Core.Bool.{Bool, true, false, cond, ◌&&◌}
use mathlib.Core.List.{List, [], ◌∷◌}
use mathlib.Core.Option.{Option, none, some}
use Prim.Native.Nat.{ℕ, zero, suc, ◌+◌, ◌≤◌, ◌<◌}
use native.Mathlib.Omega.{arith}
use lib.Dec.{leb, eqb}
use lib.ListN.{length}
use borrow.Author.Tests.{leb-true, leb-false, le-leb, lt-leb, eqb-true, eqb-false}
use Rattle.rules.specs.Limits.{places}
use Rattle.rules.specs.State.{Acc}
use Rattle.rules.specs.Requests.{count_acc}
use Rattle.rules.specs.Open.{holds_id, free_id_from, free_id}
use Rattle.rules.proofs.Split.{by_cases, both, bothc}

-- n is the smallest number from `least` on that no writer of l holds
pub record Smallest (l : List (Option Acc)) (least n : ℕ) : Type 0 where
  pub from : least ≤ n
  pub free : count_acc (holds_id n) l ≡ 0
  pub held : (m : ℕ) → least ≤ m → m < n → 1 ≤ count_acc (holds_id m) l

-- a writer whose ID is n or more
unfoldable holds_from : ℕ → Acc → Bool
holds_from n a = a.writer && leb n a.ident

-- n itself, or more
one_from : (w : Bool) (n m : ℕ) → cond (w && leb n m) 1 0 ≡ cond (w && eqb m n) 1 0 + cond (w && leb (n + 1) m) 1 0
one_from false n m = refl
one_from true n m =
    by_cases (eqb m n)
    (λ e. let q : m ≡ n = eqb-true m n e in rw (e, le-leb n m (omega (arith, q)), lt-leb (n + 1) m (omega (arith, q))) refl)
    (λ e. let q : m ≡ n → ⊥ = eqb-false m n e in
    by_cases (leb n m)
    (λ h. rw (e, h, le-leb (n + 1) m (omega (arith, leb-true n m h, q))) refl)
    (λ h. rw (e, h, lt-leb (n + 1) m (omega (arith, leb-false n m h))) refl))

from_next : (n : ℕ) (l : List (Option Acc)) → count_acc (holds_from n) l ≡ count_acc (holds_id n) l + count_acc (holds_from (n + 1)) l
unfolding count_acc holds_from holds_id
from_next n [] = refl
from_next n (none ∷ l) = from_next n l
from_next n (some a ∷ l) = omega (arith, one_from a.writer n a.ident, from_next n l)

-- k steps are enough if at most k writers hold n or more
smallest-from : (k n : ℕ) (l : List (Option Acc)) → count_acc (holds_from n) l ≤ k → Smallest l n (free_id_from k n l)
unfolding free_id_from
smallest-from zero n l c = record { from = omega arith; free = omega (arith, from_next n l); held = λ m a b. absurd (omega (arith, a, b)) }
smallest-from (suc k) n l c =
    both (Smallest l n) (eqb (count_acc (holds_id n) l) 0)
    (λ e. record { from = omega arith; free = eqb-true _ _ e; held = λ m a b. absurd (omega (arith, a, b)) })
    (λ e. let x : count_acc (holds_id n) l ≡ 0 → ⊥ = eqb-false _ _ e in
    let r = smallest-from k (n + 1) l (omega (arith, from_next n l, x)) in
    record {
      from = omega (arith, r.from);
      free = r.free;
      held = λ m a b. by_cases (eqb m n) (λ q. rw (eqb-true m n q) (omega (arith, x))) (λ q. r.held m (let p : m ≡ n → ⊥ = eqb-false m n q in omega (arith, a, p)) b);
    })

few : (t : Acc → Bool) (l : List (Option Acc)) → count_acc t l ≤ length l
unfolding count_acc
few t [] = omega arith
few t (none ∷ l) = omega (arith, few t l)
few t (some a ∷ l) = let one : cond (t a) 1 0 ≤ 1 = bothc (λ (n : ℕ). n ≤ 1) (t a) (λ _. omega arith) (λ _. omega arith) in omega (arith, one, few t l)

pub smallest-id : (l : List (Option Acc)) → length l ≤ places → Smallest l 1 (free_id l)
unfolding free_id
smallest-id l h = smallest-from places 1 l (omega (arith, few (holds_from 1) l))

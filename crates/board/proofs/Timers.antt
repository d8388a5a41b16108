-- What is left of a timeout: among the desk's timers, and among those of its file.
use Prim.Native.Nat.{ℕ, suc, ◌+◌, ◌*◌, ◌/◌, ◌%◌, ◌<◌}
use mathlib.Core.Path.{◌≡◌, refl, sym, ap, ◌∙◌}
use mathlib.Core.Logic.{◌⊎◌, inl, inr}
use mathlib.Core.Bool.{false, cond}
use mathlib.Core.List.{List, [], ◌∷◌}
use native.Mathlib.Omega.{arith}
use native.Mathlib.Decide.{ℕ_discrete}
use borrow.Author.Tests.{eq-eqb, ne_eqb, eqb-true, eqb-false}
use lib.Dec.{eqb}
use lib.ListN.{length, get_or}
use Rattle.rules.specs.Limits.{places}
use Rattle.rules.specs.State.{Timer}
use Rattle.rules.proofs.Split.{by_cases}
use Rattle.laws.specs.Entries.{local, sieve}
use Rattle.ports.specs.Index.{index}
use Rattle.std.specs.Prelude.{Some, None}
use Rattle.board.specs.Requests.{left_of}

-- the first timer of the place, or none
module _ (i : ℕ) (u : Timer) where
  abbrev at : List Timer → ℕ
  at ts = index (λ t. eqb t.place i) ts

  abbrev pub Timed : List Timer → Type 0
  Timed ts = ((at ts < length ts) × (left_of i ts ≡ Some (get_or ts (at ts) u).left)) ⊎ ((at ts ≡ length ts) × (left_of i ts ≡ None))

  timed-on : (t : Timer) (ts : List Timer) → eqb t.place i ≡ false → Timed ts → Timed (t ∷ ts)
  unfolding left_of index
  timed-on t ts k (inl (h, e)) = rw k (inl (omega arith, e))
  timed-on t ts k (inr (h, e)) = rw k (inr (ap suc h, e))

  pub timed : (ts : List Timer) → Timed ts
  unfolding left_of index
  timed [] = inr (refl, refl)
  timed (t ∷ ts) = let r = timed ts in by_cases (eqb t.place i) (λ k. rw k (inl (omega arith, refl))) (λ k. timed-on t ts k r)

-- the timers of place p of file f
module _ (f p : ℕ) (h : p < places) where
  same_place : (n : ℕ) → n / places ≡ f → eqb (n % places) p ≡ eqb n (places * f + p)
  same_place n e = go (ℕ_discrete (n % places) p)
    where
      go : Dec (n % places ≡ p) → eqb (n % places) p ≡ eqb n (places * f + p)
      go (yes k) = eq-eqb (n % places) p k ∙ sym (eq-eqb n (places * f + p) (omega arith))
      go (no k) = ne_eqb (n % places) p k ∙ sym (ne_eqb n (places * f + p) (λ z. k (omega arith)))

  other-file : (n : ℕ) → (n / places ≡ f → ⊥) → eqb n (places * f + p) ≡ false
  other-file n k = ne_eqb n (places * f + p) (λ z. k (omega arith))

  pub left-sieve : (ts : List Timer) → left_of p (sieve f ts) ≡ left_of (places * f + p) ts
  unfolding left_of sieve local
  left-sieve [] = refl
  left-sieve (t ∷ ts) =
      let r = left-sieve ts in
      by_cases (eqb (t.place / places) f)
      (λ k. rw k (rw (same_place t.place (eqb-true (t.place / places) f k)) (ap (cond (eqb t.place (places * f + p)) (Some t.left)) r)))
      (λ k. rw k (rw (other-file t.place (eqb-false (t.place / places) f k)) r))

-- One turn of each loop over the places of a file.
use Prim.Native.Nat.{ℕ, zero, suc, ◌+◌, ◌-◌, ◌≤◌, ◌<◌}
use mathlib.Core.Path.{◌≡◌, refl, sym, ap, ◌∙◌}
use mathlib.Core.Bool.{Bool, true, false, ◌||◌}
use mathlib.Core.List.{List}
use native.Mathlib.Omega.{arith}
use lib.Dec.{eqb}
use borrow.Author.Tests.{eq-eqb, ne_eqb}
use Rattle.std.specs.List.{list_any, range_with_len}
use Rattle.segment.specs.Fields.{place_at}
use Rattle.rules.proofs.Split.{pick_true, pick-false}
use Rattle.opening.specs.Finding.{free_from, row_holds, held_from, id_held, id_from}

-- v is the side of place i, and w places were passed over
module _ (s : List ℕ) (i v : ℕ) (e : v ≡ (place_at s i).side) where
  pub free-here : (n w : ℕ) → 0 < n → v ≡ 0 → w + free_from s i n ≡ w
  unfolding free_from
  free-here zero w h u = absurd (omega arith)
  free-here (suc n) w h u = omega (arith, pick_true (eqb (place_at s i).side 0) 0 (suc (free_from s (suc i) n)) (eq-eqb (place_at s i).side 0 (sym e ∙ u)))

  pub free_on : (n w : ℕ) → 0 < n → (v ≡ 0 → ⊥) → w + free_from s i n ≡ w + 1 + free_from s (i + 1) (n - 1)
  unfolding free_from
  free_on zero w h u = absurd (omega arith)
  free_on (suc n) w h u =
      let m : suc n - 1 ≡ n = omega arith in
      let k : i + 1 ≡ suc i = omega arith in
      rw (m, k) (omega (arith, pick-false (eqb (place_at s i).side 0) 0 (suc (free_from s (suc i) n)) (ne_eqb (place_at s i).side 0 (λ z. u (e ∙ z)))))

pub free-end : (s : List ℕ) (i n w : ℕ) → n ≤ 0 → w + free_from s i n ≡ w
unfolding free_from
free-end s i zero w h = omega arith
free-end s i (suc n) w h = absurd (omega arith)

-- the row of one of the n places starting at place j, that is i + a, holds the ID

as-pick : (t r : Bool) → (t || r) ≡ elim t [ true ↦ true | false ↦ r ]
as-pick true r = refl
as-pick false r = refl

pub held-any : (s : List ℕ) (id i a j n : ℕ) → i + a ≡ j → list_any (λ p. row_holds id (place_at s (i + p))) (range_with_len a n) ≡ held_from s id j n
unfolding held_from
held-any s id i a j zero e = refl
held-any s id i a j (suc n) e =
    ap (λ r. row_holds id (place_at s (i + a)) || r) (held-any s id i (a + 1) (suc j) n (omega arith))
    ∙ as-pick (row_holds id (place_at s (i + a))) (held_from s id (suc j) n)
    ∙ ap (λ k. elim (row_holds id (place_at s k)) [ true ↦ true | false ↦ held_from s id (suc j) n ]) e

-- v says whether n is held
module _ (s : List ℕ) (f n : ℕ) (v : Bool) (e : v ≡ id_held s f n) where
  pub id-here : (k : ℕ) → 0 < k → v ≡ false → id_from s f k n ≡ n
  unfolding id_from
  id-here zero h t = absurd (omega arith)
  id-here (suc k) h t = pick-false _ _ _ (sym e ∙ t)

  pub id-on : (k : ℕ) → 0 < k → v ≡ true → id_from s f k n ≡ id_from s f (k - 1) (n + 1)
  unfolding id_from
  id-on zero h t = absurd (omega arith)
  id-on (suc k) h t = let m : suc k - 1 ≡ k = omega arith in rw m (pick_true _ _ _ (sym e ∙ t))

pub id-end : (s : List ℕ) (f k n : ℕ) → k ≤ 0 → id_from s f k n ≡ n
unfolding id_from
id-end s f zero n h = refl
id-end s f (suc k) n h = absurd (omega arith)

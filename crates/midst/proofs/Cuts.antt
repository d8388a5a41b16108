-- A list without the elements that pass a test: where one does it is cut out, where none does nothing is. Queues without a place, clocks without its
-- timer.
use Prim.Native.Nat.{ℕ, ◌+◌, ◌≤◌, ◌<◌}
use mathlib.Core.Path.{◌≡◌, refl, sym, ap, ap₂, ◌∙◌}
use mathlib.Core.Bool.{Bool, cond}
use mathlib.Core.List.{List, [], ◌∷◌, ◌++◌, map}
use native.Mathlib.Omega.{arith}
use borrow.Author.Tests.{eqb-true, eqb-false, eq-eqb}
use lib.Dec.{eqb}
use lib.ListN.{length, get_or, take}
use Rattle.occurrences.specs.Count.{bit, count}
use Rattle.occurrences.proofs.Counts.{bit-eq}
use Rattle.rules.specs.State.{Timer}
use Rattle.rules.specs.Requests.{without, without_timer}
use Rattle.rules.proofs.Split.{by_cases}
use Rattle.laws.specs.Counts.{places_of, count_t}
use Rattle.laws.proofs.Counts.{count-without-same}
use Rattle.ports.specs.Index.{cut, index}
use Rattle.ports.proofs.Index.{index_at}
use Rattle.ports.proofs.Maps.{map-in, map-cut}

-- by a test

module _ {A : Type 0} (t : A → Bool) where
  unfoldable pub sift : List A → List A
  sift [] = []
  sift (x ∷ l) = cond (t x) (sift l) (x ∷ sift l)

  unfoldable pub passes : List A → ℕ
  passes [] = 0
  passes (x ∷ l) = bit (t x) + passes l

  sift-none : (l : List A) → passes l ≡ 0 → sift l ≡ l
  unfolding sift passes
  sift-none [] e = refl
  sift-none (x ∷ l) e = by_cases (t x)
      (λ k. let z : 1 + passes l ≡ 0 = rw k at e in absurd (omega arith))
      (λ k. let z : 0 + passes l ≡ 0 = rw k at e in rw k (ap (◌∷◌ x) (sift-none l (omega arith))))

  sift-cut : (l : List A) → passes l ≡ 1 → sift l ≡ cut (index t l) l
  unfolding sift passes cut index
  sift-cut [] e = absurd (omega arith)
  sift-cut (x ∷ l) e = by_cases (t x)
      (λ k. let z : 1 + passes l ≡ 1 = rw k at e in rw k (sift-none l (omega arith)))
      (λ k. let z : 0 + passes l ≡ 1 = rw k at e in rw k (ap (◌∷◌ x) (sift-cut l (omega arith))))

  index_in : (l : List A) → 1 ≤ passes l → index t l < length l
  unfolding passes index
  index_in [] e = absurd (omega arith)
  index_in (x ∷ l) e = by_cases (t x)
      (λ k. rw k (omega arith))
      (λ k. let z : 1 ≤ 0 + passes l = rw k at e in let r = index_in l (omega arith) in rw k (omega arith))

  index-end : (l : List A) → passes l ≡ 0 → index t l ≡ length l
  unfolding passes index
  index-end [] e = refl
  index-end (x ∷ l) e = by_cases (t x)
      (λ k. let z : 1 + passes l ≡ 0 = rw k at e in absurd (omega arith))
      (λ k. let z : 0 + passes l ≡ 0 = rw k at e in let r = index-end l (omega arith) in rw k (omega arith))

-- a test that says the same of what stands in the list
pub index-alike : (t u : ℕ → Bool) (l : List ℕ) → ((x : ℕ) → 1 ≤ count x l → t x ≡ u x) → index t l ≡ index u l
unfolding index count
index-alike t u [] h = refl
index-alike t u (x ∷ l) h =
    rw (h x (omega (arith, bit-eq x x refl)), index-alike t u l (λ z k. h z (omega arith)))

-- what stands in a list, in what a function makes of it
pub count-made : (F : ℕ → ℕ) (x : ℕ) (l : List ℕ) → 1 ≤ count x l → 1 ≤ count (F x) (map F l)
unfolding count
count-made F x [] h = absurd (omega arith)
count-made F x (y ∷ l) h = by_cases (eqb y x)
    (λ k. omega (arith, bit-eq (F y) (F x) (ap F (eqb-true y x k))))
    (λ k. let z : 1 ≤ 0 + count x l = rw k at h in omega (arith, count-made F x l (omega arith)))

-- places

module _ (p : ℕ) where
  abbrev is : ℕ → Bool
  is x = eqb x p

  without-sift : (l : List ℕ) → without p l ≡ sift is l
  unfolding without sift
  without-sift [] = refl
  without-sift (x ∷ l) = rw (without-sift l)

  count-passes : (l : List ℕ) → count p l ≡ passes is l
  unfolding count passes
  count-passes [] = refl
  count-passes (x ∷ l) = ap (λ n. bit (eqb x p) + n) (count-passes l)

  pub without-absent : (l : List ℕ) → count p l ≡ 0 → without p l ≡ l
  without-absent l e = without-sift l ∙ sift-none is l (sym (count-passes l) ∙ e)

  pub place-in : (l : List ℕ) → count p l ≡ 1 → index (λ x. eqb x p) l < length l
  place-in l e = index_in is l (omega (arith, count-passes l))

  pub place_at : (l : List ℕ) → count p l ≡ 1 → get_or l (index (λ x. eqb x p) l) 0 ≡ p
  place_at l e = eqb-true _ p (index_at is 0 l (place-in l e))

  -- the places before p
  pub place-before : {B : Type 0} (F : ℕ → B) (ys zs : List ℕ) → count p ys ≡ 0 → take (index (λ x. eqb x p) (ys ++ p ∷ zs)) (map F (ys ++ p ∷ zs)) ≡ map F ys
  unfolding index count
  place-before F [] zs e = rw (eq-eqb p p refl) refl
  place-before F (y ∷ ys) zs e = by_cases (eqb y p)
      (λ k. let z : 1 + count p ys ≡ 0 = rw k at e in absurd (omega arith))
      (λ k. let z : 0 + count p ys ≡ 0 = rw k at e in rw k (ap (◌∷◌ (F y)) (place-before F ys zs (omega arith))))

  -- what stands in the list without p is another
  module _ {B : Type 0} (F G : ℕ → B) (same : (x : ℕ) → (x ≡ p → ⊥) → F x ≡ G x) where
    pub map-without : (l : List ℕ) → map F (without p l) ≡ map G (without p l)
    map-without l = map-in F G (without p l) (λ x k. same x (λ e. omega (arith, count-without-same p l, ap (λ y. count y (without p l)) e)))

    pub map-removed : (l : List ℕ) → count p l ≡ 1 → map F (without p l) ≡ cut (index (λ x. eqb x p) l) (map G l)
    map-removed l e =
        map-without l ∙ ap (map G) (without-sift l ∙ sift-cut is l (sym (count-passes l) ∙ e)) ∙ map-cut G (index is l) l

    pub map-absent : (l : List ℕ) → count p l ≡ 0 → map F (without p l) ≡ map G l
    map-absent l e = map-without l ∙ ap (map G) (without-absent l e)

-- timers

module _ (i : ℕ) where
  abbrev of : Timer → Bool
  of t = eqb t.place i

  timer-sift : (l : List Timer) → without_timer i l ≡ sift of l
  unfolding without_timer sift
  timer-sift [] = refl
  timer-sift (x ∷ l) = rw (timer-sift l)

  timer-passes : (l : List Timer) → count_t i l ≡ passes of l
  unfolding count_t places_of count passes
  timer-passes [] = refl
  timer-passes (x ∷ l) = ap (λ n. bit (eqb x.place i) + n) (timer-passes l)

  pub timer-cut : (l : List Timer) → count_t i l ≡ 1 → without_timer i l ≡ cut (index (λ t. eqb t.place i) l) l
  timer-cut l e = timer-sift l ∙ sift-cut of l (sym (timer-passes l) ∙ e)

  pub timer-in : (l : List Timer) → count_t i l ≡ 1 → index (λ t. eqb t.place i) l < length l
  timer-in l e = index_in of l (omega (arith, timer-passes l))

  pub timer-end : (l : List Timer) → count_t i l ≡ 0 → index (λ t. eqb t.place i) l ≡ length l
  timer-end l e = index-end of l (sym (timer-passes l) ∙ e)

  pub timer-at : (l : List Timer) (u : Timer) → count_t i l ≡ 1 → (get_or l (index (λ t. eqb t.place i) l) u).place ≡ i
  timer-at l u e = eqb-true _ i (index_at of u l (timer-in l e))

  -- what depends on the place, for timers of other places
  pub map-timers : {B : Type 0} (F G : ℕ → B) → ((x : ℕ) → (x ≡ i → ⊥) → F x ≡ G x) → (l : List Timer)
      → map (λ t. F t.place) (without_timer i l) ≡ map (λ t. G t.place) (without_timer i l)
  unfolding without_timer
  map-timers {B} F G same [] = refl
  map-timers {B} F G same (x ∷ l) = by_cases (eqb x.place i)
      (λ k. rw k (map-timers F G same l))
      (λ k. rw k (ap₂ {C = List B} (λ y m. y ∷ m) (same x.place (eqb-false _ i k)) (map-timers F G same l)))

-- The entries of a queue name the places that wait in it: a place is read back from its entry, and its request is found by it.
use Prim.Native.Nat.{ℕ, ◌%◌, ◌≤◌, ◌<◌}
use mathlib.Core.Path.{◌≡◌, refl, ap, ◌∙◌}
use mathlib.Core.Bool.{Bool, true, false}
use mathlib.Core.List.{List, [], ◌∷◌, map}
use native.Mathlib.Omega.{arith}
use lib.Dec.{eqb}
use borrow.Author.Tests.{eqb-true, eqb-false}
use Rattle.occurrences.specs.Count.{count}
use Rattle.occurrences.proofs.Counts.{bit-eq, bit-ne, count_head}
use Rattle.rules.specs.Limits.{places}
use Rattle.rules.specs.State.{Req}
use Rattle.rules.specs.Allocation.{place_of}
use Rattle.rules.proofs.Split.{by_cases, pick_true, pick-false}
use Rattle.segment.specs.declared.Entry.{Entry}
use Rattle.segment.specs.Fields.{entry_of}
use Rattle.runs.specs.Shown.{request_by, place_by}

module _ (f : ℕ) (g : ℕ → List ℕ) where
  -- the entry of each place in the list names that place, one of the eight
  abbrev pub Names : List ℕ → Type 0
  Names l = (y : ℕ) → 1 ≤ count y l → ((entry_of (g y)).place ≡ place_of f y) × (y < places)

  names-tail : (y : ℕ) (l : List ℕ) → Names (y ∷ l) → Names l
  unfolding count
  names-tail y l n z h = n z (omega arith)

  names-head : (y : ℕ) (l : List ℕ) → Names (y ∷ l) → ((entry_of (g y)).place ≡ place_of f y) × (y < places)
  names-head y l n = n y (count_head y l)

  pub places-back : (l : List ℕ) → Names l → map place_by (map g l) ≡ l
  unfolding place_by
  places-back [] n = refl
  places-back (y ∷ l) n =
      let (e, h) = names-head y l n in
      let z : (entry_of (g y)).place % places ≡ y = rw e (unfold place_of in omega (arith, h)) in
      rw (z, places-back l (names-tail y l n)) refl

  module _ (by : Entry → Req) (p : ℕ) where
    abbrev names : ℕ → Bool
    names y = eqb (entry_of (g y)).place (place_of f p)

    own : (y : ℕ) (l : List ℕ) → Names (y ∷ l) → names y ≡ true → y ≡ p
    unfolding place_of
    own y l n t = omega (arith, eqb-true (entry_of (g y)).place (place_of f p) t, (names-head y l n).0)

    other : (y : ℕ) (l : List ℕ) → Names (y ∷ l) → names y ≡ false → y ≡ p → ⊥
    other y l n t e = eqb-false (entry_of (g y)).place (place_of f p) t ((names-head y l n).0 ∙ ap (place_of f) e)

    -- no entry names p
    pub passed : (l : List ℕ) (q : Req) → Names l → count p l ≡ 0 → request_by (place_of f p) by (map g l) q ≡ q
    unfolding request_by count
    passed [] q n h = refl
    passed (y ∷ l) q n h = by_cases (names y)
        (λ t. absurd (omega (arith, h, bit-eq y p (own y l n t))))
        (λ t. pick-false (names y) _ _ t ∙ passed l q (names-tail y l n) (omega arith))

    -- an entry names p
    pub met : (l : List ℕ) (q : Req) → Names l → 1 ≤ count p l → request_by (place_of f p) by (map g l) q ≡ by (entry_of (g p))
    unfolding request_by count
    met [] q n h = absurd (omega arith)
    met (y ∷ l) q n h = by_cases (names y)
        (λ t. pick_true (names y) _ _ t ∙ ap (λ (z : ℕ). by (entry_of (g z))) (own y l n t))
        (λ t. pick-false (names y) _ _ t ∙ met l q (names-tail y l n) (omega (arith, h, bit-ne y p (other y l n t))))

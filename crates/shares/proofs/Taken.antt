-- The oldest record goes, or is taken: what is left, by the records held.
use Prim.Native.Nat.{ℕ, zero, suc, ◌+◌, ◌%◌}
use mathlib.Core.Bool.{Bool, true, false, ◌||◌}
use mathlib.Core.Path.{◌≡◌, refl, ap, ◌∙◌}
use mathlib.Core.List.{List, [], ◌∷◌}
use mathlib.Core.Option.{Option, none, some}
use native.Mathlib.Omega.{arith}
use lib.Dec.{eqb}
use lib.ListN.{length, drop}
use borrow.Author.Tests.{ne_eqb}
use Rattle.rules.specs.State.{Rec, Geo, Store}
use Rattle.rules.specs.Store.{advance, advance_by, Found, head_of, take_head}
use Rattle.rules.proofs.Split.{both}

module _ (g : Geo) (s : Store) where
  held : List Rec → Store
  held l = record { block = s.block; spent = s.spent; recs = l; share = s.share }

  -- `rest` stays; whether the oldest block is spent
  abbrev onward : List Rec → Bool → Store
  onward rest t =
      elim t as (λ (b : Bool). Store) [
        | true ↦ record { block = (s.block + 1) % g.blocks; spent = 0; recs = rest; share = s.share }
        | false ↦ record { block = s.block; spent = s.spent + 1; recs = rest; share = s.share }
      ]

  -- the last one held
  pub advance-last : (r : Rec) → s.recs ≡ r ∷ [] → advance g s ≡ record { block = (s.block + 1) % g.blocks; spent = 0; recs = []; share = s.share }
  unfolding held advance
  advance-last r e = ap (λ (l : List Rec). advance g (held l)) e

  -- others stay
  pub advance-more : (r q : Rec) (rest : List Rec) → s.recs ≡ r ∷ q ∷ rest → advance g s ≡ onward (q ∷ rest) (eqb (s.spent + 1) g.factor)
  unfolding held advance
  advance-more r q rest e =
      ap (λ (l : List Rec). advance g (held l)) e
      ∙ ap (λ (t : Bool). onward (q ∷ rest) (t || eqb (s.spent + 1) g.factor)) (ne_eqb (suc (suc (length rest))) 1 (λ x. omega (arith, x)))

  pub recs-advance : (r : Rec) (rest : List Rec) → s.recs ≡ r ∷ rest → (advance g s).recs ≡ rest
  unfolding advance
  recs-advance r rest e = both (λ (t : Store). t.recs ≡ drop 1 s.recs) (eqb (length s.recs) 1 || eqb (s.spent + 1) g.factor) (λ _. refl) (λ _. refl) ∙ ap (drop 1) e

  pub share-advance : (advance g s).share ≡ s.share
  unfolding advance
  share-advance = both (λ (t : Store). t.share ≡ s.share) (eqb (length s.recs) 1 || eqb (s.spent + 1) g.factor) (λ _. refl) (λ _. refl)

pub share-advance_by : (n : ℕ) (g : Geo) (s : Store) → (advance_by n g s).share ≡ s.share
unfolding advance_by
share-advance_by zero g s = refl
share-advance_by (suc n) g s = share-advance_by n g (advance g s) ∙ share-advance g s

-- what a read is handed

module _ (g : Geo) (keep : Bool) (went : List Rec) (s : Store) where
  abbrev finds : Option Rec → Found
  finds o =
      elim o as (λ (x : Option Rec). Found) [
        | none ↦ record { store = s; got = none; went = went; took = none }
        | some r ↦ elim keep as (λ (b : Bool). Found) [
          | true ↦ record { store = s; got = some r; went = went; took = none }
          | false ↦ record { store = advance g s; got = some r; went = went; took = some r }
        ]
      ]

  pub take_head-none : s.recs ≡ [] → take_head g keep went s ≡ record { store = s; got = none; went = went; took = none }
  unfolding take_head head_of
  take_head-none e = ap (λ (l : List Rec). finds (head_of l)) e

  pub take_head-some : (r : Rec) (rest : List Rec) → s.recs ≡ r ∷ rest → take_head g keep went s ≡ finds (some r)
  unfolding take_head head_of
  take_head-some r rest e = ap (λ (l : List Rec). finds (head_of l)) e

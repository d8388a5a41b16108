-- What is found in the rows of a file's places is what the rules find among its accessors.
use Prim.Native.Nat.{ℕ, zero, suc, ◌+◌, ◌*◌, ◌<◌}
use mathlib.Core.Path.{◌≡◌, refl, sym, ap, ◌∙◌}
use mathlib.Core.Bool.{Bool, true, false, not, ◌&&◌}
use mathlib.Core.List.{List, [], ◌∷◌}
use mathlib.Core.Option.{Option, none, some}
use native.Mathlib.Omega.{arith}
use lib.Dec.{eqb}
use lib.ListN.{length, get_or}
use borrow.Author.Tests.{eq-eqb, ne_eqb}
use Rattle.occurrences.specs.Count.{bit}
use Rattle.segment.specs.Layout.{place_width, place_row_at}
use Rattle.segment.specs.Table.{row}
use Rattle.segment.specs.Fields.{place_at, place_row_of}
use Rattle.rules.specs.Limits.{places}
use Rattle.rules.specs.State.{Acc}
use Rattle.rules.specs.Requests.{count_acc, any_acc}
use Rattle.rules.specs.Open.{first_free, holds_id, free_id_from, free_id}
use Rattle.rules.proofs.Split.{by_cases, pick_true, pick-false}
use Rattle.memory.specs.Image.{place_words}
use Rattle.accessors.specs.Sides.{side_of}
use Rattle.accessors.proofs.Counted.{Rows, rows-rest, rows-first, side-is}
use Rattle.opening.specs.Finding.{free_from, free_place, row_holds, held_from, id_held, id_from, next_id}

-- the ID that the row of a place has
id-is : (s : List ℕ) (i : ℕ) (a : Acc) → row s (place_row_at i) place_width ≡ place_words (some a) → (place_at s i).id ≡ a.ident
unfolding place_at place_row_of place_words
id-is s i a e = ap (λ (r : List ℕ). get_or r 1 0) e

module _ (s : List ℕ) where
  free-is : (i : ℕ) (l : List (Option Acc)) → Rows s i l → free_from s i (length l) ≡ first_free l
  unfolding free_from first_free side_of
  free-is i [] h = refl
  free-is i (none ∷ l) h = pick_true _ _ _ (eq-eqb (place_at s i).side 0 (side-is s i none (rows-first s i none l h)))
  free-is i (some a ∷ l) h =
      let z : (place_at s i).side ≡ 1 + bit a.writer = side-is s i (some a) (rows-first s i (some a) l h) in
      pick-false _ _ _ (ne_eqb (place_at s i).side 0 (λ u. omega (arith, z, u))) ∙ ap suc (free-is (suc i) l (rows-rest s i (some a) l h))

  -- a row holds the ID where its accessor does
  holds-some : (id i : ℕ) (a : Acc) → row s (place_row_at i) place_width ≡ place_words (some a) → row_holds id (place_at s i) ≡ holds_id id a
  unfolding holds_id side_of
  holds-some id i a e =
      rw (side-is s i (some a) e, id-is s i a e) (ap (λ (t : Bool). t && eqb a.ident id) (two a.writer))
    where
      two : (t : Bool) → eqb (1 + bit t) 2 ≡ t
      two true = refl
      two false = refl

  holds-none : (id i : ℕ) → row s (place_row_at i) place_width ≡ place_words none → row_holds id (place_at s i) ≡ false
  unfolding side_of
  holds-none id i e = rw (side-is s i none e)

  held-is : (id i : ℕ) (l : List (Option Acc)) → Rows s i l → held_from s id i (length l) ≡ not (eqb (count_acc (holds_id id) l) 0)
  unfolding held_from count_acc
  held-is id i [] h = refl
  held-is id i (none ∷ l) h = pick-false _ _ _ (holds-none id i (rows-first s i none l h)) ∙ held-is id (suc i) l (rows-rest s i none l h)
  held-is id i (some a ∷ l) h =
      by_cases (holds_id id a)
      (λ t. pick_true _ _ _ (holds-some id i a (rows-first s i (some a) l h) ∙ t) ∙ sym (rw t (ap not (ne_eqb (1 + count_acc (holds_id id) l) 0 (λ u. omega (arith, u))))))
      (λ t. pick-false _ _ _ (holds-some id i a (rows-first s i (some a) l h) ∙ t) ∙ held-is id (suc i) l (rows-rest s i (some a) l h) ∙ rw t (ap (λ (n : ℕ). not (eqb n 0)) (none_more (count_acc (holds_id id) l))))
    where
      none_more : (n : ℕ) → n ≡ 0 + n
      none_more n = omega arith

-- the places of file f, which have the accessors l
module _ (s : List ℕ) (f : ℕ) (l : List (Option Acc)) (eight : length l ≡ places) (rows : Rows s (places * f) l) where
  pub free-place-is : free_place s f ≡ first_free l
  free-place-is = ap (free_from s (places * f)) (sym eight) ∙ free-is s (places * f) l rows

  id-held-is : (id : ℕ) → id_held s f id ≡ not (eqb (count_acc (holds_id id) l) 0)
  id-held-is id = ap (held_from s id (places * f)) (sym eight) ∙ held-is s id (places * f) l rows

  id-from : (k n : ℕ) → id_from s f k n ≡ free_id_from k n l
  unfolding id_from free_id_from
  id-from zero n = refl
  id-from (suc k) n =
      by_cases (eqb (count_acc (holds_id n) l) 0)
      (λ t. pick-false _ _ _ (id-held-is n ∙ ap not t) ∙ sym (pick_true _ _ _ t))
      (λ t. pick_true _ _ _ (id-held-is n ∙ ap not t) ∙ id-from k (n + 1) ∙ sym (pick-false _ _ _ t))

  pub next-id-is : next_id s f ≡ free_id l
  unfolding free_id
  next-id-is = id-from places 1

-- where not all places are taken the first free one is among them
pub free-low : (l : List (Option Acc)) → count_acc any_acc l < length l → first_free l < length l
unfolding count_acc any_acc first_free
free-low [] h = absurd (omega arith)
free-low (none ∷ l) h = omega arith
free-low (some a ∷ l) h = omega (arith, free-low l (omega arith))

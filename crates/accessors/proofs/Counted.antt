-- What the sides of a file's places count: its writers, its readers, the places that are not open.
use Prim.Native.Nat.{ℕ, suc, ◌+◌, ◌*◌, ◌<◌}
use mathlib.Core.Path.{◌≡◌, refl, sym, ap, ◌∙◌}
use mathlib.Core.Bool.{Bool, true, false, not, ◌&&◌}
use mathlib.Core.List.{List, [], ◌∷◌}
use mathlib.Core.Option.{Option, none, some}
use native.Mathlib.Omega.{arith}
use native.Mathlib.Decide.{ℕ_discrete}
use borrow.Author.Tests.{eq-eqb, ne_eqb}
use lib.Dec.{eqb}
use lib.ListN.{length, get_or}
use Rattle.occurrences.specs.Count.{bit}
use Rattle.rules.specs.Limits.{places}
use Rattle.rules.specs.State.{Acc, Built}
use Rattle.rules.specs.Requests.{acc_at, count_acc, is_writer, is_reader, any_acc, writers, readers, opened}
use Rattle.rules.specs.Allocation.{place_of}
use Rattle.segment.specs.Layout.{place_width, place_row_at}
use Rattle.segment.specs.Table.{row}
use Rattle.segment.specs.Fields.{place_at, place_row_of}
use Rattle.memory.specs.Image.{place_words}
use Rattle.accessors.specs.Sides.{sides_from, count_side, purges_at, side_of}

-- the rows of the places from place i on are those of l
abbrev pub Rows : List ℕ → ℕ → List (Option Acc) → Type 0
Rows s i l = (p : ℕ) → p < length l → row s (place_row_at (i + p)) place_width ≡ place_words (get_or l p none)

pub rows-rest : (s : List ℕ) (i : ℕ) (o : Option Acc) (l : List (Option Acc)) → Rows s i (o ∷ l) → Rows s (suc i) l
rows-rest s i o l h p k = let e : suc i + p ≡ i + suc p = omega arith in rw e (h (suc p) (omega arith))

pub rows-first : (s : List ℕ) (i : ℕ) (o : Option Acc) (l : List (Option Acc)) → Rows s i (o ∷ l) → row s (place_row_at i) place_width ≡ place_words o
rows-first s i o l h = let e : i + 0 ≡ i = omega arith in rw e at (h 0 (omega arith))

-- the side that the row of a place has
pub side-is : (s : List ℕ) (i : ℕ) (o : Option Acc) → row s (place_row_at i) place_width ≡ place_words o → (place_at s i).side ≡ side_of o
unfolding place_at place_row_of place_words side_of
side-is s i none e = ap (λ (r : List ℕ). get_or r 0 0) e
side-is s i (some a) e = ap (λ (r : List ℕ). get_or r 0 0) e

-- the share
pub share-is : (s : List ℕ) (i : ℕ) (a : Acc) → row s (place_row_at i) place_width ≡ place_words (some a) → (place_at s i).share ≡ a.sharing
unfolding place_at place_row_of place_words
share-is s i a e = ap (λ (r : List ℕ). get_or r 2 0) e

-- what the side of an accessor adds to each count
two : (t : Bool) → bit (eqb (1 + bit t) 2) ≡ bit t
two true = refl
two false = refl

one : (t : Bool) → bit (eqb (1 + bit t) 1) ≡ bit (not t)
one true = refl
one false = refl

nought : (t : Bool) → bit (eqb (1 + bit t) 0) ≡ 0
nought true = refl
nought false = refl

module _ (s : List ℕ) where
  pub writers-from : (i : ℕ) (l : List (Option Acc)) → Rows s i l → sides_from s 2 i (length l) ≡ count_acc is_writer l
  unfolding sides_from count_acc is_writer side_of
  writers-from i [] h = refl
  writers-from i (none ∷ l) h = rw (side-is s i none (rows-first s i none l h)) (omega (arith, writers-from (suc i) l (rows-rest s i none l h)))
  writers-from i (some a ∷ l) h =
      rw (side-is s i (some a) (rows-first s i (some a) l h), writers-from (suc i) l (rows-rest s i (some a) l h)) (ap (λ n. n + count_acc is_writer l) (two a.writer))

  pub readers-from : (i : ℕ) (l : List (Option Acc)) → Rows s i l → sides_from s 1 i (length l) ≡ count_acc is_reader l
  unfolding sides_from count_acc is_reader side_of
  readers-from i [] h = refl
  readers-from i (none ∷ l) h = rw (side-is s i none (rows-first s i none l h)) (omega (arith, readers-from (suc i) l (rows-rest s i none l h)))
  readers-from i (some a ∷ l) h =
      rw (side-is s i (some a) (rows-first s i (some a) l h), readers-from (suc i) l (rows-rest s i (some a) l h)) (ap (λ n. n + count_acc is_reader l) (one a.writer))

  pub closed-from : (i : ℕ) (l : List (Option Acc)) → Rows s i l → sides_from s 0 i (length l) + count_acc any_acc l ≡ length l
  unfolding sides_from count_acc any_acc side_of
  closed-from i [] h = refl
  closed-from i (none ∷ l) h =
      let r = closed-from (suc i) l (rows-rest s i none l h) in
      rw (side-is s i none (rows-first s i none l h)) (omega (arith, r))
  closed-from i (some a ∷ l) h =
      let r = closed-from (suc i) l (rows-rest s i (some a) l h) in
      rw (side-is s i (some a) (rows-first s i (some a) l h)) (omega (arith, r, nought a.writer))

-- all eight places are closed where none is open
none_open : (n m : ℕ) → n + m ≡ places → eqb n places ≡ eqb m 0
none_open n m e = go (ℕ_discrete m 0)
  where
    go : Dec (m ≡ 0) → eqb n places ≡ eqb m 0
    go (yes u) = eq-eqb n places (omega arith) ∙ sym (eq-eqb m 0 u)
    go (no u) = ne_eqb n places (λ v. u (omega arith)) ∙ sym (ne_eqb m 0 u)

-- counts of file f, whose eight places are those of b
module _ (s : List ℕ) (f : ℕ) (b : Built) (eight : length b.accs ≡ places)
    (rows : (p : ℕ) → p < places → row s (place_row_at (place_of f p)) place_width ≡ place_words (acc_at b p)) where
  pub file-rows : Rows s (places * f) b.accs
  unfolding place_of acc_at
  file-rows p h = rows p (rw eight at h)

  pub count-writers : count_side s f 2 ≡ writers b
  unfolding writers
  count-writers = ap (sides_from s 2 (places * f)) (sym eight) ∙ writers-from s (places * f) b.accs file-rows

  pub count-readers : count_side s f 1 ≡ readers b
  unfolding readers
  count-readers = ap (sides_from s 1 (places * f)) (sym eight) ∙ readers-from s (places * f) b.accs file-rows

  pub count-closed : count_side s f 0 + opened b ≡ places
  unfolding opened
  count-closed = ap (λ n. sides_from s 0 (places * f) n + count_acc any_acc b.accs) (sym eight) ∙ closed-from s (places * f) b.accs file-rows ∙ eight

  -- the test of the rules' `purged`
  pub purges-is : (access : ℕ) → purges_at s f access ≡ (eqb access 1 && eqb (opened b) 0)
  unfolding purges_at
  purges-is access = ap (λ (t : Bool). eqb access 1 && t) (none_open (count_side s f 0) (opened b) count-closed)

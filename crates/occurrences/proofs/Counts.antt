-- Laws of counting, in one list and in many.
use Prim.Native.Nat.{ℕ, zero, suc, ◌+◌, ◌≤◌, ◌<◌}
use mathlib.Core.Path.{◌≡◌, refl, ap}
use mathlib.Core.Bool.{Bool, true, false}
use mathlib.Core.List.{List, [], ◌∷◌, ◌++◌}
use native.Mathlib.Omega.{arith}
use borrow.Author.Tests.{eq-eqb, ne_eqb, ltb-true}
use lib.Dec.{ltb, eqb}
use lib.ListN.{length, get_or, set, drop}
use Rattle.occurrences.specs.Count.{bit, count, total}

-- bits

pub bit_le : (b : Bool) → bit b ≤ 1
bit_le true = omega arith
bit_le false = omega arith

pub bit-eq : (x y : ℕ) → x ≡ y → bit (eqb x y) ≡ 1
bit-eq x y e = ap bit (eq-eqb x y e)

pub bit-ne : (x y : ℕ) → (x ≡ y → ⊥) → bit (eqb x y) ≡ 0
bit-ne x y d = ap bit (ne_eqb x y d)

-- the test that counted held
pub bit-lt : (x n : ℕ) → 1 ≤ bit (ltb x n) → x < n
bit-lt x n h = go (ltb x n) refl h
  where
    go : (b : Bool) → ltb x n ≡ b → 1 ≤ bit b → x < n
    go true e h = ltb-true x n e
    go false e h = absurd (omega arith)

-- one list

pub count_head : (x : ℕ) (l : List ℕ) → 1 ≤ count x (x ∷ l)
unfolding count
count_head x l = omega (arith, bit-eq x x refl)

pub count-append : (x : ℕ) (l m : List ℕ) → count x (l ++ m) ≡ count x l + count x m
unfolding count
count-append x [] m = omega arith
count-append x (y ∷ l) m = omega (arith, count-append x l m)

pub count-snoc-same : (x : ℕ) (l : List ℕ) → count x (l ++ x ∷ []) ≡ count x l + 1
unfolding count
count-snoc-same x l = omega (arith, count-append x l (x ∷ []), bit-eq x x refl)

pub count-snoc-other : (x y : ℕ) (l : List ℕ) → (y ≡ x → ⊥) → count x (l ++ y ∷ []) ≡ count x l
unfolding count
count-snoc-other x y l d = omega (arith, count-append x l (y ∷ []), bit-ne y x d)

-- the front of a list and what comes after it
pub count-front : (x : ℕ) (l : List ℕ) (z : ℕ) → 1 ≤ length l → count x (drop 1 l) + count x (get_or l 0 z ∷ []) ≡ count x l
unfolding count
count-front x [] z h = absurd (omega arith)
count-front x (y ∷ l) z h = omega arith

-- an element of a list stands in it
pub count_at : (l : List ℕ) (i : ℕ) → i < length l → 1 ≤ count (get_or l i 0) l
unfolding count
count_at [] i h = absurd (omega arith)
count_at (x ∷ l) zero h = omega (arith, bit-eq x x refl)
count_at (x ∷ l) (suc i) h = omega (arith, count_at l i (omega arith))

-- what stands in a list is not what does not
pub count-apart : (x y : ℕ) (l : List ℕ) → 1 ≤ count x l → count y l ≡ 0 → x ≡ y → ⊥
count-apart x y l k a e = omega (arith, ap (λ (i : ℕ). count i l) e)

-- many lists: one of them becomes another; one, or two, are no more than all

pub total-set : (x : ℕ) (ls : List (List ℕ)) (l : ℕ) (ys : List ℕ) → l < length ls → total x (set ls l ys) + count x (get_or ls l []) ≡ total x ls + count x ys
unfolding total
total-set x [] l ys h = absurd (omega arith)
total-set x (z ∷ ls) zero ys h = omega arith
total-set x (z ∷ ls) (suc l) ys h = omega (arith, total-set x ls l ys (omega arith))

pub total-one : (x : ℕ) (ls : List (List ℕ)) (l : ℕ) → count x (get_or ls l []) ≤ total x ls
unfolding count total
total-one x [] l = omega arith
total-one x (z ∷ ls) zero = omega arith
total-one x (z ∷ ls) (suc l) = omega (arith, total-one x ls l)

pub total-two : (x : ℕ) (ls : List (List ℕ)) (i j : ℕ) → (i ≡ j → ⊥) → count x (get_or ls i []) + count x (get_or ls j []) ≤ total x ls
unfolding count total
total-two x [] i j d = omega arith
total-two x (z ∷ ls) zero zero d = absurd (d refl)
total-two x (z ∷ ls) zero (suc j) d = omega (arith, total-one x ls j)
total-two x (z ∷ ls) (suc i) zero d = omega (arith, total-one x ls i)
total-two x (z ∷ ls) (suc i) (suc j) d = omega (arith, total-two x ls i j (λ e. d (ap suc e)))

-- What the places of the desk hold, counted.
use mathlib.Core.Path.{◌≡◌, refl, ap}
use mathlib.Core.List.{List, [], ◌∷◌}
use Prim.Native.Nat.{ℕ, zero, suc, ◌+◌, ◌*◌, ◌≤◌, ◌<◌}
use native.Mathlib.Omega.{arith}
use lib.ListN.{length, get_or, set, replicate, length-append}
use Rattle.rules.specs.Allocation.{Held, nothing, own, timed, own_entry}
use Rattle.occurrences.specs.Count.{count}
use Rattle.laws.specs.Entries.{entries_of, taken, size}
use Rattle.laws.specs.Midst.{untimed}
use Rattle.occurrences.proofs.Counts.{count-append}

-- what a place holds, by its size
pub is-nothing : (h : Held) → size h ≡ 0 → h ≡ nothing
unfolding entries_of
is-nothing nothing e = refl
is-nothing (own x) e = absurd (omega arith)
is-nothing (timed x y) e = absurd (omega arith)

pub is-own : (h : Held) → size h ≡ 1 → h ≡ own (own_entry h)
unfolding entries_of own_entry
is-own nothing e = absurd (omega arith)
is-own (own x) e = refl
is-own (timed x y) e = absurd (omega arith)

pub size-untimed : (h : Held) → 1 ≤ size h → size (untimed h) ≡ 1
unfolding untimed entries_of
size-untimed nothing e = absurd (omega arith)
size-untimed (own x) e = refl
size-untimed (timed x y) e = refl

-- a place that holds something else
pub count-taken-set : (x : ℕ) (l : List Held) (i : ℕ) (h : Held) → i < length l
    → count x (taken (set l i h)) + count x (entries_of (get_or l i nothing)) ≡ count x (taken l) + count x (entries_of h)
unfolding taken
count-taken-set x [] i h k = absurd (omega arith)
count-taken-set x (g ∷ l) zero h k = omega (arith, count-append x (entries_of h) (taken l), count-append x (entries_of g) (taken l))
count-taken-set x (g ∷ l) (suc i) h k =
    let r = count-taken-set x l i h (omega arith) in
    omega (arith, count-append x (entries_of g) (taken (set l i h)), count-append x (entries_of g) (taken l))

-- a place holds two at most, and one that holds nothing leaves two
size-most : (h : Held) → size h ≤ 2
unfolding entries_of
size-most nothing = omega arith
size-most (own e) = omega arith
size-most (timed e t) = omega arith

length_taken : (l : List Held) → length (taken l) ≤ 2 * length l
unfolding taken
length_taken [] = omega arith
length_taken (h ∷ l) = omega (arith, length-append (entries_of h) (taken l), size-most h, length_taken l)

pub length-taken-room : (l : List Held) (i : ℕ) → i < length l → get_or l i nothing ≡ nothing → length (taken l) + 2 ≤ 2 * length l
unfolding taken entries_of
length-taken-room [] i k e = absurd (omega arith)
length-taken-room (h ∷ l) zero k e = omega (arith, length-append (entries_of h) (taken l), ap size e, length_taken l)
length-taken-room (h ∷ l) (suc i) k e = omega (arith, length-append (entries_of h) (taken l), size-most h, length-taken-room l i (omega arith) e)

-- nothing yet
pub taken-replicate : (n : ℕ) → taken (replicate n nothing) ≡ []
unfolding taken entries_of
taken-replicate zero = refl
taken-replicate (suc n) = taken-replicate n

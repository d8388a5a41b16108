-- The places of a file, counted by their side.
use Prim.Native.Nat.{ℕ, zero, suc, ◌+◌, ◌≤◌}
use mathlib.Core.Path.{◌≡◌}
use mathlib.Core.List.{List}
use native.Mathlib.Omega.{arith}
use native.Mathlib.Numerals.{add-one}
use lib.Dec.{eqb}
use Rattle.occurrences.specs.Count.{bit}
use Rattle.occurrences.proofs.Counts.{bit_le}
use Rattle.segment.specs.Fields.{place_at}
use Rattle.accessors.specs.Sides.{sides_from}

-- one place more
pub sides_more : (s : List ℕ) (side i n : ℕ) → sides_from s side i (n + 1) ≡ sides_from s side i n + bit (eqb (place_at s (i + n)).side side)
unfolding sides_from
sides_more s side i zero = let e : i + 0 ≡ i = omega arith in rw e (omega arith)
sides_more s side i (suc n) = let e : i + suc n ≡ suc i + n = omega arith in rw (add-one, e) (omega (arith, rw add-one at (sides_more s side (suc i) n)))

-- no more than there are places
pub sides-few : (s : List ℕ) (side i n : ℕ) → sides_from s side i n ≤ n
unfolding sides_from
sides-few s side i zero = omega arith
sides-few s side i (suc n) = omega (arith, sides-few s side (suc i) n, bit_le (eqb (place_at s i).side side))

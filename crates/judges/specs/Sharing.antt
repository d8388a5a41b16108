-- Whether an accessor with another share is open, as the rows of the places show it.
use Rattle.std.specs.Prelude.{ℕ, zero, suc, Bool, true, false, cond, not, List, eqb}
use Rattle.segment.specs.Fields.{place_at}

-- whether an accessor with another share is open at place i; `others_from`: at one of the n places starting at place i
unfoldable pub differs : List ℕ → ℕ → ℕ → Bool
differs s share i = cond (eqb (place_at s i).side 0) false (not (eqb (place_at s i).share share))

unfoldable pub others_from : List ℕ → ℕ → ℕ → ℕ → Bool
others_from s share i zero = false
others_from s share i (suc n) = cond (differs s share i) true (others_from s share (suc i) n)

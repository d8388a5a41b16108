-- Timers: "smallest first", each with something left.
use Rattle.std.specs.Prelude.{◌≡◌, List, [], ◌∷◌, ℕ, ◌*◌, ◌≤◌}
use Rattle.rules.specs.Limits.{files, places}
use Rattle.rules.specs.State.{Timer, Built}
use Rattle.laws.specs.Counts.{count_t}

-- the timers are in order, and the first has at least lo left
unfoldable pub Sorted : ℕ → List Timer → Type 0
Sorted lo [] = Unit {0}
Sorted lo (t ∷ ts) = (lo ≤ t.left) × Sorted t.left ts

-- the timers of a file are in order, each with something left
abbrev pub Ticking : Built → Type 0
Ticking b = Sorted 1 b.timers

-- the timers of the desk are in order, and their places are all below 64
pub record Clock (ts : List Timer) : Type 0 where
  pub sorted : Sorted 0 ts
  pub within : (i : ℕ) → files * places ≤ i → count_t i ts ≡ 0

-- How many timers a place has.
use Rattle.std.specs.Prelude.{List, map, ℕ}
use Rattle.rules.specs.State.{Timer}
use Rattle.occurrences.specs.Count.{count}

unfoldable pub places_of : List Timer → List ℕ
places_of ts = map (λ t. t.place) ts

unfoldable pub count_t : ℕ → List Timer → ℕ
count_t x ts = count x (places_of ts)

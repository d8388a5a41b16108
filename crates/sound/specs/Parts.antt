-- How longer tests begin, for code that tests only that much.
use Rattle.std.specs.Prelude.{ℕ, ◌*◌, ◌/◌, Bool, ◌&&◌, List, ltb, eqb, get_or}
use Rattle.rules.specs.Limits.{files, places}
use Rattle.sound.specs.Rows.{side_at}
use Rattle.sound.specs.Walks.{place_in}

-- whether entry e belongs to an accessor of file f, on the given side, that has nothing outstanding yet
unfoldable pub owned : List ℕ → List ℕ → ℕ → ℕ → ℕ → Bool
owned s busy side f e =
    ltb (place_in s e) (files * places)
    && eqb (place_in s e / places) f
    && eqb (get_or busy (place_in s e) 0) 0
    && eqb (side_at s (place_in s e)) side

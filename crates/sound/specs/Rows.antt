-- The rows of the segment: whether they are sound rows of a file, built or not, and of its eight places.
use Rattle.std.specs.Prelude.{ℕ, zero, suc, ◌+◌, ◌*◌, Bool, true, false, ◌&&◌, ◌||◌, List, leb, eqb}
use Rattle.rules.specs.Limits.{places, room_words, most_factor, least_capacity, share_words}
use Rattle.rules.specs.Geometry.{capacity, block_size, within}
use Rattle.rules.specs.State.{Geo}
use Rattle.segment.specs.Layout.{file_width, place_fields, place_spare, place_width, file_row_at, place_row_at}
use Rattle.segment.specs.Table.{nth}

-- word j of file f's row; `place_word`: of place i's row
unfoldable pub file_word : List ℕ → ℕ → ℕ → ℕ
file_word s f j = nth s (file_row_at f + j)

unfoldable pub place_word : List ℕ → ℕ → ℕ → ℕ
place_word s i j = nth s (place_row_at i + j)

-- whether n words starting at word k are zero
unfoldable pub zero_words : List ℕ → ℕ → ℕ → Bool
zero_words s k zero = true
zero_words s k (suc n) = elim (eqb (nth s k) 0) [ true ↦ zero_words s (suc k) n | false ↦ false ]

-- whether file f is built: R is at least 1, so a file is built exactly when its R is not 0
unfoldable pub built_at : List ℕ → ℕ → Bool
built_at s f = leb 1 (file_word s f 0)

unfoldable pub geo_at : List ℕ → ℕ → Geo
geo_at s f = record { words = file_word s f 0; factor = file_word s f 1; blocks = file_word s f 2 }

unfoldable pub good_geo : Geo → Bool
good_geo g = within 1 room_words g.words && within 1 most_factor g.factor && leb least_capacity (capacity g.factor g.blocks) && leb (g.blocks * block_size g.words g.factor) share_words

-- the side of place i: 0 not open, 1 a reader, 2 a writer
unfoldable pub side_at : List ℕ → ℕ → ℕ
side_at s i = place_word s i 0

-- whether the row of an open place is good: a reader's ID is 0 and a writer's at least 1; the settings are 0 or 1
unfoldable pub good_place : List ℕ → ℕ → Bool
good_place s i =
    (eqb (side_at s i) 1 && eqb (place_word s i 1) 0 || eqb (side_at s i) 2 && leb 1 (place_word s i 1))
    && leb (place_word s i 4) 1
    && leb (place_word s i 5) 1
    && leb (place_word s i 6) 1
    && leb (place_word s i 7) 1

-- whether the row of a place of a built file is sound: zero if the place is not open, else good, with zero spare words
unfoldable pub place_ok : List ℕ → ℕ → Bool
place_ok s i = elim (eqb (side_at s i) 0) [ true ↦ zero_words s (place_row_at i) place_width | false ↦ good_place s i && zero_words s (place_row_at i + place_fields) place_spare ]

-- whether the rows of the n places starting at place i are sound
unfoldable pub places_ok : List ℕ → ℕ → ℕ → Bool
places_ok s i zero = true
places_ok s i (suc n) = elim (place_ok s i) [ true ↦ places_ok s (suc i) n | false ↦ false ]

-- whether all of a file that is not built is zero: its row and the rows of its places, which lie one after the other
unfoldable pub unbuilt_ok : List ℕ → ℕ → Bool
unbuilt_ok s f = zero_words s (file_row_at f) file_width && zero_words s (place_row_at (places * f)) (places * place_width)

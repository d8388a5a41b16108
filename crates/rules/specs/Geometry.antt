-- Geometry (document 000, "Creating Message Files" and FGETINFO).
use Rattle.std.specs.Prelude.{Bool, ◌&&◌, ℕ, ◌+◌, ◌-◌, ◌*◌, ◌/◌, leb}
use Rattle.rules.specs.Limits.{most_words, most_factor, most_records, most_extents, most_share}

-- n divided by m, rounded up
unfoldable pub divided_up : ℕ → ℕ → ℕ
divided_up n m = (n + (m - 1)) / m

-- "Take N+2; round up to whole blocks; add one label block; round up to a multiple of X. Data blocks D = that less one"
unfoldable pub data_blocks : ℕ → ℕ → ℕ → ℕ
data_blocks n b x = divided_up (divided_up (n + 2) b + 1) x * x - 1

-- "capacity C = B × D"
unfoldable pub capacity : ℕ → ℕ → ℕ
capacity b d = b * d

-- "Block size = (R+3)×B+2 words."
unfoldable pub block_size : ℕ → ℕ → ℕ
block_size r b = (r + 3) * b + 2

unfoldable pub within : ℕ → ℕ → ℕ → Bool
within lo hi n = leb lo n && leb n hi

-- "Record size R words 1..128, blocking factor B 1..16, records N 1..2,000, extents X 1..32."
unfoldable pub in_range : ℕ → ℕ → ℕ → ℕ → Bool
in_range r b n x = within 1 most_words r && within 1 most_factor b && within 1 most_records n && within 1 most_extents x

-- the opposite of "D × block size above 2,048 words"
unfoldable pub fits_share : ℕ → ℕ → ℕ → Bool
fits_share r b d = leb (d * block_size r b) most_share

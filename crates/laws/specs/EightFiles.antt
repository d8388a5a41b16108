-- "Eight files, 0 to 7": that a desk has eight, and the desk made of eight.
use Rattle.std.specs.Prelude.{ℕ, ◌≡◌, map, length}
use Rattle.rules.specs.Limits.{files}
use Rattle.rules.specs.State.{File}
use Rattle.rules.specs.Desk.{Desk}
use Rattle.rules.specs.Allocation.{up_from}

unfoldable pub EightFiles : Desk → Type 0
EightFiles d = length d.files ≡ files

-- the desk of the files x 0 to x 7
unfoldable pub desk_of : (ℕ → File) → Desk
desk_of x = record { files = map x (up_from 0 files) }

-- A walk over the records that a ring holds.
use Rattle.std.specs.Prelude.{ℕ, ◌+◌, ◌≤◌, ◌<◌, ◌≡◌, List}
use Rattle.rules.specs.State.{Rec}
use Rattle.shares.specs.Back.{read_back}
use Rattle.shares.specs.Places.{skip, place_in}
use Rattle.ring.specs.declared.Ring.{Ring}
use Rattle.ring.specs.Ring.{geo}
use Rattle.ring.specs.Held.{Held}
use Rattle.records.specs.declared.cursor.Cursor.{Cursor}

-- the place of the oldest record
abbrev pub head_place : ℕ → Ring → List ℕ → ℕ
head_place words r xs = place_in (geo words r) xs r.block r.spent

-- the records held, oldest first
abbrev pub held_recs : ℕ → Ring → List ℕ → List Rec
held_recs words r xs = read_back (geo words r) xs r.block r.spent r.held

-- the head of the record n records after p ends by e, if n is not 0
abbrev pub Behind : List ℕ → ℕ → ℕ → ℕ → Type 0
Behind xs e p n = 0 < n → skip xs e p n + 6 ≤ e

-- the cursor is at the oldest record of its ring, and the share holds the ring's records
pub record AtRecord (words : ℕ) (xs : List ℕ) (c : Cursor) : Type 0 where
  pub held : Held words c.ring xs
  pub at : c.at ≡ head_place words c.ring xs

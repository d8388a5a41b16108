-- A file's room: its share holds its records, and one place is kept for the close record of each open writer.
use Rattle.std.specs.Prelude.{ℕ, suc, ◌+◌, ◌≤◌}
use Rattle.rules.specs.Geometry.{capacity}
use Rattle.rules.specs.State.{Geo, Store, Built}
use Rattle.rules.specs.Store.{used}
use Rattle.rules.specs.Requests.{writers}
use Rattle.shares.specs.Holds.{InShare}
use Rattle.laws.specs.Changes.{GoodGeo}

-- a store with w close records to come
pub record Kept (g : Geo) (s : Store) (w : ℕ) : Type 0 where
  pub geo : GoodGeo g
  pub holds : InShare g s
  pub places : used s + w ≤ capacity g.factor g.blocks
  -- an empty store has room for a data record beside them
  pub one_more : w + 1 ≤ capacity g.factor g.blocks

abbrev pub Roomy : Built → Type 0
Roomy b = Kept b.geo b.store (writers b)

-- room in a file while the close record of one more writer is owed
abbrev pub Owing : ℕ → Built → Type 0
Owing n b = Kept b.geo b.store (suc (writers b))

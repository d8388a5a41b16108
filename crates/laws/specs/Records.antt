-- Every record of a held block, spent ones too, is one that a sheet takes: its type is 0 to 2, its ID is 1 or more, and open and close records have
-- no data.
use Rattle.rules.specs.State.{Built}
use Rattle.shares.specs.Groups.{All}
use Rattle.shares.specs.Laid.{GoodRec}
use Rattle.shares.specs.Back.{used_recs}

abbrev pub Records : Built → Type 0
Records b = All GoodRec (used_recs b.geo b.store)

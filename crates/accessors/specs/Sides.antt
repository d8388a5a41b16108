-- The places of a file, counted by their side.
use Rattle.std.specs.Prelude.{ℕ, zero, suc, ◌+◌, ◌*◌, Bool, ◌&&◌, List, eqb}
use Rattle.std.proofs.Math.Option.{Option, none, some}
use Rattle.occurrences.specs.Count.{bit}
use Rattle.rules.specs.Limits.{places}
use Rattle.rules.specs.State.{Acc}
use Rattle.segment.specs.Fields.{place_at}

-- how many of the n places starting at place i have the given side
unfoldable pub sides_from : List ℕ → ℕ → ℕ → ℕ → ℕ
sides_from s side i zero = 0
sides_from s side i (suc n) = bit (eqb (place_at s i).side side) + sides_from s side (suc i) n

-- how many of the eight places of file f have the given side
abbrev pub count_side : List ℕ → ℕ → ℕ → ℕ
count_side s f side = sides_from s side (places * f) places

-- whether an open with the given access purges file f: access 1 "purges if no accessor is open"
unfoldable pub purges_at : List ℕ → ℕ → ℕ → Bool
purges_at s f access = eqb access 1 && eqb (count_side s f 0) places

-- the side of an accessor: 0 none, 1 a reader, 2 a writer
unfoldable pub side_of : Option Acc → ℕ
side_of none = 0
side_of (some a) = 1 + bit a.writer

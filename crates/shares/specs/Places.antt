-- The place of a record in the share.
use Rattle.std.specs.Prelude.{ℕ, zero, suc, ◌+◌, ◌*◌, ◌/◌, ◌%◌, true, false, List, leb}
use Rattle.rules.specs.State.{Geo, Store}
use Rattle.rules.specs.Store.{block_bytes}
use Rattle.shares.specs.Back.{next}

-- the place n records after p, in a block that ends at e; e if the bytes there are not records
unfoldable pub skip : List ℕ → ℕ → ℕ → ℕ → ℕ
skip xs e p zero = p
skip xs e p (suc n) = elim (leb (p + 6) e) [ true ↦ skip xs e (next xs p) n | false ↦ e ]

-- the place of the record of block k that has i before it
unfoldable pub place_in : Geo → List ℕ → ℕ → ℕ → ℕ
place_in g xs k i = skip xs (k * block_bytes g + block_bytes g) (k * block_bytes g + 4) i

-- the place of the record that has u before it, in a ring whose oldest block is k
unfoldable pub place_of : Geo → List ℕ → ℕ → ℕ → ℕ
place_of g xs k u = place_in g xs ((k + u / g.factor) % g.blocks) (u % g.factor)

-- the place of the oldest record held
unfoldable pub head_at : Geo → Store → ℕ
head_at g s = place_in g s.share s.block s.spent

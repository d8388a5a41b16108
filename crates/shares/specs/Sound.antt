-- Whether a share holds a file's records: a test of the bytes and of the three numbers that go with them.
use Rattle.std.specs.Prelude.{ℕ, zero, suc, ◌+◌, ◌-◌, ◌*◌, ◌%◌, min, Bool, true, false, ◌&&◌, ◌||◌, List, ltb, eqb}
use Rattle.words.specs.Word.{word_at}
use Rattle.rules.specs.State.{Geo, Store}
use Rattle.rules.specs.Store.{block_bytes}
use Rattle.shares.specs.Back.{read_back}
use Rattle.shares.specs.Laid.{laid}

-- whether `left` records lie in at most n blocks of the ring, starting at block k, each block full except the last
unfoldable pub sweep : Geo → List ℕ → ℕ → ℕ → ℕ → Bool
sweep g xs k zero left = eqb left 0
sweep g xs k (suc n) left =
    elim (eqb left 0) [
      | true ↦ true
      | false ↦ laid g xs (k % g.blocks * block_bytes g)
          && eqb (word_at xs (k % g.blocks * block_bytes g)) (min left g.factor)
          && sweep g xs (suc k) n (left - g.factor)
    ]

-- whether the share is sound, given the oldest block, how many of its records are spent, and how many records are held
unfoldable pub sound : Geo → List ℕ → ℕ → ℕ → ℕ → Bool
sound g xs block spent held =
    ltb block g.blocks && (eqb spent 0 || (ltb spent g.factor && ltb 0 held)) && sweep g xs block g.blocks (spent + held)

-- the store that a sound share stands for
unfoldable pub store_at : Geo → List ℕ → ℕ → ℕ → ℕ → Store
store_at g xs block spent held = record { block = block; spent = spent; recs = read_back g xs block spent held; share = xs }

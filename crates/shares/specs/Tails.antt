-- Whether a share is zero after its records: "Build and load zero the share, and a block is zeroed again when its first record is put", and a record is put "right behind the one
-- before". So the bytes of a block after the last record that was put there are zero, and so are the bytes of the share after its last block. No call reads them.
use Rattle.std.specs.Prelude.{ℕ, zero, suc, ◌+◌, ◌-◌, ◌*◌, Bool, true, ◌&&◌, List}
use Rattle.words.specs.Word.{word_at, quiet}
use Rattle.rules.specs.Limits.{share_bytes}
use Rattle.rules.specs.State.{Geo}
use Rattle.rules.specs.Store.{block_bytes}

-- whether the block that begins at `at` is zero from the end of its last record to its own end: "word 0 records put, word 1 words used with these two"
unfoldable pub tail_zero : Geo → List ℕ → ℕ → Bool
tail_zero g xs at = quiet xs (at + 2 * word_at xs (at + 2)) (block_bytes g - 2 * word_at xs (at + 2))

-- whether n blocks, starting at block k, are so; a block that no record was put into is zero from its first byte on
unfoldable pub blocks_zero : Geo → List ℕ → ℕ → ℕ → Bool
blocks_zero g xs k zero = true
blocks_zero g xs k (suc n) = tail_zero g xs (k * block_bytes g) && blocks_zero g xs (suc k) n

-- whether all blocks are so, held or not, and the bytes after the last block are zero
unfoldable pub tails_zero : Geo → List ℕ → Bool
tails_zero g xs = blocks_zero g xs 0 g.blocks && quiet xs (g.blocks * block_bytes g) (share_bytes - g.blocks * block_bytes g)

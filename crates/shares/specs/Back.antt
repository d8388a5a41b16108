-- The records held, read back from the bytes of a share alone.
use Rattle.std.specs.Prelude.{ℕ, zero, suc, ◌+◌, ◌-◌, ◌*◌, ◌%◌, List, [], ◌∷◌, ◌++◌, take, drop}
use Rattle.words.specs.Word.{word_at}
use Rattle.rules.specs.State.{Rec, Geo, Store}
use Rattle.rules.specs.Store.{used, block_bytes}

-- the record at p: "a word with the bytes that follow (4 + data), a type word (0 data, 1 open, 2 close), the writer's ID, and data"
unfoldable pub rec_at : List ℕ → ℕ → Rec
rec_at xs p = record { typ = word_at xs (p + 2); wid = word_at xs (p + 4); body = take (word_at xs p - 4) (drop (p + 6) xs) }

-- the place right after the record at p: "padded with one zero byte if odd"
unfoldable pub next : List ℕ → ℕ → ℕ
next xs p = p + 2 + word_at xs p + word_at xs p % 2

-- n records starting at p, each "right behind the one before"
unfoldable pub recs_at : List ℕ → ℕ → ℕ → List Rec
recs_at xs p zero = []
recs_at xs p (suc n) = rec_at xs p ∷ recs_at xs (next xs p) n

-- the records of the block that begins at `at`: "word 0 records put, word 1 words used with these two", then the records
unfoldable pub block_recs : List ℕ → ℕ → List Rec
block_recs xs at = recs_at xs (at + 4) (word_at xs at)

-- the records of n blocks of the ring, starting at block k
unfoldable pub ring_recs : Geo → List ℕ → ℕ → ℕ → List Rec
ring_recs g xs k zero = []
ring_recs g xs k (suc n) = block_recs xs (k % g.blocks * block_bytes g) ++ ring_recs g xs (suc k) n

-- "Used = records put since the start of the oldest block still holding one": those records
unfoldable pub used_recs : Geo → Store → List Rec
used_recs g s = take (used s) (ring_recs g s.share s.block g.blocks)

-- the used records of the block j blocks after the oldest: "A block takes at most B records."
unfoldable pub group_at : Geo → Store → ℕ → List Rec
group_at g s j = take g.factor (drop (j * g.factor) (used_recs g s))

-- the records held: once round the ring, starting at the oldest block, without the spent ones, as many as are held
unfoldable pub read_back : Geo → List ℕ → ℕ → ℕ → ℕ → List Rec
read_back g xs block spent held = take held (drop spent (ring_recs g xs block g.blocks))

-- The ring of blocks: records put, gone and purged, and the bytes of the file's share.
use Rattle.std.specs.Prelude.{Bool, true, false, cond, ◌||◌, List, [], ◌∷◌, ◌++◌, ℕ, zero, suc, ◌+◌, ◌-◌, ◌*◌, ◌/◌, ◌%◌, eqb, length, drop}
use Rattle.std.proofs.Math.Option.{Option, none, some}
use Rattle.std.proofs.lemmas.List.Edits.{sets}
use Rattle.words.specs.Word.{word, word_at, zeros}
use Rattle.rules.specs.Limits.{share_bytes}
use Rattle.rules.specs.Geometry.{divided_up, block_size}
use Rattle.rules.specs.State.{Rec, Geo, Store}

-- "Used = records put since the start of the oldest block still holding one."
unfoldable pub used : Store → ℕ
used s = s.spent + length s.recs

-- "Build and load zero the share"
unfoldable pub empty_store : Store
empty_store = record { block = 0; spent = 0; recs = []; share = zeros share_bytes }

-- the bytes of a record and of a block

-- "padded with one zero byte if odd"
unfoldable pub pad : ℕ → List ℕ
pad n = cond (eqb (n % 2) 0) [] (0 ∷ [])

-- "a word with the bytes that follow (4 + data), a type word (0 data, 1 open, 2 close), the writer's ID, and data"
unfoldable pub record_bytes : Rec → List ℕ
record_bytes r = word (4 + length r.body) ++ (word r.typ ++ (word r.wid ++ (r.body ++ pad (length r.body))))

unfoldable pub record_words : Rec → ℕ
record_words r = 3 + (length r.body + 1) / 2

unfoldable pub block_bytes : Geo → ℕ
block_bytes g = 2 * block_size g.words g.factor

-- a block of n bytes that is zeroed: "word 0 records put, word 1 words used with these two"
unfoldable pub zeroed : ℕ → List ℕ
zeroed n = word 0 ++ (word 2 ++ zeros (n - 4))

-- adds one record to the block at `at`, "right behind the one before"
unfoldable pub added : List ℕ → ℕ → Rec → List ℕ
added xs at r =
    let put : ℕ = word_at xs at in
    let end : ℕ = word_at xs (at + 2) in
    sets (sets (sets xs (at + 2 * end) (record_bytes r)) at (word (put + 1))) (at + 2) (word (end + record_words r))

-- the start of the block that takes the next record
unfoldable pub tail : Geo → Store → ℕ
tail g s = (s.block + used s / g.factor) % g.blocks * block_bytes g

-- "a block is zeroed again when its first record is put"; "A block takes at most B records."
unfoldable pub readied : Geo → Store → List ℕ
readied g s = elim (eqb (used s % g.factor) 0) [ true ↦ sets s.share (tail g s) (zeroed (block_bytes g)) | false ↦ s.share ]

unfoldable pub inscribed : Geo → Rec → Store → List ℕ
inscribed g r s = added (readied g s) (tail g s) r

unfoldable pub put : Geo → Rec → Store → Store
put g r s = record { block = s.block; spent = s.spent; recs = s.recs ++ (r ∷ []); share = inscribed g r s }

-- "Load packs the records from the share's first block"
unfoldable pub put_all : Geo → List Rec → Store → Store
put_all g [] s = s
put_all g (r ∷ rest) s = put_all g rest (put g r s)

-- removes the oldest record: "A file that becomes empty has used = 0 and goes on at the next block", and so does one whose oldest block is spent
unfoldable pub advance : Geo → Store → Store
advance g s =
    elim (eqb (length s.recs) 1 || eqb (s.spent + 1) g.factor) [
      | true ↦ record { block = (s.block + 1) % g.blocks; spent = 0; recs = drop 1 s.recs; share = s.share }
      | false ↦ record { block = s.block; spent = s.spent + 1; recs = drop 1 s.recs; share = s.share }
    ]

unfoldable pub advance_by : ℕ → Geo → Store → Store
advance_by zero g s = s
advance_by (suc n) g s = advance_by n g (advance g s)

-- the open and close records at the head
unfoldable pub dropped : List Rec → List Rec
dropped [] = []
dropped (r ∷ rest) = elim (eqb r.typ 0) [ true ↦ [] | false ↦ r ∷ dropped rest ]

-- discards the open and close records at the head
unfoldable pub discard : Geo → Store → Store
discard g s = advance_by (length (dropped s.recs)) g s

-- purges all records; the file "goes on at the next block" after the last record's
unfoldable pub purge : Geo → Store → Store
purge g s = record { block = (s.block + divided_up (used s) g.factor) % g.blocks; spent = 0; recs = []; share = s.share }

-- what a read finds: the store after it, the record, if there is one, the records that it discarded, in their order, and the one that it took
pub record Found : Type 0 where
  pub store : Store
  pub got : Option Rec
  pub went : List Rec
  pub took : Option Rec

unfoldable pub head_of : List Rec → Option Rec
head_of [] = none
head_of (r ∷ l) = some r

-- takes the head record, after those that went; under control 47 it stays, and nothing is taken
unfoldable pub take_head : Geo → Bool → List Rec → Store → Found
take_head g keep went s =
    elim (head_of s.recs) [
      | none ↦ record { store = s; got = none; went = went; took = none }
      | some r ↦ elim keep [
        | true ↦ record { store = s; got = some r; went = went; took = none }
        | false ↦ record { store = advance g s; got = some r; went = went; took = some r }
      ]
    ]

-- "An ordinary read discards open and close records at the head", "then takes the first data record. With control 46 it takes the head record of
-- any type"
unfoldable pub fetch : Geo → Bool → Bool → Store → Found
fetch g typed keep s = elim typed [ true ↦ take_head g keep [] s | false ↦ take_head g keep (dropped s.recs) (discard g s) ]

-- A record put into the block that takes the next one.
use Rattle.std.specs.Prelude.{ℕ, ◌+◌, ◌*◌, ◌%◌, ◌≤◌, ◌<◌, true, false, List, eqb}
use Rattle.std.proofs.lemmas.List.Edits.{sets}
use Rattle.words.specs.Word.{word_at}
use Rattle.rules.specs.State.{Rec}
use Rattle.rules.specs.Store.{block_bytes, zeroed}
use Rattle.shares.specs.Inscribed.{inscribed_at}
use Rattle.ring.specs.declared.Ring.{Ring}
use Rattle.blocks.specs.declared.writing.NewRecord.{NewRecord}
use Rattle.ring.specs.Ring.{geo, Fitted, Ranged, tail}

abbrev pub rec_of : ℕ → ℕ → List ℕ → Rec
rec_of typ wid body = record { typ = typ; wid = wid; body = body }

-- a record that is to be put
abbrev pub record_of : NewRecord → Rec
record_of r = rec_of r.typ r.wid r.data.now

-- the number of bytes of a record with n bytes of data, its padding included
abbrev pub record_size : ℕ → ℕ
record_size n = 6 + n + n % 2

-- the share with the block of n bytes at `at` begun: "a block is zeroed again when its first record is put"
unfoldable pub begun : ℕ → List ℕ → ℕ → ℕ → List ℕ
begun n xs at i = elim (eqb i 0) [ true ↦ sets xs at (zeroed n) | false ↦ xs ]

-- a record with m bytes of data fits after the records that the block has
pub record Roomy (n : ℕ) (xs : List ℕ) (at m : ℕ) : Type 0 where
  pub count : word_at xs at < 65535
  pub space : 2 * word_at xs (at + 2) + record_size m ≤ n

-- the start of the block that takes the next record
abbrev pub tail_at : ℕ → Ring → ℕ
tail_at words r = (tail r).block * block_bytes (geo words r)

-- what a put of a record with m bytes of data asks: numbers in their ranges, and room in the block that takes it
pub record Ready (words : ℕ) (r : Ring) (xs : List ℕ) (m : ℕ) : Type 0 where
  pub ranged : Ranged r
  pub fitted : Fitted words r
  pub roomy : Roomy (block_bytes (geo words r)) (begun (block_bytes (geo words r)) xs (tail_at words r) (tail r).index) (tail_at words r) m

unfoldable pub inscribed : ℕ → Ring → Rec → List ℕ → List ℕ
inscribed words r q xs = inscribed_at (block_bytes (geo words r)) xs (tail_at words r) (tail r).index q

-- The ring of a file's blocks as numbers: the oldest record's place, the next one's, and the ring after a put, after a record is gone, after a purge.
use Rattle.std.specs.Prelude.{ℕ, ◌+◌, ◌-◌, ◌*◌, ◌/◌, ◌%◌, ◌≤◌, ◌<◌, true, false, ltb, leb, eqb, length}
use Rattle.rules.specs.Limits.{room_words, most_factor, share_words}
use Rattle.rules.specs.State.{Geo, Store}
use Rattle.rules.specs.Store.{block_bytes}
use Rattle.shares.specs.Holds.{Sized}
use Rattle.ring.specs.declared.layout.Span.{Span}
use Rattle.ring.specs.declared.Ring.{Ring}
use Rattle.ring.specs.declared.Place.{Place}

-- the geometry that goes with a ring, R words to a record
abbrev pub geo : ℕ → Ring → Geo
geo words r = record { words = words; factor = r.factor; blocks = r.blocks }

-- a ring and a record size that were built or loaded
pub record Fitted (w : ℕ) (r : Ring) : Type 0 where
  pub words : w ≤ room_words
  pub factor : r.factor ≤ most_factor
  pub sized : Sized (geo w r)

-- block k's bytes in the share
abbrev pub span_of : Geo → ℕ → Span
span_of g k = record { at = k * block_bytes g; size = block_bytes g }

-- the ring of a store
abbrev pub ring_of : Geo → Store → Ring
ring_of g s = record { factor = g.factor; blocks = g.blocks; block = s.block; spent = s.spent; held = length s.recs }

-- the numbers of a file that was built: no sum with them leaves 16 bits
pub record Ranged (r : Ring) : Type 0 where
  pub factor : 0 < r.factor
  pub block : r.block < r.blocks
  pub blocks : r.blocks ≤ share_words
  pub room : r.factor * r.blocks ≤ share_words
  pub spent : r.spent < r.factor
  pub used : r.spent + r.held ≤ r.factor * r.blocks

-- "Used = records put since the start of the oldest block still holding one."
abbrev pub used : Ring → ℕ
used r = r.spent + r.held

-- k modulo the number d of blocks, for k < 2·d
unfoldable pub wrapped : ℕ → ℕ → ℕ
wrapped d k = elim (ltb k d) [ true ↦ k | false ↦ k - d ]

-- the place of the record that has u before it since the start of the oldest block
unfoldable pub place : Ring → ℕ → Place
place r u = record { block = wrapped r.blocks (r.block + u / r.factor); index = u % r.factor }

-- the place of the next record to be put
unfoldable pub tail : Ring → Place
tail r = place r (used r)

abbrev pub at : Ring → ℕ → ℕ → ℕ → Ring
at r block spent held = record { factor = r.factor; blocks = r.blocks; block = block; spent = spent; held = held }

abbrev pub put : Ring → Ring
put r = at r r.block r.spent (r.held + 1)

-- the ring without its oldest record: "A file that becomes empty has used = 0 and goes on at the next block", and so does one whose oldest block is spent
unfoldable pub advanced : Ring → Ring
advanced r =
    elim (leb r.held 1) [
      | true ↦ at r (wrapped r.blocks (r.block + 1)) 0 0
      | false ↦ elim (eqb (r.spent + 1) r.factor) [
        | true ↦ at r (wrapped r.blocks (r.block + 1)) 0 (r.held - 1)
        | false ↦ at r r.block (r.spent + 1) (r.held - 1)
      ]
    ]

-- the ring with all records gone; a tail block that is not begun lies after the last record's block already
unfoldable pub purged : Ring → Ring
purged r =
    elim (eqb (tail r).index 0) [
      | true ↦ at r (tail r).block 0 0
      | false ↦ at r (wrapped r.blocks ((tail r).block + 1)) 0 0
    ]

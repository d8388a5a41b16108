-- What an accepted read or write makes of its accessor's row, and what decides whether it waits, read from the segment.
use Rattle.std.specs.Prelude.{ℕ, Bool, false, cond, ◌||◌, List, ltb, eqb}
use Rattle.occurrences.specs.Count.{bit}
use Rattle.rules.specs.Limits.{entries}
use Rattle.segment.specs.declared.PlaceRow.{PlaceRow}
use Rattle.segment.specs.Layout.{write_queue, place_row_at}
use Rattle.segment.specs.Table.{nth, fill}
use Rattle.segment.specs.Fields.{entry_words, waiting_read, waiting_write, place_words, place_at}
use Rattle.ring.specs.declared.Ring.{Ring}
use Rattle.accessors.specs.Sides.{count_side}
use Rattle.store.specs.Door.{fits_ring}

-- the row after an accepted read or write: the next one is not the first; a read spends control 47
unfoldable pub begun_row : PlaceRow → PlaceRow
begun_row r =
    record {
      side = r.side;
      id = r.id;
      share = r.share;
      timeout = r.timeout;
      extended = r.extended;
      typed = r.typed;
      keep = cond (eqb r.side 2) r.keep 0;
      first = 0;
    }

unfoldable pub begun_segment : List ℕ → ℕ → List ℕ
begun_segment xs i = fill xs (place_row_at i) (place_words (begun_row (place_at xs i)))

-- "waits if the other side has an accessor, or extended wait (45) is on, or it is this accessor's first read or write"
unfoldable pub may_wait_row : Bool → PlaceRow → Bool
may_wait_row others r = others || eqb r.extended 1 || eqb r.first 1

-- whether a write fits and has no writers waiting ahead
unfoldable pub admits : List ℕ → ℕ → Ring → Bool
admits xs f r = cond (ltb (nth xs (write_queue f)) entries) false (fits_ring r (count_side xs f 2))

-- the data of a waiting read's entry: at most `limit` bytes, under control 47 or not; `write_entry`: of a waiting write of `size` bytes
unfoldable pub read_entry : ℕ → Bool → ℕ → ℕ → List ℕ
read_entry place by_words limit keep = entry_words (waiting_read place (bit by_words) limit keep)

-- The data of a waiting write's entry.
unfoldable pub write_entry : ℕ → Bool → ℕ → List ℕ
write_entry place by_words size = entry_words (waiting_write place (bit by_words) size)

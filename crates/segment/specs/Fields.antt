-- What the words of an entry and of a row are, in their order.
use Rattle.std.specs.Prelude.{ℕ, List, [], ◌∷◌, ◌++◌, get_or, replicate}
use Rattle.segment.specs.declared.Entry.{Entry}
use Rattle.segment.specs.declared.FileRow.{FileRow}
use Rattle.segment.specs.declared.PlaceRow.{PlaceRow}
use Rattle.segment.specs.Layout.{file_width, place_spare, place_width, file_row_at, place_row_at}
use Rattle.segment.specs.Table.{row, data_of}

-- the words of an entry's data, with one spare word
unfoldable pub entry_words : Entry → List ℕ
entry_words m = m.place ∷ m.unit ∷ m.limit ∷ m.keep ∷ m.status ∷ m.log ∷ m.size ∷ m.seconds ∷ 0 ∷ []

-- The four forms of an entry. Each sets the words that it names, and the others are 0.

-- A waiting read: the unit of its count, the most bytes that it takes, and whether it leaves the record (control 47).
abbrev pub waiting_read : ℕ → ℕ → ℕ → ℕ → Entry
waiting_read place unit limit keep =
    record { place = place; unit = unit; limit = limit; keep = keep; status = 0; log = 0; size = 0; seconds = 0 }

-- A waiting write: the unit of its count, and the size of its data, which lie in the record buffer.
abbrev pub waiting_write : ℕ → ℕ → ℕ → Entry
waiting_write place unit size =
    record { place = place; unit = unit; limit = 0; keep = 0; status = 0; log = 0; size = size; seconds = 0 }

-- A completed request: its status, its log, and the size of the record that a read brought to the record buffer.
abbrev pub completed_request : ℕ → ℕ → ℕ → ℕ → Entry
completed_request place status log size =
    record { place = place; unit = 0; limit = 0; keep = 0; status = status; log = log; size = size; seconds = 0 }

-- A running timer: the seconds that are left.
abbrev pub running_timer : ℕ → ℕ → Entry
running_timer place seconds =
    record { place = place; unit = 0; limit = 0; keep = 0; status = 0; log = 0; size = 0; seconds = seconds }

-- the words of a file's row: all zero if it is not built, since R is at least 1
unfoldable pub file_words : FileRow → List ℕ
file_words r = r.words ∷ r.factor ∷ r.blocks ∷ r.block ∷ r.spent ∷ r.held ∷ 0 ∷ 0 ∷ []

-- the words of a place's fields: all zero if no accessor is open there, since a reader's side is 1 and a writer's 2
unfoldable pub place_words : PlaceRow → List ℕ
place_words r = r.side ∷ r.id ∷ r.share ∷ r.timeout ∷ r.extended ∷ r.typed ∷ r.keep ∷ r.first ∷ []

-- the words of a place's row: its fields, and the spare words after them
abbrev pub spared : List ℕ → List ℕ
spared ws = ws ++ replicate place_spare 0

-- the entry that has these words; `file_row_of` and `place_row_of` are the rows that have them

unfoldable pub entry_of : List ℕ → Entry
entry_of m =
    record {
      place = get_or m 0 0;
      unit = get_or m 1 0;
      limit = get_or m 2 0;
      keep = get_or m 3 0;
      status = get_or m 4 0;
      log = get_or m 5 0;
      size = get_or m 6 0;
      seconds = get_or m 7 0;
    }

unfoldable pub file_row_of : List ℕ → FileRow
file_row_of r =
    record {
      words = get_or r 0 0;
      factor = get_or r 1 0;
      blocks = get_or r 2 0;
      block = get_or r 3 0;
      spent = get_or r 4 0;
      held = get_or r 5 0;
    }

unfoldable pub place_row_of : List ℕ → PlaceRow
place_row_of r =
    record {
      side = get_or r 0 0;
      id = get_or r 1 0;
      share = get_or r 2 0;
      timeout = get_or r 3 0;
      extended = get_or r 4 0;
      typed = get_or r 5 0;
      keep = get_or r 6 0;
      first = get_or r 7 0;
    }

-- entry e as it is in the segment; `file_at` is the row of file f, `place_at` the row of place i

unfoldable pub entry_at : List ℕ → ℕ → Entry
entry_at s e = entry_of (data_of s e)

unfoldable pub file_at : List ℕ → ℕ → FileRow
file_at s f = file_row_of (row s (file_row_at f) file_width)

unfoldable pub place_at : List ℕ → ℕ → PlaceRow
place_at s i = place_row_of (row s (place_row_at i) place_width)

-- The request of an accessor, as the lists of the segment show it.
use Rattle.std.specs.Prelude.{ℕ, zero, suc, ◌+◌, ◌*◌, Bool, cond, ◌&&◌, List, [], ◌++◌, ltb, eqb, Option, Some, None}
use Rattle.occurrences.specs.Count.{bit}
use Rattle.rules.specs.Limits.{places, entries}
use Rattle.segment.specs.declared.Entry.{Entry}
use Rattle.segment.specs.declared.PlaceRow.{PlaceRow}
use Rattle.segment.specs.Layout.{reply_port, timer_list}
use Rattle.segment.specs.Table.{nth}
use Rattle.segment.specs.Fields.{entry_at, place_at}
use Rattle.ports.specs.Slots.{seek, has}
use Rattle.accessors.specs.Sides.{count_side}
use Rattle.accessors.specs.Outstanding.{queue_of}
use Rattle.notices.specs.declared.Request.{Request}
use Rattle.notices.specs.declared.Request.TheVariants.{Idle, Reads, Writes, HasRead, HasWritten}
use Rattle.notices.specs.Lines.{nobody_line, request_line, row_line}

-- the number of place i's entry in list l; not an entry's number, if there is none
abbrev pub found_at : List ℕ → ℕ → ℕ → ℕ
found_at s l i = nth s (seek (has 0 i) s l entries)

-- the time left in the timer's entry e, if there is such an entry
unfoldable pub left_in : List ℕ → ℕ → Option ℕ
left_in s e = cond (ltb e entries) (Some (entry_at s e).seconds) None

abbrev pub left_at : List ℕ → ℕ → Option ℕ
left_at s i = left_in s (found_at s timer_list i)

-- whether there is an entry e, the first of a list, and it is of place i
unfoldable pub first_in : List ℕ → ℕ → ℕ → Bool
first_in s i e = ltb e entries && eqb (entry_at s e).place i

abbrev pub first_at : List ℕ → ℕ → ℕ → Bool
first_at s l i = first_in s i (nth s l)

-- the request that waits in list l, with the entry e; `completed_in` is a completed request

unfoldable pub waiting_in : List ℕ → ℕ → ℕ → ℕ → ℕ → Request
waiting_in s l i side e =
    cond (ltb e entries)
    (cond (eqb side 2) (Writes (entry_at s e).size (left_at s i) (bit (first_at s l i))) (Reads (entry_at s e).limit (left_at s i) (bit (first_at s l i))))
    Idle

abbrev pub waiting_at : List ℕ → ℕ → ℕ → ℕ → Request
waiting_at s l i side = waiting_in s l i side (found_at s l i)

unfoldable pub completed_in : ℕ → Entry → Request
completed_in side m = cond (eqb side 2) (HasWritten m.status) (HasRead m.status m.size)

unfoldable pub request_at : List ℕ → ℕ → ℕ → ℕ → Request
request_at s f p side =
    cond (ltb (nth s (reply_port (places * f + p))) entries) (completed_in side (entry_at s (nth s (reply_port (places * f + p)))))
    (waiting_at s (queue_of f side) (places * f + p) side)

-- the lines of place p of file f, whose row is r; `places_at` has those of its first n places, `accessors_at` those of all

unfoldable pub row_text : List ℕ → ℕ → ℕ → PlaceRow → List ℕ
row_text s f p r = cond (eqb r.side 0) [] (row_line p r ++ request_line (request_at s f p r.side))

abbrev pub place_text_at : List ℕ → ℕ → ℕ → List ℕ
place_text_at s f p = row_text s f p (place_at s (places * f + p))

unfoldable pub places_at : List ℕ → ℕ → ℕ → List ℕ
places_at s f zero = []
places_at s f (suc n) = places_at s f n ++ place_text_at s f n

unfoldable pub accessors_at : List ℕ → ℕ → List ℕ
accessors_at s f = cond (eqb (count_side s f 0) places) nobody_line (places_at s f places)

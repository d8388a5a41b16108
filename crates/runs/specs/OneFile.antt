-- What the memories hold of one file, read from their bytes: its row and its accessors' rows, its share, its record buffers, its queues, its reply ports and
-- its running timers. There is no entry number, no link and no free list in it.
use Rattle.std.specs.Prelude.{ℕ, zero, suc, ◌/◌, true, false, cond, List, [], ◌∷◌, map, ltb, eqb, get_or}
use Rattle.rules.specs.Limits.{places, entries}
use Rattle.rules.specs.Allocation.{place_of, up_from}
use Rattle.rules.specs.Memories.{share_at}
use Rattle.segment.specs.Layout.{read_queue, write_queue, reply_port, timer_list, link_at, file_width, place_width, file_row_at, place_row_at}
use Rattle.segment.specs.Table.{nth, row, data_of}
use Rattle.memory.specs.Memories.{Memories}
use Rattle.memory.specs.Stands.{buffers_at}

-- the nine words of each entry of a list, starting at its head: place, unit, limit, keep, status, log, size, seconds, and one spare word
unfoldable pub walk : ℕ → List ℕ → ℕ → List (List ℕ)
walk zero s slot = []
walk (suc n) s slot = elim (ltb (nth s slot) entries) [ true ↦ data_of s (nth s slot) ∷ walk n s (link_at (nth s slot)) | false ↦ [] ]

-- what list l holds; no list is longer than the number of entries
unfoldable pub listed : List ℕ → ℕ → List (List ℕ)
listed s l = walk entries s l

-- the timers of file f among the desk's, by their places
unfoldable pub timers_on : ℕ → List (List ℕ) → List (List ℕ)
timers_on f [] = []
timers_on f (t ∷ ts) = cond (eqb (get_or t 0 0 / places) f) (t ∷ timers_on f ts) (timers_on f ts)

pub record OneFile : Type 0 where
  pub own : List ℕ
  pub accessors : List (List ℕ)
  pub share : List ℕ
  pub buffers : List ℕ
  pub reads : List (List ℕ)
  pub writes : List (List ℕ)
  pub ports : List (List (List ℕ))
  pub timers : List (List ℕ)

unfoldable pub file_in : ℕ → Memories → OneFile
file_in f m =
    record {
      own = row m.segment (file_row_at f) file_width;
      accessors = map (λ p. row m.segment (place_row_at (place_of f p)) place_width) (up_from 0 places);
      share = share_at f m.blocks;
      buffers = buffers_at f m.buffers;
      reads = listed m.segment (read_queue f);
      writes = listed m.segment (write_queue f);
      ports = map (λ p. listed m.segment (reply_port (place_of f p))) (up_from 0 places);
      timers = timers_on f (listed m.segment timer_list);
    }

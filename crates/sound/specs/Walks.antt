-- The walk of each list: every entry is met once, holds what its list asks of it, and belongs to a place that has no other request.
use Rattle.std.specs.Prelude.{ℕ, zero, suc, ◌+◌, ◌*◌, ◌/◌, Bool, true, false, cond, ◌&&◌, List, ltb, leb, eqb, get_or, set, replicate}
use Rattle.rules.specs.Limits.{files, places, entries, buffer_bytes}
use Rattle.segment.specs.Layout.{nil, link_at, data_at, data_words, free_list, reply_port, timer_list}
use Rattle.accessors.specs.Outstanding.{queue_of}
use Rattle.segment.specs.Table.{nth}
use Rattle.laws.specs.Bounds.{least_refusal}
use Rattle.sound.specs.Rows.{file_word, side_at, zero_words}

-- the marks of a walk: an entry that was met is 1; a place is 0 idle, 1 waiting, 2 completed, 3 waiting with a timer
pub record Walked : Type 0 where
  pub ok : Bool
  pub seen : List ℕ
  pub busy : List ℕ

unfoldable pub walked : Bool → List ℕ → List ℕ → Walked
walked ok seen busy = record { ok = ok; seen = seen; busy = busy }

-- word j of entry e's data
unfoldable pub entry_word : List ℕ → ℕ → ℕ → ℕ
entry_word s e j = nth s (data_at e + j)

unfoldable pub place_in : List ℕ → ℕ → ℕ
place_in s e = entry_word s e 0

unfoldable pub size_in : List ℕ → ℕ → ℕ
size_in s e = entry_word s e 6

-- "Freed entries are zeroed but for the link"
unfoldable pub free_entry : List ℕ → ℕ → Bool
free_entry s e = zero_words s (data_at e) data_words

-- a waiting read of file f: place, unit, limit, keep, and zeros
unfoldable pub read_entry : List ℕ → List ℕ → ℕ → ℕ → Bool
read_entry s busy f e =
    ltb (place_in s e) (files * places)
    && eqb (place_in s e / places) f
    && eqb (get_or busy (place_in s e) 0) 0
    && eqb (side_at s (place_in s e)) 1
    && leb (entry_word s e 1) 1
    && leb (entry_word s e 2) buffer_bytes
    && leb (entry_word s e 3) 1
    && zero_words s (data_at e + 4) 5

-- a waiting write of file f: place, unit, size, and zeros
unfoldable pub write_entry : List ℕ → List ℕ → ℕ → ℕ → Bool
write_entry s busy f e =
    ltb (place_in s e) (files * places)
    && eqb (place_in s e / places) f
    && eqb (get_or busy (place_in s e) 0) 0
    && eqb (side_at s (place_in s e)) 2
    && leb (entry_word s e 1) 1
    && zero_words s (data_at e + 2) 4
    && leb (size_in s e) (2 * file_word s f 0)
    && zero_words s (data_at e + 7) 2

-- a completed request of place i: place, status, which is no refusal number, log, for a read the size, and zeros
unfoldable pub port_entry : List ℕ → List ℕ → ℕ → ℕ → Bool
port_entry s busy i e =
    eqb (place_in s e) i
    && eqb (get_or busy i 0) 0
    && leb 1 (side_at s i)
    && zero_words s (data_at e + 1) 3
    && ltb (entry_word s e 4) least_refusal
    && leb (size_in s e) (cond (eqb (side_at s i) 1) buffer_bytes 0)
    && zero_words s (data_at e + 7) 2

-- a timer of a waiting place, with no less left than the one before; the first has at least one second
unfoldable pub timer_entry : List ℕ → List ℕ → ℕ → ℕ → Bool
timer_entry s busy low e =
    ltb (place_in s e) (files * places)
    && eqb (get_or busy (place_in s e) 0) 1
    && zero_words s (data_at e + 1) 6
    && leb low (entry_word s e 7)
    && eqb (entry_word s e 8) 0

-- the walk of the free list from slot p, with at most n steps. A list ends at nil, and nowhere else

unfoldable pub free_walk : List ℕ → ℕ → List ℕ → List ℕ → ℕ → Walked
free_walk s p seen busy zero = walked false seen busy
free_walk s p seen busy (suc n) =
    elim (ltb (nth s p) entries) [
      | false ↦ walked (eqb (nth s p) nil) seen busy
      | true ↦ elim (eqb (get_or seen (nth s p) 0) 0 && free_entry s (nth s p)) [
        | false ↦ walked false seen busy
        | true ↦ free_walk s (link_at (nth s p)) (set seen (nth s p) 1) busy n
      ]
    ]

-- the walk of a queue of file f from slot p; `side` is 1 for its read queue, 2 for its write queue
unfoldable pub queue_walk : List ℕ → ℕ → ℕ → ℕ → List ℕ → List ℕ → ℕ → Walked
queue_walk s side f p seen busy zero = walked false seen busy
queue_walk s side f p seen busy (suc n) =
    elim (ltb (nth s p) entries) [
      | false ↦ walked (eqb (nth s p) nil) seen busy
      | true ↦ elim (eqb (get_or seen (nth s p) 0) 0 && cond (eqb side 1) (read_entry s busy f (nth s p)) (write_entry s busy f (nth s p))) [
        | false ↦ walked false seen busy
        | true ↦ queue_walk s side f (link_at (nth s p)) (set seen (nth s p) 1) (set busy (place_in s (nth s p)) 1) n
      ]
    ]

unfoldable pub timer_walk : List ℕ → ℕ → ℕ → List ℕ → List ℕ → ℕ → Walked
timer_walk s low p seen busy zero = walked false seen busy
timer_walk s low p seen busy (suc n) =
    elim (ltb (nth s p) entries) [
      | false ↦ walked (eqb (nth s p) nil) seen busy
      | true ↦ elim (eqb (get_or seen (nth s p) 0) 0 && timer_entry s busy low (nth s p)) [
        | false ↦ walked false seen busy
        | true ↦ timer_walk s (entry_word s (nth s p) 7) (link_at (nth s p)) (set seen (nth s p) 1) (set busy (place_in s (nth s p)) 3) n
      ]
    ]

-- the walk of the reply port of place i, which has at most one entry
unfoldable pub port_walk : List ℕ → ℕ → List ℕ → List ℕ → Walked
port_walk s i seen busy =
    let v : ℕ = nth s (reply_port i) in
    elim (ltb v entries) [
      | false ↦ walked (eqb v nil) seen busy
      | true ↦ elim (eqb (get_or seen v 0) 0 && port_entry s busy i v && eqb (nth s (link_at v)) nil) [
        | false ↦ walked false seen busy
        | true ↦ walked true (set seen v 1) (set busy i 2)
      ]
    ]

-- one walk after another: the next is made only if all was well
unfoldable pub and_then : Walked → (List ℕ → List ℕ → Walked) → Walked
and_then w next = elim w.ok [ true ↦ next w.seen w.busy | false ↦ w ]

-- the walks of the queues of n files starting at file f, on one side
unfoldable pub queue_walks : List ℕ → ℕ → ℕ → List ℕ → List ℕ → ℕ → Walked
queue_walks s side f seen busy zero = walked true seen busy
queue_walks s side f seen busy (suc n) =
    and_then (queue_walk s side f (queue_of f side) seen busy (entries + 1)) (λ seen' busy'. queue_walks s side (suc f) seen' busy' n)

-- the walks of the ports of n places starting at place i
unfoldable pub port_walks : List ℕ → ℕ → List ℕ → List ℕ → ℕ → Walked
port_walks s i seen busy zero = walked true seen busy
port_walks s i seen busy (suc n) = and_then (port_walk s i seen busy) (λ seen' busy'. port_walks s (suc i) seen' busy' n)

-- the walks of all lists
unfoldable pub all_walks : List ℕ → Walked
all_walks s =
    and_then (free_walk s free_list (replicate entries 0) (replicate (files * places) 0) (entries + 1)) (λ seen busy.
    and_then (queue_walks s 1 0 seen busy files) (λ seen' busy'.
    and_then (queue_walks s 2 0 seen' busy' files) (λ seen'' busy''.
    and_then (port_walks s 0 seen'' busy'' (files * places)) (λ seen''' busy'''.
    timer_walk s 1 timer_list seen''' busy''' (entries + 1)))))

-- whether every one of n entries was met
unfoldable pub all_met : List ℕ → ℕ → Bool
all_met seen zero = true
all_met seen (suc n) = elim (eqb (get_or seen n 0) 1) [ true ↦ all_met seen n | false ↦ false ]

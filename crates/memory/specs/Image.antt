-- The words of the segment for a desk of the rules and an allocation of entries.
use Rattle.std.specs.Prelude.{ℕ, ◌+◌, ◌-◌, ◌/◌, ◌%◌, cond, List, [], ◌∷◌, map, ltb, length, replicate}
use Rattle.std.proofs.Math.Option.{Option, none, some}
use Rattle.occurrences.specs.Count.{bit}
use Rattle.segment.specs.Layout.{read_queues, write_queues, reply_ports, list_count, data_words, file_width, place_width, row_count}
use Rattle.segment.specs.Layout as layout
use Rattle.segment.specs.Fields.{entry_words, waiting_read, waiting_write, completed_request, running_timer, spared}
use Rattle.rules.specs.Limits.{files, places}
use Rattle.rules.specs.State.{Req, idle, reading, writing, read_done, write_done, Acc, Timer, File, unbuilt, built}
use Rattle.rules.specs.Requests.{acc_at}
use Rattle.rules.specs.Desk.{Desk, file_of}
use Rattle.rules.specs.Allocation.{Alloc, up_from, place_of, queue_of, port_of, timer_list}
use Rattle.laws.specs.Outstanding.{req_of}

unfoldable pub acc_of : File → ℕ → Option Acc
acc_of unbuilt p = none
acc_of (built b) p = acc_at b p

-- the accessor at place i of the desk
unfoldable pub place_acc : Desk → ℕ → Option Acc
place_acc d i = acc_of (file_of d (i / places)) (i % places)

-- the data of entries: place, unit, limit, keep, status, log, size, seconds, and a spare word

unfoldable pub req_words : ℕ → Req → List ℕ
req_words i idle = replicate data_words 0
req_words i (reading q) = entry_words (waiting_read i (bit q.by_words) q.limit (bit q.keep))
req_words i (writing q) = entry_words (waiting_write i (bit q.by_words) (length q.bytes))
req_words i (read_done q) = entry_words (completed_request i q.status q.log (length q.bytes))
req_words i (write_done q) = entry_words (completed_request i q.status q.log 0)

unfoldable pub timer_words : Timer → List ℕ
timer_words t = entry_words (running_timer t.place t.left)

-- rows

unfoldable pub file_words : File → List ℕ
file_words unbuilt = replicate file_width 0
file_words (built b) = b.geo.words ∷ b.geo.factor ∷ b.geo.blocks ∷ b.store.block ∷ b.store.spent ∷ length b.store.recs ∷ 0 ∷ 0 ∷ []

abbrev pub acc_words : Acc → List ℕ
acc_words a = (1 + bit a.writer) ∷ a.ident ∷ a.sharing ∷ a.timeout ∷ bit a.extended ∷ bit a.typed ∷ bit a.keep ∷ bit a.first ∷ []

unfoldable pub place_words : Option Acc → List ℕ
place_words none = replicate place_width 0
place_words (some a) = spared (acc_words a)

unfoldable pub row_of : Desk → ℕ → List ℕ
row_of d i = cond (ltb i files) (file_words (file_of d i)) (place_words (place_acc d (i - files)))

-- lists of entries, and what the entries in them hold

unfoldable pub rq_of : File → List ℕ
rq_of unbuilt = []
rq_of (built b) = b.rq

unfoldable pub wq_of : File → List ℕ
wq_of unbuilt = []
wq_of (built b) = b.wq

-- the one of five things that is for list l: for the free list, a file's read queue, its write queue, a place's reply port, the timer list
unfoldable pub at_list : {A : Type 0} → A → (ℕ → A) → (ℕ → A) → (ℕ → A) → A → ℕ → A
at_list free reads writes port timers l =
    cond (ltb l read_queues) free
    (cond (ltb l write_queues) (reads (l - read_queues))
    (cond (ltb l reply_ports) (writes (l - write_queues)) (cond (ltb l layout.timer_list) (port (l - reply_ports)) timers)))

-- the entries of list l
unfoldable pub list_of : Desk → Alloc → ℕ → List ℕ
list_of d s l =
    at_list s.free (λ f. queue_of (λ b. b.rq) f (file_of d f) s) (λ f. queue_of (λ b. b.wq) f (file_of d f) s) (λ i. port_of (req_of (place_acc d i)) i s)
    (timer_list s) l

unfoldable pub queue_words : ℕ → File → List ℕ → List (List ℕ)
queue_words f x q = map (λ p. req_words (place_of f p) (req_of (acc_of x p))) q

unfoldable pub port_words : ℕ → Req → List (List ℕ)
port_words i idle = []
port_words i (reading q) = []
port_words i (writing q) = []
port_words i (read_done q) = req_words i (read_done q) ∷ []
port_words i (write_done q) = req_words i (write_done q) ∷ []

-- what the entries of list l hold, in the same order
unfoldable pub box_of : Desk → Alloc → ℕ → List (List ℕ)
box_of d s l =
    at_list (map (λ e. replicate data_words 0) s.free) (λ f. queue_words f (file_of d f) (rq_of (file_of d f)))
    (λ f. queue_words f (file_of d f) (wq_of (file_of d f)))
    (λ i. port_words i (req_of (place_acc d i)))
    (map timer_words s.clock) l

-- all lists, in order; `boxes_of`: all contents; `rows_of`: all rows

unfoldable pub lists_of : Desk → Alloc → List (List ℕ)
lists_of d s = map (list_of d s) (up_from 0 list_count)

unfoldable pub boxes_of : Desk → Alloc → List (List (List ℕ))
boxes_of d s = map (box_of d s) (up_from 0 list_count)

unfoldable pub rows_of : Desk → List (List ℕ)
rows_of d = map (row_of d) (up_from 0 row_count)

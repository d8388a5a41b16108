-- The desk and the allocation that the bytes of sound memories say, read from them.
use Prim.Native.Nat.{ℕ, zero, suc, ◌+◌, ◌*◌, ◌/◌, ◌%◌}
use mathlib.Core.Bool.{true, false, cond}
use mathlib.Core.List.{List, [], ◌∷◌, ◌++◌, map}
use mathlib.Core.Option.{Option, none, some}
use lib.Dec.{eqb}
use lib.ListN.{get_or, take}
use Rattle.rules.specs.Limits.{files, places}
use Rattle.rules.specs.State.{Wanted, Offered, Brought, Wrote, Req, idle, reading, writing, read_done, write_done, Acc, Timer, Built, File, unbuilt, built}
use Rattle.rules.specs.Desk.{Desk}
use Rattle.rules.specs.Allocation.{Held, nothing, own, timed, Alloc, up_from}
use Rattle.rules.specs.Memories.{buffer_at, share_at}
use Rattle.segment.specs.Layout.{free_list, read_queue, write_queue, reply_port, timer_list}
use Rattle.shares.specs.Sound.{store_at}
use Rattle.laws.specs.Entries.{sieve}
use Rattle.memory.specs.Stands.{buffers_at}
use Rattle.laws.specs.EightFiles.{desk_of}
use Rattle.sound.specs.Rows.{file_word, place_word, built_at, geo_at, side_at}
use Rattle.sound.specs.Walks.{entry_word, place_in, size_in}
use Rattle.decision.specs.Survey.{named, waiting_at, completed_at, timers_at}

-- the entry of a list that belongs to place i
unfoldable pub the_entry : List ℕ → ℕ → List ℕ → ℕ
the_entry s i [] = 0
the_entry s i (e ∷ l) = cond (eqb (place_in s e) i) e (the_entry s i l)

unfoldable pub reads_at : List ℕ → List (List ℕ) → ℕ → ℕ
reads_at s ls i = named s i (get_or ls (read_queue (i / places)) [])

unfoldable pub writes_at : List ℕ → List (List ℕ) → ℕ → ℕ
writes_at s ls i = named s i (get_or ls (write_queue (i / places)) [])

-- the entry of place i's request, in its file's queues or on its port
unfoldable pub entry_of : List ℕ → List (List ℕ) → ℕ → ℕ
entry_of s ls i = the_entry s i (get_or ls (read_queue (i / places)) [] ++ (get_or ls (write_queue (i / places)) [] ++ get_or ls (reply_port i) []))

-- what the entry e, of place i, says of a request of each kind
abbrev pub wanted_by : List ℕ → ℕ → Wanted
wanted_by s e = record { by_words = eqb (entry_word s e 1) 1; limit = entry_word s e 2; keep = eqb (entry_word s e 3) 1 }

abbrev pub offered_by : List ℕ → List ℕ → ℕ → ℕ → Offered
offered_by s bufs i e = record { by_words = eqb (entry_word s e 1) 1; bytes = take (size_in s e) (buffer_at i bufs) }

abbrev pub brought_by : List ℕ → List ℕ → ℕ → ℕ → Brought
brought_by s bufs i e = record { status = entry_word s e 4; log = entry_word s e 5; bytes = take (size_in s e) (buffer_at i bufs) }

abbrev pub wrote_by : List ℕ → ℕ → Wrote
wrote_by s e = record { status = entry_word s e 4; log = entry_word s e 5 }

-- the request at place i whose entry is e, by how many wait as reads, wait as writes, are completed
unfoldable pub req_by : List ℕ → List ℕ → ℕ → ℕ → ℕ → ℕ → ℕ → Req
req_by s bufs i e (suc r) w c = reading (wanted_by s e)
req_by s bufs i e zero (suc w) c = writing (offered_by s bufs i e)
req_by s bufs i e zero zero (suc c) = cond (eqb (side_at s i) 1) (read_done (brought_by s bufs i e)) (write_done (wrote_by s e))
req_by s bufs i e zero zero zero = idle

unfoldable pub req_for : List ℕ → List ℕ → List (List ℕ) → ℕ → Req
req_for s bufs ls i = req_by s bufs i (entry_of s ls i) (reads_at s ls i) (writes_at s ls i) (completed_at ls i)

unfoldable pub open_for : List ℕ → List ℕ → List (List ℕ) → ℕ → Acc
open_for s bufs ls i = record {
  writer = eqb (side_at s i) 2;
  ident = place_word s i 1;
  sharing = place_word s i 2;
  timeout = place_word s i 3;
  extended = eqb (place_word s i 4) 1;
  typed = eqb (place_word s i 5) 1;
  keep = eqb (place_word s i 6) 1;
  first = eqb (place_word s i 7) 1;
  req = req_for s bufs ls i;
}

unfoldable pub acc_for : List ℕ → List ℕ → List (List ℕ) → ℕ → Option Acc
acc_for s bufs ls i = elim (eqb (side_at s i) 0) [ true ↦ none | false ↦ some (open_for s bufs ls i) ]

-- what place i holds, its request's entry being e and its timer's t, by how many requests and how many timers it has
unfoldable pub held_by : ℕ → ℕ → ℕ → ℕ → Held
held_by e t zero n = nothing
held_by e t (suc m) zero = own e
held_by e t (suc m) (suc n) = timed e t

unfoldable pub held_for : List ℕ → List (List ℕ) → ℕ → Held
held_for s ls i = held_by (entry_of s ls i) (the_entry s i (get_or ls timer_list [])) (waiting_at s ls i + completed_at ls i) (timers_at s ls i)

unfoldable pub timer_for : List ℕ → ℕ → Timer
timer_for s e = record { place = place_in s e; left = entry_word s e 7 }

unfoldable pub clock_for : List ℕ → List (List ℕ) → List Timer
clock_for s ls = map (timer_for s) (get_or ls timer_list [])

unfoldable pub alloc_for : List ℕ → List (List ℕ) → Alloc
alloc_for s ls = record { free = get_or ls free_list []; held = map (held_for s ls) (up_from 0 (files * places)); clock = clock_for s ls }

-- an entry's place within its file
unfoldable pub in_file : List ℕ → ℕ → ℕ
in_file s e = place_in s e % places

unfoldable pub built_for : List ℕ → List ℕ → List ℕ → List (List ℕ) → ℕ → Built
built_for s blocks bufs ls f = record {
  geo = geo_at s f;
  store = store_at (geo_at s f) (share_at f blocks) (file_word s f 3) (file_word s f 4) (file_word s f 5);
  accs = map (acc_for s bufs ls) (up_from (places * f) places);
  buffers = buffers_at f bufs;
  rq = map (in_file s) (get_or ls (read_queue f) []);
  wq = map (in_file s) (get_or ls (write_queue f) []);
  timers = sieve f (clock_for s ls);
  past = [];
}

unfoldable pub file_for : List ℕ → List ℕ → List ℕ → List (List ℕ) → ℕ → File
file_for s blocks bufs ls f = elim (built_at s f) [ true ↦ built (built_for s blocks bufs ls f) | false ↦ unbuilt ]

unfoldable pub desk_for : List ℕ → List ℕ → List ℕ → List (List ℕ) → Desk
desk_for s blocks bufs ls = desk_of (file_for s blocks bufs ls)

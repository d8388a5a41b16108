-- The allocation, stated beside the definition: which entry each request and each timer holds, the order of the free list and of the desk's timers.
-- Freed entries "go to the front of the free list and are taken from there. A request takes its own entry before its timer's and frees the timer's
-- first."
use Rattle.std.specs.Prelude.{List, [], ◌∷◌, ◌++◌, map, ℕ, zero, suc, ◌+◌, ◌*◌, ◌/◌, ◌%◌, get_or, set, drop, replicate}
use Rattle.rules.specs.Limits.{files, places, entries}
use Rattle.rules.specs.State.{Req, idle, reading, writing, read_done, write_done, Timer, Hap, made, puts, takes, drops, purges, waits, arms, ends, cancels, collects, Built, File, unbuilt, built}
use Rattle.rules.specs.Requests.{without_timer, arm_in}
use Rattle.rules.specs.Time.{due, minus}
use Rattle.rules.specs.Desk.{Desk, Call, Asked, on, time, bad, asked, respond, happens}

-- the entries that a place holds: none; its request's; its request's and its timer's
pub data Held : Type 0 where
  nothing : Held
  own : ℕ → Held
  timed : ℕ → ℕ → Held

-- the place of the desk that is accessor place p of file f: 8 × f + p
unfoldable pub place_of : ℕ → ℕ → ℕ
place_of f p = places * f + p

pub record Alloc : Type 0 where
  -- the free list, from its front
  pub free : List ℕ
  -- what each place of the desk holds
  pub held : List Held
  -- all running timers, smallest first, equals in arming order
  pub clock : List Timer

unfoldable pub up_from : ℕ → ℕ → List ℕ
up_from n zero = []
up_from n (suc k) = n ∷ up_from (suc n) k

-- "the free list in order of entry number"
unfoldable pub fresh_alloc : Alloc
fresh_alloc = record { free = up_from 0 entries; held = replicate (files * places) nothing; clock = [] }

unfoldable pub held_at : Alloc → ℕ → Held
held_at s i = get_or s.held i nothing

-- the number given where there is no entry; no entry has it
abbrev pub no_entry : ℕ
no_entry = entries

-- the entry that is taken next; every run has one left when it takes one (law `fed`)
unfoldable pub front : Alloc → ℕ
front s = get_or s.free 0 no_entry

unfoldable pub holds : ℕ → Held → List ℕ → Alloc → Alloc
holds i h free s = record { free = free; held = set s.held i h; clock = s.clock }

unfoldable pub with_clock : List Timer → Alloc → Alloc
with_clock ts s = record { free = s.free; held = s.held; clock = ts }

-- takes an entry for the request at place i
unfoldable pub take_own : ℕ → Alloc → Alloc
take_own i s = holds i (own (front s)) (drop 1 s.free) s

-- takes an entry for the timer of the request at place i
unfoldable pub take_timer : ℕ → Held → Alloc → Alloc
take_timer i nothing s = s
take_timer i (own e) s = holds i (timed e (front s)) (drop 1 s.free) s
take_timer i (timed e t) s = s

-- frees the entry of the timer of place i, which leaves the clock
unfoldable pub free_timer : ℕ → Held → Alloc → Alloc
free_timer i nothing s = s
free_timer i (own e) s = s
free_timer i (timed e t) s = holds i (own e) (t ∷ s.free) (with_clock (without_timer i s.clock) s)

unfoldable pub free_own : ℕ → Held → Alloc → Alloc
free_own i nothing s = s
free_own i (own e) s = holds i nothing (e ∷ s.free) s
free_own i (timed e t) s = s

-- completes the request at place i: its own entry stays, on the reply port
unfoldable pub ends_at : ℕ → Alloc → Alloc
ends_at i s = free_timer i (held_at s i) s

-- cancels or collects the request at place i: both entries are freed, the timer's first
unfoldable pub goes_at : ℕ → Alloc → Alloc
goes_at i s = let t : Alloc = ends_at i s in free_own i (held_at t i) t

-- the allocation after one happening in file f
unfoldable pub allot : ℕ → Hap → Alloc → Alloc
allot f (made g) s = s
allot f (puts r) s = s
allot f (takes p r) s = s
allot f (drops r) s = s
allot f purges s = s
allot f (waits p) s = take_own (place_of f p) s
allot f (arms p n) s = with_clock (arm_in (record { place = place_of f p; left = n }) s.clock) (take_timer (place_of f p) (held_at s (place_of f p)) s)
allot f (ends p st) s = ends_at (place_of f p) s
allot f (cancels p) s = goes_at (place_of f p) s
allot f (collects p) s = goes_at (place_of f p) s

unfoldable pub allot_all : ℕ → List Hap → Alloc → Alloc
allot_all f [] s = s
allot_all f (h ∷ hs) s = allot_all f hs (allot f h s)

unfoldable pub end_all : List ℕ → Alloc → Alloc
end_all [] s = s
end_all (i ∷ l) s = end_all l (ends_at i s)

-- the allocation after e seconds in all files at once: the due timers go in the order of the desk's clock (`told`); the others lose e
unfoldable pub alloc_time : ℕ → Alloc → Alloc
alloc_time e s = let t : Alloc = end_all (due e s.clock) s in with_clock (map (minus e) t.clock) t

unfoldable pub alloc_asked : Desk → Asked → Alloc → Alloc
alloc_asked d (on f q) s = allot_all f (happens f d (on f q)) s
alloc_asked d (time e) s = alloc_time e s
alloc_asked d bad s = s

-- a happening of the desk: the file, and what happens to it
pub record Happening : Type 0 where
  pub file : ℕ
  pub hap : Hap

unfoldable pub happening : ℕ → Hap → Happening
happening f h = record { file = f; hap = h }

-- the happening that the request at place i of the desk times out
unfoldable pub times_out : ℕ → Happening
times_out i = happening (i / places) (ends (i % places) 22)

-- what a call does to the desk, in order; timeouts come in the order of the clock. Its part for one file is what happens to that file, and the
-- allocation is a fold over it (laws `told_of`, `allocated-as-told`)
unfoldable pub told : Desk → Alloc → Asked → List Happening
told d s (on f q) = map (happening f) (happens f d (on f q))
told d s (time e) = map times_out (due e s.clock)
told d s bad = []

-- the allocation after a run from desk d; `annals` is what happened to the desk in the run
unfoldable pub alloc_after : Desk → List Call → Alloc → Alloc
alloc_after d [] s = s
alloc_after d (c ∷ cs) s = alloc_after (respond d c).desk cs (alloc_asked d (asked c) s)

unfoldable pub annals : Desk → List Call → Alloc → List Happening
annals d [] s = []
annals d (c ∷ cs) s = told d s (asked c) ++ annals (respond d c).desk cs (alloc_asked d (asked c) s)

-- the lists

-- the entry held for the request; `timer_entry` is the one held for its timer. Where there is none, no list of a run asks for it (law `held`)
unfoldable pub own_entry : Held → ℕ
own_entry nothing = no_entry
own_entry (own e) = e
own_entry (timed e t) = e

unfoldable pub timer_entry : Held → ℕ
timer_entry nothing = no_entry
timer_entry (own e) = no_entry
timer_entry (timed e t) = t

-- "one file's read queue, one file's write queue": the entries of the waiting requests in their order
unfoldable pub queue_of : (Built → List ℕ) → ℕ → File → Alloc → List ℕ
queue_of q f unbuilt s = []
queue_of q f (built b) s = map (λ p. own_entry (held_at s (place_of f p))) (q b)

-- "an accessor's reply port": a completed request's entry
unfoldable pub port_of : Req → ℕ → Alloc → List ℕ
port_of idle i s = []
port_of (reading q) i s = []
port_of (writing q) i s = []
port_of (read_done q) i s = own_entry (held_at s i) ∷ []
port_of (write_done q) i s = own_entry (held_at s i) ∷ []

-- "or the timer list"
unfoldable pub timer_list : Alloc → List ℕ
timer_list s = map (λ t. timer_entry (held_at s t.place)) s.clock

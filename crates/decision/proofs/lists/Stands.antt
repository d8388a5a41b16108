-- The lists by their parts, without the marks: their chains, what their entries hold, and how many entries belong to a place.
use Prim.Native.Nat.{ℕ, ◌+◌, ◌-◌, ◌*◌, ◌/◌, ◌<◌}
use mathlib.Core.Bool.{true}
use mathlib.Core.Path.{◌≡◌, sym, ap, ◌∙◌}
use mathlib.Core.List.{List, []}
use native.Mathlib.Omega.{arith}
use native.Mathlib.Decide.{ℕ_discrete, dec_lt}
use lib.ListN.{get_or}
use Rattle.rules.specs.Limits.{files, places}
use Rattle.segment.specs.Layout.{write_queues, reply_ports, list_count, free_list, read_queue, write_queue, reply_port, timer_list}
use Rattle.occurrences.specs.Count.{count}
use Rattle.ports.specs.Lists.{Chain}
use Rattle.sound.specs.Walks.{free_entry}
use Rattle.decision.specs.Survey.{InOrder, ReadEntry, WriteEntry, PortEntry, TimerEntry, named, waiting_at, completed_at, timers_at}
use Rattle.occurrences.proofs.Pigeons.{Below}
use Rattle.decision.proofs.lists.Flat.{flat}
use Rattle.decision.proofs.lists.Sweep.{Lists, lists_at}
use Rattle.decision.proofs.lists.Walkers.{most}
use Rattle.decision.proofs.lists.Means.{owners}
use Rattle.decision.proofs.lists.Stages.{Holding}
use Rattle.decision.proofs.lists.Parts.{Parts, whole, at-free, at_read, at-write, at-port, at-timers}
use Rattle.decision.proofs.lists.Owners.{each_below, row_below, each_none, each_all, row_one}

pub record ListsStand (s : List ℕ) (p : Parts) : Type 0 where
  pub free : Holding s most free_list (λ e. free_entry s e ≡ true) p.free
  pub reads : Lists (λ f. Holding s most (read_queue f) (ReadEntry s f)) 0 p.reads
  pub writes : Lists (λ f. Holding s most (write_queue f) (WriteEntry s f)) 0 p.writes
  pub ports : Lists (λ i. Holding s 2 (reply_port i) (PortEntry s i)) 0 p.ports
  pub timers : Holding s most timer_list (TimerEntry s) p.timers
  pub order : InOrder s 1 p.timers

-- the entries of place i in each part
module _ (s : List ℕ) (p : Parts) (i : ℕ) where
  abbrev pub reads_of : ℕ
  reads_of = count i (owners s (flat p.reads))

  abbrev pub writes_of : ℕ
  writes_of = count i (owners s (flat p.writes))

  abbrev pub ports_of : ℕ
  ports_of = count i (owners s (flat p.ports))

  abbrev pub timers_of : ℕ
  timers_of = count i (owners s p.timers)

module _ (s : List ℕ) (p : Parts) (t : ListsStand s p) where
  pub read_at : (f : ℕ) → f < files → Holding s most (read_queue f) (ReadEntry s f) (get_or (whole p) (read_queue f) [])
  read_at f h = rw (at_read p f h) (lists_at (λ j. Holding s most (read_queue j) (ReadEntry s j)) files p.reads p.read_size t.reads f h)

  pub write-at : (f : ℕ) → f < files → Holding s most (write_queue f) (WriteEntry s f) (get_or (whole p) (write_queue f) [])
  write-at f h = rw (at-write p f h) (lists_at (λ j. Holding s most (write_queue j) (WriteEntry s j)) files p.writes p.write_size t.writes f h)

  pub port-at : (i : ℕ) → i < files * places → Holding s 2 (reply_port i) (PortEntry s i) (get_or (whole p) (reply_port i) [])
  port-at i h = rw (at-port p i h) (lists_at (λ j. Holding s 2 (reply_port j) (PortEntry s j)) (files * places) p.ports p.port_size t.ports i h)

  -- list l, by the part that it is in
  pub chain-at : (l : ℕ) → l < list_count → Chain s l (get_or (whole p) l [])
  chain-at l h = go (ℕ_discrete l 0) (dec_lt l write_queues) (dec_lt l reply_ports) (dec_lt l timer_list)
    where
      go : Dec (l ≡ 0) → Dec (l < write_queues) → Dec (l < reply_ports) → Dec (l < timer_list) → Chain s l (get_or (whole p) l [])
      go (yes a) b c d = rw (a, at-free p) t.free.1
      go (no a) (yes b) c d = let e : 1 + (l - 1) ≡ l = omega arith in rw e at (read_at (l - 1) (omega arith)).1
      go (no a) (no b) (yes c) d = let e : write_queues + (l - write_queues) ≡ l = omega arith in rw e at (write-at (l - write_queues) (omega arith)).1
      go (no a) (no b) (no c) (yes d) = let e : reply_ports + (l - reply_ports) ≡ l = omega arith in rw e at (port-at (l - reply_ports) (omega arith)).1
      go (no a) (no b) (no c) (no d) = let e : l ≡ timer_list = omega arith in rw (e, at-timers p) t.timers.1

  -- every entry belongs to one of the 64 places
  pub reads-below : Below (files * places) (owners s (flat p.reads))
  reads-below =
      row_below s (files * places) (λ f. Holding s most (read_queue f) (ReadEntry s f)) 0 p.reads
      (λ f xs h r. each_below s (files * places) (ReadEntry s f) (λ e x. x.place) xs r.2) t.reads

  pub writes_below : Below (files * places) (owners s (flat p.writes))
  writes_below =
      row_below s (files * places) (λ f. Holding s most (write_queue f) (WriteEntry s f)) 0 p.writes
      (λ f xs h r. each_below s (files * places) (WriteEntry s f) (λ e x. x.place) xs r.2) t.writes

  pub ports-below : Below (files * places) (owners s (flat p.ports))
  ports-below =
      row_below s (files * places) (λ i. Holding s 2 (reply_port i) (PortEntry s i)) 0 p.ports
      (λ i xs h r. each_below s (files * places) (PortEntry s i) (λ e x. omega (arith, x.place, p.port_size)) xs r.2) t.ports

  pub timers-below : Below (files * places) (owners s p.timers)
  timers-below = each_below s (files * places) (TimerEntry s) (λ e x. x.place) p.timers t.timers.2

  -- the counts of the survey are those of the parts
  module _ (i : ℕ) (h : i < files * places) where
    reads-home : named s i (get_or (whole p) (read_queue (i / places)) []) ≡ reads_of s p i
    unfolding named
    reads-home =
        ap (λ (l : List ℕ). count i (owners s l)) (at_read p (i / places) (omega arith))
        ∙ sym (row_one s i (λ f. Holding s most (read_queue f) (ReadEntry s f)) (i / places)
        (λ f xs d r. each_none s i (ReadEntry s f) (λ e x u. d (sym x.file ∙ ap (λ (j : ℕ). j / places) u)) xs r.2)
        (i / places) 0 p.reads (omega arith) t.reads)

    writes-home : named s i (get_or (whole p) (write_queue (i / places)) []) ≡ writes_of s p i
    unfolding named
    writes-home =
        ap (λ (l : List ℕ). count i (owners s l)) (at-write p (i / places) (omega arith))
        ∙ sym (row_one s i (λ f. Holding s most (write_queue f) (WriteEntry s f)) (i / places)
        (λ f xs d r. each_none s i (WriteEntry s f) (λ e x u. d (sym x.file ∙ ap (λ (j : ℕ). j / places) u)) xs r.2)
        (i / places) 0 p.writes (omega arith) t.writes)

    pub waiting-is : waiting_at s (whole p) i ≡ reads_of s p i + writes_of s p i
    unfolding waiting_at
    waiting-is = omega (arith, reads-home, writes-home)

    pub completed-is : completed_at (whole p) i ≡ ports_of s p i
    unfolding completed_at
    completed-is =
        sym (each_all s i (PortEntry s i) (λ e x. x.place) (get_or (whole p) (reply_port i) []) (port-at i h).2)
        ∙ (ap (λ (l : List ℕ). count i (owners s l)) (at-port p i h)
        ∙ sym (row_one s i (λ j. Holding s 2 (reply_port j) (PortEntry s j)) i
        (λ j xs d r. each_none s i (PortEntry s j) (λ e x u. d (sym x.place ∙ u)) xs r.2)
        i 0 p.ports (omega arith) t.ports))

  pub timers-is : (i : ℕ) → timers_at s (whole p) i ≡ timers_of s p i
  unfolding timers_at named
  timers-is i = ap (λ (l : List ℕ). count i (owners s l)) (at-timers p)

-- The walks say yes exactly where there are lists as the survey has them.
use Prim.Native.Nat.{ℕ, ◌+◌, ◌*◌, ◌≤◌, ◌<◌}
use mathlib.Core.Bool.{Bool, true, false}
use mathlib.Core.Path.{◌≡◌, sym, ap, ◌∙◌}
use mathlib.Core.List.{List, []}
use native.Mathlib.Omega.{arith}
use native.Mathlib.Decide.{dec_lt}
use lib.Dec.{ltb}
use lib.ListN.{length, get_or}
use Rattle.rules.specs.Limits.{files, places, entries}
use Rattle.segment.specs.Layout.{list_count, free_list, read_queue, write_queue, reply_port, timer_list}
use Rattle.occurrences.specs.Count.{bit}
use Rattle.sound.specs.Walks.{Walked, walked, free_entry, all_walks, all_met}
use Rattle.decision.specs.Survey.{Each, ReadEntry, WriteEntry, PortEntry, TimerEntry, completed_at, Survey}
use Rattle.occurrences.proofs.Counts.{total-one}
use Rattle.occurrences.proofs.Pigeons.{Below, holes}
use Rattle.decision.proofs.lists.Flat.{below-count, flat, count-flat, below-flat}
use Rattle.decision.proofs.lists.Marks.{marks, Met, blank}
use Rattle.decision.proofs.lists.Tallied.{met-once, once-met}
use Rattle.decision.proofs.lists.Sweep.{at-lists}
use Rattle.decision.proofs.lists.Walkers.{most}
use Rattle.decision.proofs.lists.Means.{owners}
use Rattle.decision.proofs.lists.Stages.{Holding}
use Rattle.decision.proofs.lists.Parts.{Parts, whole, whole_length, at-free, at_read, at-write, at-port, at-timers, split}
use Rattle.decision.proofs.lists.All.{Good, AllFound, past_timers, walks-found, walks-well, all-walks}
use Rattle.decision.proofs.lists.Stands.{ListsStand, reads_of, writes_of, ports_of, timers_of, read_at, write-at, port-at, chain-at, reads-below, writes_below, ports-below, timers-below, waiting-is, completed-is, timers-is}
use Rattle.ports.proofs.Chains.{chain-below}
use Rattle.decision.proofs.lists.Places.{idle, ports-counted, timers-counted, reads-met, writes-met, ports-met, timers-met}

module _ (s : List ℕ) (p : Parts) where
  good-stands : Good s idle p → ListsStand s p
  good-stands g = record {
    free = g.free;
    reads = g.reads.1;
    writes = g.writes.1;
    ports = g.ports.1;
    timers = g.timers.0;
    order = g.timers.1;
  }

  module _ (t : ListsStand s p) where
    entries_below : Below entries (flat (whole p))
    entries_below =
        below-flat entries (whole p) (λ l h. chain-below s l (get_or (whole p) l []) (chain-at s p t l (omega (arith, whole_length p))))

  -- from what the walks found to the survey
  module _ (g : Good s idle p) (m : Met 0 1 (blank entries) (flat (whole p))) (k : all_met (marks 1 (blank entries) (flat (whole p))) entries ≡ true) where
    found-survey : Survey s (whole p)
    found-survey =
        let t = good-stands g in
        let c = ports-counted s p t g.reads.2 g.writes.2 g.ports.2 in
        let d = timers-counted s p t g.reads.2 g.writes.2 g.ports.2 g.timers.2 in
        record {
          heads = whole_length p;
          chains = chain-at s p t;
          once = λ x. sym (count-flat x (whole p)) ∙ met-once entries (flat (whole p)) (entries_below t) m k x;
          free = rw (at-free p) t.free.2;
          reads = λ f h. (read_at s p t f h).2;
          writes = λ f h. (write-at s p t f h).2;
          ports = λ i h. (port-at s p t i h).2;
          timers = rw (at-timers p) t.timers.2;
          order = rw (at-timers p) t.order;
          single = λ i h. omega (arith, c i, waiting-is s p t i h, completed-is s p t i h);
          timed = λ i h. omega (arith, d i, waiting-is s p t i h, timers-is s p t i);
        }

  -- the way back, from the survey to what the walks find
  module _ (v : Survey s (whole p)) where
    short : (l : ℕ) → l < list_count → length (get_or (whole p) l []) < most
    short l h =
        let r = holes entries (get_or (whole p) l []) (chain-below s l (get_or (whole p) l []) (v.chains l h))
        (λ x. omega (arith, total-one x (whole p) l, v.once x, small (ltb x entries))) in
        omega arith
      where
        small : (b : Bool) → bit b ≤ 1
        small true = omega arith
        small false = omega arith

    port-short : (i : ℕ) → i < files * places → length (get_or p.ports i []) < 2
    unfolding completed_at
    port-short i h = omega (arith, v.single i h, ap length (at-port p i h))

    survey-stands : ListsStand s p
    survey-stands = record {
      free = held free_list (λ e. free_entry s e ≡ true) p.free (at-free p) (omega arith) v.free;
      reads =
          at-lists (λ f. Holding s most (read_queue f) (ReadEntry s f)) files p.reads p.read_size
          (λ f h. held (read_queue f) (ReadEntry s f) (get_or p.reads f []) (at_read p f h) (omega arith) (v.reads f h));
      writes =
          at-lists (λ f. Holding s most (write_queue f) (WriteEntry s f)) files p.writes p.write_size
          (λ f h. held (write_queue f) (WriteEntry s f) (get_or p.writes f []) (at-write p f h) (omega arith) (v.writes f h));
      ports =
          at-lists (λ i. Holding s 2 (reply_port i) (PortEntry s i)) (files * places) p.ports p.port_size
          (λ i h. let r = held (reply_port i) (PortEntry s i) (get_or p.ports i []) (at-port p i h) (omega arith) (v.ports i h) in (port-short i h, r.1, r.2));
      timers = held timer_list (TimerEntry s) p.timers (at-timers p) (omega arith) v.timers;
      order = rw (at-timers p) at v.order;
    }
      where
        held : (l : ℕ) (Q : ℕ → Type 0) (xs : List ℕ) → get_or (whole p) l [] ≡ xs → l < list_count → Each Q (get_or (whole p) l []) → Holding s most l Q xs
        held l Q xs e h a = rw (← e) (short l h, v.chains l h, a)

    -- places from 64 on have nothing
    survey-single : (i : ℕ) → reads_of s p i + writes_of s p i + ports_of s p i ≤ 1
    survey-single i = go (dec_lt i (files * places))
      where
        t : ListsStand s p
        t = survey-stands

        go : Dec (i < files * places) → reads_of s p i + writes_of s p i + ports_of s p i ≤ 1
        go (yes h) = omega (arith, v.single i h, waiting-is s p t i h, completed-is s p t i h)
        go (no d) =
            omega (
              arith,
              below-count (files * places) i (owners s (flat p.reads)) (reads-below s p t) (omega arith),
              below-count (files * places) i (owners s (flat p.writes)) (writes_below s p t) (omega arith),
              below-count (files * places) i (owners s (flat p.ports)) (ports-below s p t) (omega arith),
            )

    survey-timed : (i : ℕ) → timers_of s p i ≤ reads_of s p i + writes_of s p i
    survey-timed i = go (dec_lt i (files * places))
      where
        t : ListsStand s p
        t = survey-stands

        go : Dec (i < files * places) → timers_of s p i ≤ reads_of s p i + writes_of s p i
        go (yes h) = omega (arith, v.timed i h, waiting-is s p t i h, timers-is s p t i)
        go (no d) = omega (arith, below-count (files * places) i (owners s p.timers) (timers-below s p t) (omega arith))

    survey-good : Good s idle p
    survey-good =
        let t = survey-stands in
        record {
          free = t.free;
          reads = (p.read_size, t.reads, reads-met s p t survey-single);
          writes = (p.write_size, t.writes, writes-met s p t survey-single);
          ports = (p.port_size, t.ports, ports-met s p t survey-single);
          timers = (t.timers, t.order, timers-met s p t survey-single survey-timed);
        }

    survey-once : Met 0 1 (blank entries) (flat (whole p)) × (all_met (marks 1 (blank entries) (flat (whole p))) entries ≡ true)
    survey-once = once-met entries (flat (whole p)) (entries_below survey-stands) (λ x. count-flat x (whole p) ∙ v.once x)

    survey-walks : all_walks s ≡ walked true (marks 1 (blank entries) (flat (whole p))) (past_timers s idle p)
    survey-walks = all-walks s ∙ walks-well s p (blank entries) idle survey-good survey-once.0

module _ (s : List ℕ) where
  -- what a result of the walks says
  says-well : (w : Walked) (seen busy : List ℕ) → w ≡ walked true seen busy → (w.ok ≡ true) × (w.seen ≡ seen)
  unfolding walked
  says-well w seen busy e = (ap (λ (u : Walked). u.ok) e, ap (λ (u : Walked). u.seen) e)

  yes-parts : (a : AllFound s (blank entries) idle (all_walks s)) → all_met (all_walks s).seen entries ≡ true → Survey s (whole a.parts)
  yes-parts a k =
      let (_, e) = says-well (all_walks s) (marks 1 (blank entries) (flat (whole a.parts))) (past_timers s idle a.parts) a.is in
      found-survey s a.parts a.good a.fresh (rw e at k)

  pub decides-yes : (all_walks s).ok ≡ true → all_met (all_walks s).seen entries ≡ true → (ls : List (List ℕ)) × Survey s ls
  decides-yes h k =
      let a = rw (← all-walks s) at (walks-found s (blank entries) idle (rw (all-walks s) at h)) in
      (whole a.parts, yes-parts a k)

  no-parts : (p : Parts) → Survey s (whole p) → ((all_walks s).ok ≡ true) × (all_met (all_walks s).seen entries ≡ true)
  no-parts p v =
      let (o, e) = says-well (all_walks s) (marks 1 (blank entries) (flat (whole p))) (past_timers s idle p) (survey-walks s p v) in
      (o, rw e (survey-once s p v).1)

  pub decides-no : (ls : List (List ℕ)) → Survey s ls → ((all_walks s).ok ≡ true) × (all_met (all_walks s).seen entries ≡ true)
  decides-no ls v = let (p, e) = split ls v.heads in no-parts p (rw e v)

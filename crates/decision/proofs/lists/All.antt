-- The walk of all lists goes well exactly where its five stages do, each with the marks that those before it left.
use Prim.Native.Nat.{ℕ, ◌*◌}
use mathlib.Core.Bool.{true}
use mathlib.Core.Path.{◌≡◌, refl, sym, ap, ◌∙◌}
use mathlib.Core.List.{List, ◌++◌}
use Rattle.rules.specs.Limits.{files, places, entries}
use Rattle.segment.specs.Layout.{free_list, timer_list}
use Rattle.sound.specs.Walks.{Walked, walked, and_then, free_walk, queue_walks, port_walks, timer_walk, all_walks}
use Rattle.decision.proofs.lists.Marks.{marks, Met, blank}
use Rattle.decision.proofs.lists.Stage.{stage_then}
use Rattle.decision.proofs.lists.Flat.{flat}
use Rattle.decision.proofs.lists.Walkers.{most}
use Rattle.decision.proofs.lists.Means.{owners}
use Rattle.decision.proofs.lists.Stages.{FreeOk, ReadsOk, WritesOk, PortsOk, TimersOk, free-found, reads-found, writes_found, ports-found, timers-found}
use Rattle.decision.proofs.lists.Parts.{Parts, whole, flat-whole}

-- the marks on places after each stage
module _ (s busy : List ℕ) (p : Parts) where
  abbrev pub past_reads : List ℕ
  past_reads = marks 1 busy (owners s (flat p.reads))

  abbrev pub past_writes : List ℕ
  past_writes = marks 1 past_reads (owners s (flat p.writes))

  abbrev pub past_ports : List ℕ
  past_ports = marks 2 past_writes (owners s (flat p.ports))

  abbrev pub past_timers : List ℕ
  past_timers = marks 3 past_ports (owners s p.timers)

pub record Good (s busy : List ℕ) (p : Parts) : Type 0 where
  pub free : FreeOk s busy p.free
  pub reads : ReadsOk s busy p.reads
  pub writes : WritesOk s (past_reads s busy p) p.writes
  pub ports : PortsOk s (past_writes s busy p) p.ports
  pub timers : TimersOk s (past_ports s busy p) p.timers

module _ (s : List ℕ) where
  -- all lists, with any marks to begin with
  unfoldable pub walks_from : List ℕ → List ℕ → Walked
  walks_from seen busy =
      and_then (free_walk s free_list seen busy most) (λ seen busy.
      and_then (queue_walks s 1 0 seen busy files) (λ seen busy.
      and_then (queue_walks s 2 0 seen busy files) (λ seen busy.
      and_then (port_walks s 0 seen busy (files * places)) (λ seen busy.
      timer_walk s 1 timer_list seen busy most))))

  pub record AllFound (seen busy : List ℕ) (w : Walked) : Type 0 where
    pub parts : Parts
    pub good : Good s busy parts
    pub fresh : Met 0 1 seen (flat (whole parts))
    pub is : w ≡ walked true (marks 1 seen (flat (whole parts))) (past_timers s busy parts)

  found-parts : (p : Parts) (seen busy : List ℕ) (w : Walked) → Good s busy p
      → Met 0 1 seen (p.free ++ (flat p.reads ++ (flat p.writes ++ (flat p.ports ++ p.timers))))
      → w ≡ walked true (marks 1 seen (p.free ++ (flat p.reads ++ (flat p.writes ++ (flat p.ports ++ p.timers))))) (past_timers s busy p)
      → AllFound seen busy w
  found-parts p seen busy w g m e = record {
    parts = p;
    good = g;
    fresh = rw (flat-whole p) m;
    is = e ∙ ap (λ (l : List ℕ). walked true (marks 1 seen l) (past_timers s busy p)) (sym (flat-whole p));
  }

  pub walks-found : (seen busy : List ℕ) → (walks_from seen busy).ok ≡ true → AllFound seen busy (walks_from seen busy)
  unfolding walks_from
  walks-found seen busy h =
      let st = stage_then (free-found s) (stage_then (reads-found s) (stage_then (writes_found s) (stage_then (ports-found s) (timers-found s)))) in
      let r = st.found seen busy h in
      let (fr, (rs, (ws, (ps, ts)))) = r.it in
      let (a, (b, (c, (d, e)))) = r.holds in
      found-parts (record { free = fr; reads = rs; writes = ws; ports = ps; timers = ts; read_size = b.0; write_size = c.0; port_size = d.0 }) seen busy
      (walks_from seen busy) (record { free = a; reads = b; writes = c; ports = d; timers = e }) r.fresh r.is

  pub walks-well : (p : Parts) (seen busy : List ℕ) → Good s busy p → Met 0 1 seen (flat (whole p))
      → walks_from seen busy ≡ walked true (marks 1 seen (flat (whole p))) (past_timers s busy p)
  unfolding walks_from
  walks-well p seen busy g m =
      let st = stage_then (free-found s) (stage_then (reads-found s) (stage_then (writes_found s) (stage_then (ports-found s) (timers-found s)))) in
      st.well (p.free, (p.reads, (p.writes, (p.ports, p.timers)))) seen busy (g.free, (g.reads, (g.writes, (g.ports, g.timers)))) (rw (flat-whole p) at m)
      ∙ ap (λ (l : List ℕ). walked true (marks 1 seen l) (past_timers s busy p)) (sym (flat-whole p))

-- the walks of all lists, beginning with no marks
pub all-walks : (s : List ℕ) → all_walks s ≡ walks_from s (blank entries) (blank (files * places))
unfolding all_walks walks_from blank
all-walks s = refl

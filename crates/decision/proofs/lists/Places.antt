-- The marks on places after each stage but the last, by counting: 1 for a request that waits, 2 for one completed.
use Prim.Native.Nat.{ℕ, ◌+◌, ◌*◌, ◌≤◌}
use mathlib.Core.Path.{◌≡◌}
use mathlib.Core.List.{List}
use native.Mathlib.Omega.{arith}
use lib.ListN.{length, get_or}
use Rattle.rules.specs.Limits.{files, places}
use Rattle.occurrences.proofs.Pigeons.{Below}
use Rattle.decision.proofs.lists.Flat.{flat}
use Rattle.decision.proofs.lists.Marks.{Met, length-marks, blank, length-blank, blank-at}
use Rattle.decision.proofs.lists.Tallied.{waiting-marks, marks-waiting, completed-marks, marks-completed, timer-marks, marks-timer}
use Rattle.decision.proofs.lists.Means.{owners}
use Rattle.decision.proofs.lists.Parts.{Parts}
use Rattle.decision.proofs.lists.All.{past_reads, past_writes, past_ports}
use Rattle.decision.proofs.lists.Stands.{ListsStand, reads_of, writes_of, ports_of, timers_of, reads-below, writes_below, ports-below, timers-below}

abbrev pub idle : List ℕ
idle = blank (files * places)

module _ (s : List ℕ) (p : Parts) (t : ListsStand s p) where
  below-idle : Below (length idle) (owners s (flat p.reads))
  below-idle = rw (length-blank (files * places)) (reads-below s p t)

  below-reads : Below (length (past_reads s idle p)) (owners s (flat p.writes))
  below-reads = rw (length-marks 0 1 idle (owners s (flat p.reads)), length-blank (files * places)) (writes_below s p t)

  below-writes : Below (length (past_writes s idle p)) (owners s (flat p.ports))
  below-writes =
      rw (length-marks 0 1 (past_reads s idle p) (owners s (flat p.writes)), length-marks 0 1 idle (owners s (flat p.reads)), length-blank (files * places)) (ports-below s p t)

  below-ports : Below (length (past_ports s idle p)) (owners s p.timers)
  below-ports =
      rw (
        length-marks 0 2 (past_writes s idle p) (owners s (flat p.ports)),
        length-marks 0 1 (past_reads s idle p) (owners s (flat p.writes)),
        length-marks 0 1 idle (owners s (flat p.reads)),
        length-blank (files * places),
      ) (timers-below s p t)

  -- what the marks are, if each was met as it should
  module _ (mr : Met 0 1 idle (owners s (flat p.reads))) where
    pub reads-counted : (i : ℕ) → (get_or (past_reads s idle p) i 0 ≡ reads_of s p i) × (reads_of s p i ≤ 1)
    reads-counted i =
        let r = waiting-marks idle (owners s (flat p.reads)) below-idle (λ j. 0) (λ j. (blank-at (files * places) j, omega arith)) mr i in
        (omega (arith, r), omega (arith, r))

    module _ (mw : Met 0 1 (past_reads s idle p) (owners s (flat p.writes))) where
      pub writes-counted : (i : ℕ) → (get_or (past_writes s idle p) i 0 ≡ reads_of s p i + writes_of s p i) × (reads_of s p i + writes_of s p i ≤ 1)
      writes-counted = waiting-marks (past_reads s idle p) (owners s (flat p.writes)) below-reads (reads_of s p) reads-counted mw

      module _ (mp : Met 0 2 (past_writes s idle p) (owners s (flat p.ports))) where
        pub ports-counted : (i : ℕ)
            → (get_or (past_ports s idle p) i 0 ≡ reads_of s p i + writes_of s p i + 2 * ports_of s p i) × (reads_of s p i + writes_of s p i + ports_of s p i ≤ 1)
        ports-counted = completed-marks (past_writes s idle p) (owners s (flat p.ports)) below-writes (λ i. reads_of s p i + writes_of s p i) writes-counted mp

        pub timers-counted : Met 1 3 (past_ports s idle p) (owners s p.timers) → (i : ℕ) → timers_of s p i ≤ reads_of s p i + writes_of s p i
        timers-counted = timer-marks (past_ports s idle p) (owners s p.timers) below-ports (λ i. reads_of s p i + writes_of s p i) (ports_of s p) ports-counted

  -- each is met as it should, by the numbers
  module _ (single : (i : ℕ) → reads_of s p i + writes_of s p i + ports_of s p i ≤ 1) where
    pub reads-met : Met 0 1 idle (owners s (flat p.reads))
    reads-met = marks-waiting idle (owners s (flat p.reads)) below-idle (λ j. 0) (blank-at (files * places)) (λ i. omega (arith, single i))

    pub writes-met : Met 0 1 (past_reads s idle p) (owners s (flat p.writes))
    writes-met =
        marks-waiting (past_reads s idle p) (owners s (flat p.writes)) below-reads (reads_of s p) (λ i. (reads-counted reads-met i).0) (λ i. omega (arith, single i))

    pub ports-met : Met 0 2 (past_writes s idle p) (owners s (flat p.ports))
    ports-met =
        marks-completed (past_writes s idle p) (owners s (flat p.ports)) below-writes (λ i. reads_of s p i + writes_of s p i) (λ i. (writes-counted reads-met writes-met i).0) single

    pub timers-met : ((i : ℕ) → timers_of s p i ≤ reads_of s p i + writes_of s p i) → Met 1 3 (past_ports s idle p) (owners s p.timers)
    timers-met =
        marks-timer (past_ports s idle p) (owners s p.timers) below-ports (λ i. reads_of s p i + writes_of s p i) (ports_of s p) (ports-counted reads-met writes-met ports-met)

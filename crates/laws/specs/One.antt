-- "One outstanding request per accessor, until collected."
use Rattle.std.specs.Prelude.{ℕ, ◌+◌, ◌≤◌}
use Rattle.rules.specs.State.{Built}
use Rattle.occurrences.specs.Count.{count}
use Rattle.laws.specs.Counts.{count_t}
use Rattle.laws.specs.Outstanding.{req_at, uncollected}

-- place x waits as a reader or as a writer, or has a completed request, or has none of these; a timer runs only where a request waits
pub record Single (b : Built) (x : ℕ) : Type 0 where
  pub one : count x b.rq + count x b.wq + uncollected (req_at b.accs x) ≤ 1
  pub timed : count_t x b.timers ≤ count x b.rq + count x b.wq

abbrev pub One : Built → Type 0
One b = (x : ℕ) → Single b x

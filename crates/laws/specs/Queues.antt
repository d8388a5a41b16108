-- Queues, timers and requests agree.
use Rattle.std.specs.Prelude.{◌≡◌, List, ℕ, ◌≤◌}
use Rattle.rules.specs.State.{Req, Timer, Built}
use Rattle.occurrences.specs.Count.{count}
use Rattle.laws.specs.Counts.{count_t}
use Rattle.laws.specs.Outstanding.{req_at, waits_read, waits_write, awaits}

-- place x, with the request q, is in a queue exactly when q waits there, and then once; it has a timer only if q waits, and at most one
pub record Queued (x : ℕ) (rq wq : List ℕ) (ts : List Timer) (q : Req) : Type 0 where
  pub reads : count x rq ≡ waits_read q
  pub writes : count x wq ≡ waits_write q
  pub times : count_t x ts ≤ awaits q

abbrev pub Agree : Built → Type 0
Agree b = (x : ℕ) → Queued x b.rq b.wq b.timers (req_at b.accs x)

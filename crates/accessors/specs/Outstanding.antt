-- What is outstanding at a place: as the segment's lists say, and as the rules have it.
use Rattle.std.specs.Prelude.{ℕ, ◌+◌, ◌*◌, cond, List, ltb, eqb}
use Rattle.rules.specs.Limits.{places, entries}
use Rattle.rules.specs.State.{Req, idle, reading, writing, read_done, write_done}
use Rattle.segment.specs.Layout.{read_queue, write_queue, reply_port}
use Rattle.segment.specs.Table.{nth}
use Rattle.ports.specs.Slots.{seek, has}
use Rattle.kinds.specs.declared.Outstanding.{Outstanding}
use Rattle.kinds.specs.declared.Outstanding.TheVariants.{Nothing, Waiting, Completed}

-- the queue of file f in which requests of the given side wait
abbrev pub queue_of : ℕ → ℕ → ℕ
queue_of f side = cond (eqb side 2) (write_queue f) (read_queue f)

-- what the lists show: completed if the reply port is not empty, waiting if the queue of its side has an entry of the place
unfoldable pub outstanding_at : List ℕ → ℕ → ℕ → ℕ → Outstanding
outstanding_at s f p side =
    cond (ltb (nth s (reply_port (places * f + p))) entries) Completed
    (cond (ltb (nth s (seek (has 0 (places * f + p)) s (queue_of f side) entries)) entries) Waiting Nothing)

-- what is outstanding of a request of the rules
unfoldable pub outstanding_of : Req → Outstanding
outstanding_of idle = Nothing
outstanding_of (reading q) = Waiting
outstanding_of (writing q) = Waiting
outstanding_of (read_done q) = Completed
outstanding_of (write_done q) = Completed

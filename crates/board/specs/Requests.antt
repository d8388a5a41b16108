-- What the board shows of an accessor's request, defined on the rules.
use Rattle.std.specs.Prelude.{ℕ, Bool, false, cond, List, [], ◌∷◌, eqb, length, Option, Some, None}
use Rattle.occurrences.specs.Count.{bit}
use Rattle.rules.specs.State.{Req, idle, reading, writing, read_done, write_done, Timer, Built}
use Rattle.notices.specs.declared.Request.{Request}
use Rattle.notices.specs.declared.Request.TheVariants.{Idle, Reads, Writes, HasRead, HasWritten}

-- what is left of the timeout of the request at a place, if it has one
unfoldable pub left_of : ℕ → List Timer → Option ℕ
left_of p [] = None
left_of p (t ∷ ts) = cond (eqb t.place p) (Some t.left) (left_of p ts)

-- whether a place is the first of a queue
unfoldable pub is_first : ℕ → List ℕ → Bool
is_first p [] = false
is_first p (x ∷ q) = eqb x p

-- a request as shown: a waiting read with the bytes that it asks for, a waiting write with the bytes of its data, a completed one with what it brings
unfoldable pub request_of : Built → ℕ → Req → Request
request_of b p idle = Idle
request_of b p (reading q) = Reads q.limit (left_of p b.timers) (bit (is_first p b.rq))
request_of b p (writing q) = Writes (length q.bytes) (left_of p b.timers) (bit (is_first p b.wq))
request_of b p (read_done q) = HasRead q.status (length q.bytes)
request_of b p (write_done q) = HasWritten q.status

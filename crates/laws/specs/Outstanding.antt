-- What is outstanding at a place: a request that waits, or is completed and not yet collected.
use Rattle.std.specs.Prelude.{List, ℕ, ◌+◌, get_or}
use Rattle.std.proofs.Math.Option.{Option, none, some}
use Rattle.rules.specs.State.{Req, idle, reading, writing, read_done, write_done, Acc}

-- the request of an accessor, idle if there is none; `req_at` is the request at a place
unfoldable pub req_of : Option Acc → Req
req_of none = idle
req_of (some a) = a.req

abbrev pub req_at : List (Option Acc) → ℕ → Req
req_at l x = req_of (get_or l x none)

-- 1 if a read waits; `waits_write`: 1 if a write waits; `uncollected`: 1 if a request is completed and not yet collected
unfoldable pub waits_read : Req → ℕ
waits_read idle = 0
waits_read (reading q) = 1
waits_read (writing q) = 0
waits_read (read_done q) = 0
waits_read (write_done q) = 0

unfoldable pub waits_write : Req → ℕ
waits_write idle = 0
waits_write (reading q) = 0
waits_write (writing q) = 1
waits_write (read_done q) = 0
waits_write (write_done q) = 0

unfoldable pub uncollected : Req → ℕ
uncollected idle = 0
uncollected (reading q) = 0
uncollected (writing q) = 0
uncollected (read_done q) = 1
uncollected (write_done q) = 1

-- 1 if a request waits; `outstanding`: 1 if a request is outstanding
abbrev pub awaits : Req → ℕ
awaits q = waits_read q + waits_write q

abbrev pub outstanding : Req → ℕ
outstanding q = awaits q + uncollected q

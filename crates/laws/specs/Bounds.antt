-- What a request holds fits its accessor's record buffer, a waiting write's data fit a record, and the status of a completed one is no refusal number.
use Rattle.std.specs.Prelude.{ℕ, ◌*◌, ◌≤◌, ◌<◌, length}
use Rattle.rules.specs.Limits.{buffer_bytes}
use Rattle.rules.specs.State.{Req, idle, reading, writing, read_done, write_done, Built}
use Rattle.laws.specs.Outstanding.{req_at}

-- the least refusal number; what a request completes with, 0, 2 or 22, is below it
abbrev pub least_refusal : ℕ
least_refusal = 29

unfoldable pub Bounded : ℕ → Req → Type 0
Bounded words idle = Unit {0}
Bounded words (reading q) = q.limit ≤ buffer_bytes
Bounded words (writing q) = length q.bytes ≤ 2 * words
Bounded words (read_done q) = (length q.bytes ≤ buffer_bytes) × (q.status < least_refusal)
Bounded words (write_done q) = q.status < least_refusal

abbrev pub Bounds : Built → Type 0
Bounds b = (x : ℕ) → Bounded b.geo.words (req_at b.accs x)

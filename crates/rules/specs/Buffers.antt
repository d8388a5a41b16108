-- The record buffer of an accessor, and the eight of a file.
use Rattle.std.specs.Prelude.{List, [], ◌++◌, ℕ, ◌-◌, ◌*◌, length}
use Rattle.std.proofs.lemmas.List.Edits.{sets}
use Rattle.words.specs.Word.{zeros}
use Rattle.rules.specs.Limits.{buffer_bytes}
use Rattle.rules.specs.State.{Req, idle, reading, writing, read_done, write_done}

-- "A completed read's record, or a waiting write's data, lies at the start of the accessor's buffer"
unfoldable pub lies : Req → List ℕ
lies idle = []
lies (reading q) = []
lies (writing q) = q.bytes
lies (read_done q) = q.bytes
lies (write_done q) = []

-- the buffer that d lies in, "which is otherwise zero"
unfoldable pub filled : List ℕ → List ℕ
filled d = d ++ zeros (buffer_bytes - length d)

-- the buffers of a file, where the request at place p is q now
unfoldable pub refilled : ℕ → Req → List ℕ → List ℕ
refilled p q xs = sets xs (buffer_bytes * p) (filled (lies q))

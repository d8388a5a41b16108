-- The bytes that no call reads, and that are zero on every desk reached from a fresh one: of a record buffer those after what lies there, of a share those
-- after the records of each block and after the last block; of a file that is not built the whole share and all buffers.
use Rattle.std.specs.Prelude.{ℕ, zero, suc, ◌+◌, ◌-◌, ◌*◌, Bool, true, ◌&&◌, List, length}
use Rattle.std.proofs.Math.Option.{Option}
use Rattle.words.specs.Word.{quiet}
use Rattle.rules.specs.Limits.{files, places, share_bytes, buffer_bytes}
use Rattle.rules.specs.State.{Acc, File, unbuilt, built}
use Rattle.rules.specs.Buffers.{lies}
use Rattle.rules.specs.Desk.{Desk, file_of}
use Rattle.rules.specs.Memories.{share_at}
use Rattle.shares.specs.Tails.{tails_zero}
use Rattle.laws.specs.Outstanding.{req_at}
use Rattle.memory.specs.Memories.{Memories}
use Rattle.memory.specs.Stands.{buffers_at}

-- whether the buffers of the first n places of a file are zero after what lies there
unfoldable pub rests_zero : List (Option Acc) → List ℕ → ℕ → Bool
rests_zero l xs zero = true
rests_zero l xs (suc n) =
    rests_zero l xs n && quiet xs (buffer_bytes * n + length (lies (req_at l n))) (buffer_bytes - length (lies (req_at l n)))

-- whether the share and the buffers of a file are so
unfoldable pub file_swept : File → List ℕ → List ℕ → Bool
file_swept unbuilt share buffers = quiet share 0 share_bytes && quiet buffers 0 (places * buffer_bytes)
file_swept (built b) share buffers = tails_zero b.geo share && rests_zero b.accs buffers places

-- whether those of the first n files are so
unfoldable pub files_swept : Desk → Memories → ℕ → Bool
files_swept d m zero = true
files_swept d m (suc n) = files_swept d m n && file_swept (file_of d n) (share_at n m.blocks) (buffers_at n m.buffers)

-- whether those of all files are so
unfoldable pub swept : Desk → Memories → Bool
swept d m = files_swept d m files

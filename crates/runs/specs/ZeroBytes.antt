-- The bytes that no call reads are zero after every run.
use Rattle.std.specs.Prelude.{ℕ, ◌*◌, ◌<◌, ◌≡◌, true}
use Rattle.rules.specs.Limits.{files, places}
use Rattle.rules.specs.Buffers.{lies, filled}
use Rattle.rules.specs.Desk.{Desk, file_of}
use Rattle.rules.specs.Memories.{share_at, buffer_at}
use Rattle.shares.specs.Tails.{tails_zero}
use Rattle.laws.specs.Runs.{OnFile}
use Rattle.laws.specs.Outstanding.{req_of}
use Rattle.memory.specs.Memories.{Memories}
use Rattle.memory.specs.Image.{place_acc}
use Rattle.memory.specs.Swept.{swept}

-- of a desk and its memories
pub record ZeroBytes (d : Desk) (m : Memories) : Type 0 where
  -- "A completed read's record, or a waiting write's data, lies at the start of the accessor's buffer, which is otherwise zero": at each of the 64 places
  pub buffers : (i : ℕ) → i < files * places → buffer_at i m.buffers ≡ filled (lies (req_of (place_acc d i)))
  -- "Build and load zero the share, and a block is zeroed again when its first record is put": after the records of each block, and after the last block
  pub tails : (f : ℕ) → f < files → OnFile (λ b. tails_zero b.geo (share_at f m.blocks) ≡ true) (file_of d f)
  -- and so are share and buffers of a file that is not built: the night board has nothing to say of such bytes
  pub all : swept d m ≡ true

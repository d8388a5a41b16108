-- The memories stand for a desk of the rules with an allocation of entries.
use Rattle.std.specs.Prelude.{ℕ, ◌*◌, ◌<◌, ◌≡◌, List, map, length, take, drop}
use Rattle.segment.specs.Layout.{list_count, row_count, row_at, row_width, segment_bytes}
use Rattle.segment.specs.Table.{row, data_of}
use Rattle.ports.specs.Lists.{Chain}
use Rattle.rules.specs.Limits.{files, places, share_bytes, buffer_bytes}
use Rattle.rules.specs.State.{File, unbuilt, built}
use Rattle.rules.specs.Desk.{Desk, file_of}
use Rattle.rules.specs.Memories.{share_at}
use Rattle.rules.specs.Allocation.{Alloc}
use Rattle.memory.specs.Memories.{Memories}
use Rattle.memory.specs.Image.{list_of, box_of, row_of}
use Rattle.words.specs.Word.{Bytes}

-- the segment stands for a desk and an allocation: each list leads through its entries, these hold what they should, and each row is as it should be
pub record Segment (xs : List ℕ) (d : Desk) (s : Alloc) : Type 0 where
  pub bytes : Bytes xs
  pub size : length xs ≡ segment_bytes
  pub chains : (l : ℕ) → l < list_count → Chain xs l (list_of d s l)
  pub boxes : (l : ℕ) → l < list_count → map (data_of xs) (list_of d s l) ≡ box_of d s l
  pub rows : (i : ℕ) → i < row_count → row xs (row_at i) (row_width i) ≡ row_of d i

-- The eight record buffers of file f.
unfoldable pub buffers_at : ℕ → List ℕ → List ℕ
buffers_at f xs = take (places * buffer_bytes) (drop (places * buffer_bytes * f) xs)

-- the share and the buffers are those of the file; nothing is asked if it is not built, since no call reads them then
unfoldable pub FileBytes : File → List ℕ → List ℕ → Type 0
FileBytes unbuilt share buffers = Unit {0}
FileBytes (built b) share buffers = (share ≡ b.store.share) × (buffers ≡ b.buffers)

pub record Bodies (m : Memories) (d : Desk) : Type 0 where
  pub blocks-bytes : Bytes m.blocks
  pub buffers-bytes : Bytes m.buffers
  pub blocks-size : length m.blocks ≡ share_bytes * files
  pub buffers-size : length m.buffers ≡ places * buffer_bytes * files
  pub each : (f : ℕ) → f < files → FileBytes (file_of d f) (share_at f m.blocks) (buffers_at f m.buffers)

-- the memories together stand for a desk and an allocation
pub record Stands (m : Memories) (d : Desk) (s : Alloc) : Type 0 where
  pub segment : Segment m.segment d s
  pub bodies : Bodies m d

-- The midst of a call of file f.
use Rattle.std.specs.Prelude.{ℕ, ◌*◌, ◌<◌, ◌≡◌, length}
use Rattle.segment.specs.Layout.{file_row}
use Rattle.rules.specs.Limits.{files, places, share_bytes, buffer_bytes}
use Rattle.rules.specs.State.{Built, File, built}
use Rattle.rules.specs.Memories.{share_at}
use Rattle.rules.specs.Desk.{Desk, with_file}
use Rattle.rules.specs.Allocation.{Alloc, allot_all}
use Rattle.laws.specs.Midst as laws
use Rattle.laws.specs.EightFiles.{EightFiles}
use Rattle.memory.specs.Memories.{Memories, memories}
use Rattle.memory.specs.Stands.{buffers_at}
use Rattle.midst.specs.declared.File as hand
use Rattle.midst.specs.File.{in_hand}
use Rattle.midst.specs.Seg.{Seg}

-- how the call began: the desk, the allocation and the memories
pub record Start : Type 0 where
  pub desk : Desk
  pub alloc : Alloc
  pub memories : Memories

-- shares and buffers of all files but f are as they were
pub record Apart (f : ℕ) (m m' : Memories) : Type 0 where
  pub shares : (g : ℕ) → g < files → (g ≡ f → ⊥) → share_at g m'.blocks ≡ share_at g m.blocks
  pub others : (g : ℕ) → g < files → (g ≡ f → ⊥) → buffers_at g m'.buffers ≡ buffers_at g m.buffers

abbrev pub start : Desk → Alloc → Memories → Start
start d s m = record { desk = d; alloc = s; memories = m }

-- the memories, with the file x in hand, stand for the desk with b as its file f, and I holds of b
pub record Mid (I : Built → Type 0) (f : ℕ) (o : Start) (m : Memories) (x : hand.File) (b : Built) : Type 0 where
  pub file : f < files
  pub eight : EightFiles o.desk
  pub good : I b
  pub allots : laws.Mid f o.alloc b
  pub segment : Seg m.segment (with_file o.desk f (built b)) (allot_all f b.past o.alloc) (file_row f)
  pub row : x ≡ in_hand b
  pub share : share_at f m.blocks ≡ b.store.share
  pub buffer : buffers_at f m.buffers ≡ b.buffers
  pub blocks-size : length m.blocks ≡ share_bytes * files
  pub buffers-size : length m.buffers ≡ places * buffer_bytes * files
  pub apart : Apart f o.memories m

-- What determines the bytes beside `Stands`: each entry is on some list, and the share and the buffers of a file that is not built are known.
use Rattle.std.specs.Prelude.{ℕ, ◌*◌, ◌≤◌, ◌<◌, ◌≡◌, ltb}
use Rattle.words.specs.Word.{zeros}
use Rattle.occurrences.specs.Count.{bit, count, total}
use Rattle.segment.specs.Layout.{list_count}
use Rattle.rules.specs.Limits.{files, places, entries, share_bytes, buffer_bytes}
use Rattle.rules.specs.State.{unbuilt}
use Rattle.rules.specs.Desk.{Desk, file_of}
use Rattle.rules.specs.Allocation.{Alloc}
use Rattle.rules.specs.Memories.{share_at}
use Rattle.memory.specs.Memories.{Memories}
use Rattle.memory.specs.Image.{list_of, lists_of}
use Rattle.memory.specs.Stands.{buffers_at}

-- each entry is on some list
abbrev pub Covers : Desk → Alloc → Type 0
Covers d s = (e : ℕ) → e < entries → (l : ℕ) × (l < list_count) × (1 ≤ count e (list_of d s l))

-- "Each ten-word entry is always on exactly one list"
abbrev pub Once : Desk → Alloc → Type 0
Once d s = (x : ℕ) → total x (lists_of d s) ≡ bit (ltb x entries)

-- two memories agree in the share and the buffers of every file that is not built
abbrev pub Alike : Desk → Memories → Memories → Type 0
Alike d m m' =
    (f : ℕ) → f < files → file_of d f ≡ unbuilt → (share_at f m.blocks ≡ share_at f m'.blocks) × (buffers_at f m.buffers ≡ buffers_at f m'.buffers)

-- the share and the buffers of every file that is not built are zero, as in every run from a fresh desk
abbrev pub Blank : Desk → Memories → Type 0
Blank d m =
    (f : ℕ) → f < files → file_of d f ≡ unbuilt → (share_at f m.blocks ≡ zeros share_bytes) × (buffers_at f m.buffers ≡ zeros (places * buffer_bytes))

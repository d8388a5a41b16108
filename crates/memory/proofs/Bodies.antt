-- A desk determines the bytes of blocks and buffers, except for those of files that are not built.
use Prim.Native.Nat.{ℕ, ◌*◌, ◌<◌}
use mathlib.Core.Path.{◌≡◌, refl, sym, ◌∙◌}
use mathlib.Core.List.{List}
use Rattle.words.specs.Word.{zeros}
use Rattle.rules.specs.Limits.{files, places, share_bytes, buffer_bytes}
use Rattle.rules.specs.State.{File, unbuilt, built}
use Rattle.rules.specs.Desk.{Desk, file_of}
use Rattle.rules.specs.Memories.{share_at, share_of, blocks, buffers_of, buffers}
use Rattle.memory.specs.Memories.{Memories}
use Rattle.memory.specs.Stands.{buffers_at, FileBytes, Bodies}
use Rattle.memory.specs.Covers.{Alike, Blank}
use Rattle.memory.proofs.Parts.{part, parts_all, parts_same}

-- two memories for one desk

file-same : (x : File) (s b s' b' : List ℕ) → FileBytes x s b → FileBytes x s' b' → (x ≡ unbuilt → (s ≡ s') × (b ≡ b')) → (s ≡ s') × (b ≡ b')
unfolding FileBytes
file-same unbuilt s b s' b' h k u = u refl
file-same (built c) s b s' b' h k u = (h.0 ∙ sym k.0, h.1 ∙ sym k.1)

pub bodies-same : (d : Desk) (m m' : Memories) → Bodies m d → Bodies m' d → Alike d m m' → (m.blocks ≡ m'.blocks) × (m.buffers ≡ m'.buffers)
unfolding part buffers_at
bodies-same d m m' S T h = (
  parts_same share_bytes files m.blocks m'.blocks S.blocks-size T.blocks-size (λ f k. (each f k).0),
  parts_same (places * buffer_bytes) files m.buffers m'.buffers S.buffers-size T.buffers-size (λ f k. (each f k).1),
)
  where
    each : (f : ℕ) → f < files → (share_at f m.blocks ≡ share_at f m'.blocks) × (buffers_at f m.buffers ≡ buffers_at f m'.buffers)
    each f k = file-same (file_of d f) _ _ _ _ (S.each f k) (T.each f k) (h f k)

-- the bytes of files that are not built zero: exactly the rules' bytes

pub file-blank : (x : File) (s b : List ℕ) → FileBytes x s b → (x ≡ unbuilt → (s ≡ zeros share_bytes) × (b ≡ zeros (places * buffer_bytes))) → (s ≡ share_of x) × (b ≡ buffers_of x)
unfolding FileBytes share_of buffers_of
file-blank unbuilt s b h u = u refl
file-blank (built c) s b h u = h

pub bodies-are : (d : Desk) (m : Memories) → Bodies m d → Blank d m → (m.blocks ≡ blocks d) × (m.buffers ≡ buffers d)
unfolding part buffers_at blocks buffers
bodies-are d m S h = (
  parts_all share_bytes files m.blocks (λ f. share_of (file_of d f)) S.blocks-size (λ f k. (each f k).0),
  parts_all (places * buffer_bytes) files m.buffers (λ f. buffers_of (file_of d f)) S.buffers-size (λ f k. (each f k).1),
)
  where
    each : (f : ℕ) → f < files → (share_at f m.blocks ≡ share_of (file_of d f)) × (buffers_at f m.buffers ≡ buffers_of (file_of d f))
    each f k = file-blank (file_of d f) _ _ (S.each f k) (h f k)

-- The exact bytes of blocks and record buffers.
use Rattle.std.specs.Prelude.{List, [], ◌++◌, ℕ, zero, suc, ◌*◌}
use Rattle.words.specs.Word.{zeros, part}
use Rattle.rules.specs.Limits.{files, places, share_bytes, buffer_bytes}
use Rattle.rules.specs.State.{File, unbuilt, built}
use Rattle.rules.specs.Desk.{Desk, file_of}

-- "blocks (eight shares of 4,096 bytes)": a file's share, starting at 4,096 × file
unfoldable pub share_of : File → List ℕ
share_of unbuilt = zeros share_bytes
share_of (built b) = b.store.share

-- The share of file f in a blocks memory.
abbrev pub share_at : ℕ → List ℕ → List ℕ
share_at f xs = part share_bytes f xs

-- g 0, g 1, .., one after another
unfoldable pub parts : ℕ → (ℕ → List ℕ) → List ℕ
parts zero g = []
parts (suc m) g = g 0 ++ parts m (λ f. g (suc f))

unfoldable pub blocks : Desk → List ℕ
blocks d = parts files (λ f. share_of (file_of d f))

-- "64 record buffers of 260 bytes, one an accessor place", each starting at 260 × (8 × file + place): the buffer of place i of the desk
abbrev pub buffer_at : ℕ → List ℕ → List ℕ
buffer_at i xs = part buffer_bytes i xs

unfoldable pub buffers_of : File → List ℕ
buffers_of unbuilt = zeros (places * buffer_bytes)
buffers_of (built b) = b.buffers

unfoldable pub buffers : Desk → List ℕ
buffers d = parts files (λ f. buffers_of (file_of d f))

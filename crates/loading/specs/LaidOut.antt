-- The bytes of a loaded file.
use Rattle.std.specs.Prelude.{ℕ, ◌*◌}
use Rattle.std.proofs.lemmas.List.Edits.{sets}
use Rattle.words.specs.Word.{zeros}
use Rattle.rules.specs.Limits.{places, share_bytes, buffer_bytes}
use Rattle.rules.specs.State.{Built, built}
use Rattle.ring.specs.declared.Ring.{Ring}
use Rattle.reader.specs.declared.Head.{Head}
use Rattle.midst.specs.declared.File.{File}
use Rattle.segment.specs.Layout.{file_row_at}
use Rattle.segment.specs.Table.{fill}
use Rattle.memory.specs.Memories.{Memories}
use Rattle.memory.specs.Image.{file_words}

-- the empty ring of a sheet's head
abbrev pub ring_of_head : Head → Ring
ring_of_head h = record { factor = h.factor; blocks = h.blocks; block = 0; spent = 0; held = 0 }

-- the file of a sheet's head, with no record
abbrev pub file_of_head : Head → File
file_of_head h = record { words = h.words; ring = ring_of_head h }

-- the memories m, but with the row, share and record buffers of b, which has no accessor, as those of file f
unfoldable pub laid_out : ℕ → Built → Memories → Memories
laid_out f b m =
    record {
      segment = fill m.segment (file_row_at f) (file_words (built b));
      blocks = sets m.blocks (share_bytes * f) b.store.share;
      buffers = sets m.buffers (places * buffer_bytes * f) (zeros (places * buffer_bytes));
    }

use Rattle.words.proofs.Parts.{span, part-lent}
use Rattle.rules.proofs.Buffers.{length-filled}
use Rattle.buffers.specs.Buffer.{buffer_count}
use Rattle.buffers.proofs.fill_at.Goals as goal

pub returns : goal.returns
returns c =
    rw span
    (part-lent _ _ _ _ buffer_count _ c.told-buffers c.requires.0 (length-filled _ c.requires.1)
    c.fill.ensures)

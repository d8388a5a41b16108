use Rattle.words.proofs.Parts.{span, part-lent}
use Rattle.words.proofs.Runs.{length-zeros}
use Rattle.rules.specs.Limits.{buffer_bytes}
use Rattle.buffers.specs.Buffer.{buffer_count}
use Rattle.buffers.proofs.clear_at.Goals as goal

pub returns : goal.returns
returns c =
    rw span
    (part-lent _ _ _ _ buffer_count _ c.told-buffers c.requires (length-zeros buffer_bytes)
    c.clear.ensures)

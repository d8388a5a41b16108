use Rattle.rules.specs.Sheet.{head_frame}
use Rattle.saving.proofs.writing.head_frame.Goals as goal

pub returns : goal.returns
unfolding head_frame
returns c =
    rw (c.put-3.ensures, c.put-2.ensures, c.put.ensures)

use native.Mathlib.Omega.{arith}
use Rattle.texts.proofs.Runs.{◌then◌, put-within}
use Rattle.notices.specs.Lines.{geometry_line}
use Rattle.notices.proofs.put_geometry.Goals as goal

pub returns : goal.returns
unfolding geometry_line
returns c =
    put-within _ (omega arith) (c.put_size-a.ensures then c.put_blocks.ensures)

use native.Mathlib.Omega.{arith}
use Rattle.texts.proofs.Runs.{◌then◌, put-within}
use Rattle.notices.specs.Lines.{held_line}
use Rattle.notices.proofs.put_held.Goals as goal

pub returns : goal.returns
unfolding held_line
returns c =
    put-within _ (omega arith) (c.put_records-a.ensures then c.put_room.ensures)

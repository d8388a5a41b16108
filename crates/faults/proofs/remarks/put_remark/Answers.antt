use Rattle.texts.proofs.Runs.{put-none}
use Rattle.faults.specs.Remarks.{remark}
use Rattle.faults.proofs.remarks.put_remark.Goals as goal

pub returns-in_default : goal.returns-in_default
unfolding remark
returns-in_default c = rw c.in_default.is (put-none _)

pub returns-then-is_told : goal.returns-then-is_told
unfolding remark
returns-then-is_told c = rw (c.in-Some.is, ← c.is_told.ensures, c.if-is_told.true) (put-none _)

pub returns : goal.returns
unfolding remark
returns c = rw (c.in-Some.is, ← c.is_told.ensures, c.if-is_told.false, ← c.next_line.ensures) c.put_line.ensures

use Rattle.notices.specs.Lines.{lf, request_line}
use Rattle.texts.specs.Spell.{spell}
use Rattle.texts.proofs.Runs.{◌then◌, put-none, put-within}
use native.Mathlib.Omega.{arith}
use Rattle.notices.proofs.put_request.Goals as goal

pub returns-in-Idle : goal.returns-in-Idle
unfolding request_line
returns-in-Idle c =
    rw c.in-Idle.is (put-none _)

pub returns-in-Reads : goal.returns-in-Reads
unfolding request_line spell lf
returns-in-Reads c =
    rw c.in-Reads.is (put-within _ (omega arith) (c.put_text-a.ensures then c.put_waiting.ensures))

pub returns-in-Writes : goal.returns-in-Writes
unfolding request_line spell lf
returns-in-Writes c =
    rw c.in-Writes.is (put-within _ (omega arith) (c.put_text-a-in-Writes.ensures then c.put_waiting-in-Writes.ensures))

pub returns-in-HasRead : goal.returns-in-HasRead
unfolding request_line spell lf
returns-in-HasRead c =
    rw c.in-HasRead.is (put-within _ (omega arith) (c.put_text-a-in-HasRead.ensures then c.put_read-b.ensures then c.put_text.ensures))

pub returns-in-HasWritten : goal.returns-in-HasWritten
unfolding request_line spell lf
returns-in-HasWritten c =
    rw c.in-HasWritten.is (put-within _ (omega arith) (c.put_text-a-in-HasWritten.ensures then c.put_written-b.ensures then c.put_text-in-HasWritten.ensures))

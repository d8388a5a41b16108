use Rattle.notices.specs.Lines.{status_text}
use Rattle.texts.specs.Spell.{spell}
use Rattle.texts.proofs.Runs.{◌then◌, put-within}
use borrow.Author.Tests.{eq-eqb, ne_eqb}
use native.Mathlib.Omega.{arith}
use Rattle.notices.proofs.put_status.Goals as goal

pub returns-then-status-eq-ENDED : goal.returns-then-status-eq-ENDED
unfolding status_text spell
returns-then-status-eq-ENDED c =
    rw (eq-eqb _ _ c.if-status-eq-ENDED.true) (put-within 12 (omega arith) c.put_text.ensures)

pub returns-then-status-eq-LATE : goal.returns-then-status-eq-LATE
unfolding status_text spell
returns-then-status-eq-LATE c =
    rw (ne_eqb _ _ c.if-status-eq-ENDED.false, eq-eqb _ _ c.if-status-eq-LATE.true) (put-within 12 (omega arith) c.put_text-then-status-eq-LATE.ensures)

pub returns : goal.returns
unfolding status_text spell
returns c =
    rw (ne_eqb _ _ c.if-status-eq-ENDED.false, ne_eqb _ _ c.if-status-eq-LATE.false) (c.put_text-a.ensures then c.put_number.ensures)

use Rattle.notices.specs.Lines.{read_text}
use Rattle.texts.specs.Spell.{spell}
use Rattle.texts.proofs.Runs.{◌then◌, put-within}
use borrow.Author.Tests.{eq-eqb, ne_eqb}
use native.Mathlib.Omega.{arith}
use Rattle.notices.proofs.put_read.Goals as goal

pub returns-then-status-eq0 : goal.returns-then-status-eq0
unfolding read_text spell
returns-then-status-eq0 c =
    rw (eq-eqb _ _ c.if-status-eq0.true) (c.put_text-a.ensures then c.put_counted.ensures)

pub returns : goal.returns
unfolding read_text
returns c =
    rw (ne_eqb _ _ c.if-status-eq0.false) (put-within 19 (omega arith) c.put_status.ensures)

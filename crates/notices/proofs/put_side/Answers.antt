use Rattle.notices.specs.Lines.{side_text}
use Rattle.texts.specs.Spell.{spell}
use Rattle.texts.proofs.Runs.{◌then◌, put-within}
use borrow.Author.Tests.{eq-eqb, ne_eqb}
use native.Mathlib.Omega.{arith}
use Rattle.notices.proofs.put_side.Goals as goal

pub returns-then-row-eq-WRITER : goal.returns-then-row-eq-WRITER
unfolding side_text spell
returns-then-row-eq-WRITER c =
    rw (eq-eqb _ _ c.if-row-eq-WRITER.true) (put-within 37 (omega arith) (c.put_text-a.ensures then c.put_number.ensures))

pub returns : goal.returns
unfolding side_text spell
returns c =
    rw (ne_eqb _ _ c.if-row-eq-WRITER.false) (c.put_text-a-2.ensures then c.put_if-b.ensures then c.put_if.ensures)

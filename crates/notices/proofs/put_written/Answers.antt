use Rattle.notices.specs.Lines.{written_text}
use Rattle.texts.specs.Spell.{spell}
use Rattle.texts.proofs.Runs.{put-within}
use borrow.Author.Tests.{eq-eqb, ne_eqb}
use native.Mathlib.Omega.{arith}
use Rattle.notices.proofs.put_written.Goals as goal

pub returns-then-status-eq0 : goal.returns-then-status-eq0
unfolding written_text spell
returns-then-status-eq0 c =
    rw (eq-eqb _ _ c.if-status-eq0.true) (put-within 12 (omega arith) c.put_text.ensures)

pub returns : goal.returns
unfolding written_text
returns c =
    rw (ne_eqb _ _ c.if-status-eq0.false) c.put_status.ensures

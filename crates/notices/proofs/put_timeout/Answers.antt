use Rattle.notices.specs.Lines.{timeout_text}
use Rattle.texts.specs.Spell.{spell}
use Rattle.texts.proofs.Runs.{◌then◌, put-none}
use borrow.Author.Tests.{eq-eqb, ne_eqb}
use Rattle.notices.proofs.put_timeout.Goals as goal

pub returns-then-seconds-eq0 : goal.returns-then-seconds-eq0
unfolding timeout_text
returns-then-seconds-eq0 c = rw (eq-eqb _ _ c.if-seconds-eq0.true) (put-none 17)

pub returns : goal.returns
unfolding timeout_text spell
returns c =
    rw (ne_eqb _ _ c.if-seconds-eq0.false) (c.put_text-a.ensures then c.put_number-b.ensures then c.put_text.ensures)

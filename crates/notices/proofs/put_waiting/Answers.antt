use native.Mathlib.Omega.{arith}
use Rattle.texts.specs.Spell.{spell}
use Rattle.texts.proofs.Runs.{◌then◌, put-within}
use Rattle.notices.specs.Lines.{lf, first_text}
use Rattle.notices.proofs.put_waiting.Goals as goal

pub returns : goal.returns
unfolding spell lf first_text
returns c =
    put-within _ (omega arith) (c.put_counted-a.ensures then c.put_left-b.ensures then c.put_if-c.ensures then c.put_text.ensures)

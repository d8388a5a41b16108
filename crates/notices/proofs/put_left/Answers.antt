use Rattle.notices.specs.Lines.{left_text}
use Rattle.texts.specs.Spell.{spell}
use Rattle.texts.proofs.Runs.{◌then◌, put-within}
use native.Mathlib.Omega.{arith}
use Rattle.notices.proofs.put_left.Goals as goal

pub returns-in-None : goal.returns-in-None
unfolding left_text spell
returns-in-None c =
    rw c.in-None.is (put-within 14 (omega arith) c.put_text.ensures)

pub returns-in-Some : goal.returns-in-Some
unfolding left_text spell
returns-in-Some c =
    rw c.in-Some.is (c.put_text-a.ensures then c.put_number-b.ensures then c.put_text-in-Some.ensures)

use Rattle.texts.proofs.Runs.{◌then◌}
use Rattle.texts.specs.Spell.{spell}
use Rattle.notices.specs.Lines.{who_text}
use Rattle.notices.proofs.put_who.Goals as goal

pub returns : goal.returns
unfolding who_text spell
returns c =
    c.put_text-a.ensures then c.put_digit-b.ensures then c.put_text-c.ensures then c.put_side.ensures

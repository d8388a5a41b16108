use Rattle.texts.proofs.Runs.{◌then◌}
use Rattle.texts.specs.Spell.{spell}
use Rattle.notices.specs.Lines.{held_text}
use Rattle.notices.proofs.put_records.Goals as goal

pub returns : goal.returns
unfolding held_text spell
returns c =
    c.put_text-a.ensures then c.put_counted-b.ensures then c.put_text.ensures

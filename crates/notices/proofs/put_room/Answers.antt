use Rattle.texts.proofs.Runs.{◌then◌}
use Rattle.texts.specs.Spell.{spell}
use Rattle.notices.specs.Lines.{room_text}
use Rattle.notices.proofs.put_room.Goals as goal

pub returns : goal.returns
unfolding room_text spell
returns c =
    c.put_counted-a.ensures then c.put_text-b.ensures then c.put_number-c.ensures then c.put_text.ensures

use Rattle.texts.specs.Spell.{spell}
use Rattle.texts.proofs.Runs.{◌then◌, put_as, put-within}
use Rattle.faults.specs.Remarks.{reason_room, remark_line}
use Rattle.faults.proofs.remarks.put_line.Goals as goal

pub returns : goal.returns
unfolding remark_line spell
returns c =
    c.put_text-a.ensures
    then c.put_decimal-b.ensures
    then c.put_text-c.ensures
    then put-within reason_room c.reason.ensures.short (put_as c.reason.ensures.text c.put_text-d.ensures)
    then c.put_text.ensures

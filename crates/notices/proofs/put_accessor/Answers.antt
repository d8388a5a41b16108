use Rattle.texts.proofs.Runs.{◌then◌}
use Rattle.notices.specs.Lines.{accessor_line, row_line}
use Rattle.notices.proofs.put_accessor.Goals as goal

pub returns : goal.returns
unfolding row_line accessor_line
returns c =
    c.put_who-a.ensures then c.put_settings.ensures

use Rattle.texts.proofs.Runs.{◌then◌}
use Rattle.texts.specs.Spell.{spell}
use Rattle.notices.specs.Lines.{lf, settings_text}
use Rattle.notices.proofs.put_settings.Goals as goal

pub returns : goal.returns
unfolding settings_text spell lf
returns c =
    c.put_timeout-a.ensures then c.put_if-b.ensures then c.put_text.ensures

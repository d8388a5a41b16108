use Rattle.texts.proofs.Runs.{◌then◌}
use Rattle.texts.specs.Spell.{spell}
use Rattle.notices.specs.Lines.{lf, blocks_text}
use Rattle.notices.proofs.put_blocks.Goals as goal

pub returns : goal.returns
unfolding blocks_text lf spell
returns c =
    c.put_counted-a.ensures then c.put_text-b.ensures then c.put_counted-c.ensures then c.put_text.ensures

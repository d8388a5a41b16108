use mathlib.Core.Path.{◌∙◌}
use Rattle.words.proofs.Parts.{part-back, span}
use Rattle.words.proofs.store_run.Goals as goal

pub returns : goal.returns
returns g c =
    rw (span, c.copy_from_slice-2.ensures.after ∙ c.copy_from_slice.ensures.after) (part-back c.args.s.now c.args.from.now c.args.at g.row.N c.requires.0 c.requires.1)

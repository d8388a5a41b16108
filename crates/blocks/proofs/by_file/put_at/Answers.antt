use mathlib.Core.Path.{◌∙◌}
use Rattle.words.proofs.Parts.{span, length_part, part-lent}
use Rattle.blocks.proofs.by_file.Laws.{length-inscribed}
use Rattle.blocks.proofs.by_file.put_at.Goals as goal

pub put-requires-clause-ready : goal.put-requires-clause-ready
put-requires-clause-ready c =
    rw span c.requires.ready

pub returns-clause-blocks : goal.returns-clause-blocks
returns-clause-blocks c =
    rw span
    (part-lent _ _ _ _ 8 _ c.told-blocks c.requires.f_lt_files
    (length-inscribed _ _ _ _ ∙ length_part _ _ 8 _ c.told-blocks c.requires.f_lt_files)
    (rw span at c.put.ensures.share))

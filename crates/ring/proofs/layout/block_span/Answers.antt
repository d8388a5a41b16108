use Rattle.ring.proofs.layout.Laws.{span-inside}
use Rattle.ring.proofs.layout.block_span.Goals as goal

pub returns-clause-inside : goal.returns-clause-inside
returns-clause-inside c =
    span-inside _ c.requires.0.sized _ _ c.block_size.ensures.value c.requires.1

use Rattle.blocks.proofs.quick.Laws.{skipped-one}
use Rattle.blocks.proofs.quick.bare_first.Goals as goal

pub loop-k-preserved : goal.loop-k-preserved
loop-k-preserved c =
    skipped-one _ _ _ _ c.loop-k-test.true (c.bare.ensures c.if-not-bare.false) c.loop-k.invariant

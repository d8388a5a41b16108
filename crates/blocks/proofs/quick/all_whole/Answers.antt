use native.Mathlib.Omega.{arith}
use borrow.Author.Tests.{ltb-true}
use Rattle.blocks.proofs.quick.Laws.{passed-one, passed-all}
use Rattle.blocks.proofs.quick.all_whole.Goals as goal

pub loop-preserved : goal.loop-preserved
loop-preserved c =
    rw c.min-least.ensures
    (passed-one _ _ _ _ _ _ _ _ _ _ _ c.requires.1 c.loop-test.true (omega (arith, c.swap_bytes.ensures)) c.four.ensures.value c.four.ensures.ranges.0 c.four.ensures.ranges.1
    c.two.ensures.0 c.loop.invariant)

pub returns-then-all-eq0 : goal.returns-then-all-eq0
returns-then-all-eq0 c = λ h. passed-all _ _ _ _ _ _ _ _ c.loop-test.false c.loop.auto.counter-end c.if-all-eq0.true (ltb-true _ _ h) c.loop.invariant

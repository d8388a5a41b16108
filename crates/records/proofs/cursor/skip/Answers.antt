use native.Mathlib.Omega.{arith}
use Rattle.records.proofs.cursor.Laws.{passed-under, passed_on, passed-all}
use Rattle.records.proofs.cursor.skip.Goals as goal

pub next-p-requires : goal.next-p-requires
next-p-requires c =
    let (e, low, behind) = c.requires.1 in
    let stands = passed-under _ _ _ _ _ c.loop.invariant.passed c.loop-test.true e behind in
    omega arith

pub loop-preserved : goal.loop-preserved
loop-preserved c =
    let (e, low, behind) = c.requires.1 in
    let stands = passed-under _ _ _ _ _ c.loop.invariant.passed c.loop-test.true e behind in
    record {
      passed = passed_on _ _ _ _ _ c.loop.invariant.passed c.loop-test.true _ c.next-p.ensures.value;
      low = omega arith;
    }

pub returns : goal.returns
returns c = passed-all _ _ _ _ _ c.loop.invariant.passed c.loop-test.false

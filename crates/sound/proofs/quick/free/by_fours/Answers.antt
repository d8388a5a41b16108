use Prim.Native.Nat.{◌-◌}
use mathlib.Core.Path.{◌∙◌}
use native.Mathlib.Omega.{arith}
use Rattle.sound.proofs.quick.Ends.{ends-four, fewer-ends}
use Rattle.sound.proofs.quick.free.by_fours.Goals as goal

pub loop-last-preserved : goal.loop-last-preserved
loop-last-preserved c =
    let t = c.loop-last-test.true in
    let k = c.four_linked.ensures c.if-four_linked-ne0.false in (
      omega arith,
      omega arith,
      omega arith,
      c.loop-last.invariant.3
          ∙ ends-four _ _ _ _ c.loop-last.invariant.2 k.0 k.1 k.2 k.3 (omega arith) (omega arith)
          ∙ fewer-ends _ _ _ _ (omega arith),
    )

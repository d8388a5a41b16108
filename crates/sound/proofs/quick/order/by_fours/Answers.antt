use mathlib.Core.Path.{◌∙◌}
use native.Mathlib.Omega.{arith}
use Prim.Native.Nat.{◌-◌}
use Rattle.sound.proofs.quick.Onward.{onto-four, fewer}
use Rattle.sound.proofs.quick.order.by_fours.Goals as goal

pub loop-last-preserved : goal.loop-last-preserved
loop-last-preserved c =
    let t = c.loop-last-test.true in
    let k = c.four_linked.ensures c.if-four_linked-ne0.false in
    let m = c.four_marks.ensures c.if-four_marks-ne0.false in (
      omega arith,
      omega arith,
      omega arith,
      λ b.
          c.loop-last.invariant.3 b
          ∙ onto-four _ _ b _ _ _ c.loop-last.invariant.2 k.0 k.1 k.2 k.3 m.0 m.1 m.2 m.3 (omega arith)
          (omega arith)
          ∙ fewer _ _ b _ _ _ (omega arith),
    )

use mathlib.Core.Path.{refl, ◌∙◌}
use native.Mathlib.Omega.{arith}
use Rattle.sound.proofs.quick.Onward.{onto, fewer}
use Rattle.sound.proofs.quick.order.by_one.Goals as goal

pub returns : goal.returns
returns c = (
  omega arith,
  omega arith,
  omega arith,
  λ b.
      onto _ _ b _ _ _ _ refl refl (c.linked.ensures c.if-linked-ne0.false) c.if-seen-e-ne0.false
      (omega arith) (omega arith)
      ∙ fewer _ _ b _ _ _ (omega arith),
)

use Rattle.words.proofs.Ors.{or_left, or_right}
use Rattle.sound.proofs.quick.Onward.{four-of-two}
use Rattle.sound.proofs.quick.order.four_linked.Goals as goal

pub returns : goal.returns
returns c =
    λ h. four-of-two _ _ _ (c.two_linked.ensures (or_left c.two_linked.result c.two_linked-2.result h)) (c.two_linked-2.ensures (or_right c.two_linked.result c.two_linked-2.result h))

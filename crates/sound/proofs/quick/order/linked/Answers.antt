use Rattle.sound.proofs.quick.Onward.{led-twenty}
use Rattle.sound.proofs.quick.order.linked.Goals as goal

pub returns : goal.returns
returns c =
    λ h.
    led-twenty _ _ c.eight.result c.eight-2.result c.four.result _
    c.eight.ensures.1 c.eight-2.ensures.0 c.four.ensures.0 c.requires.1 h

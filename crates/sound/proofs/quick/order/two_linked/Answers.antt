use Rattle.sound.proofs.quick.Onward.{led-forty}
use Rattle.sound.proofs.quick.order.two_linked.Goals as goal

pub returns : goal.returns
returns c =
    λ h.
    led-forty _ _ c.eight.result c.eight-2.result c.eight-3.result c.eight-4.result c.eight-5.result _
    c.eight.ensures.1 c.eight-2.ensures.0 c.eight-3.ensures.2 c.eight-4.ensures.0 c.eight-5.ensures.0 c.requires.1 h

use Rattle.sound.proofs.quick.Entry.{first-bad, second-bad, third}
use Rattle.sound.proofs.quick.bytes.bare.Goals as goal

pub returns-then-eight-ne0 : goal.returns-then-eight-ne0
returns-then-eight-ne0 c = first-bad _ _ _ c.eight.ensures.0 c.if-eight-ne0.true

pub returns-then-eight-ne0-2 : goal.returns-then-eight-ne0-2
returns-then-eight-ne0-2 c =
    second-bad _ _ _ c.eight.ensures.0 _ c.eight-2.ensures.0
    c.if-eight-ne0.false c.if-eight-ne0-2.true

pub returns : goal.returns
returns c =
    third _ _ _ c.eight.ensures.0 _ c.eight-2.ensures.0
    c.if-eight-ne0.false c.eight-3.result c.eight-3.ensures.0 c.if-eight-ne0-2.false

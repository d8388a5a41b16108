use mathlib.Core.Path.{sym}
use Rattle.looking.specs.Shown.{Inside}
use Rattle.words.specs.Word.{Bytes}
use Rattle.looking.proofs.Parts.{unsound-shows, sound-stood, sound-inside, sound-shows}
use Rattle.looking.proofs.shown.Goals as goal

pub returns-in_default-clause-inside : goal.returns-in_default-clause-inside
unfolding Inside
returns-in_default-clause-inside c = tt

pub returns-in_default-clause-tells : goal.returns-in_default-clause-tells
returns-in_default-clause-tells c = unsound-shows _ _ _ (sym c.in_default.ensures.sound)

pub find-requires : goal.find-requires
unfolding Bytes
find-requires c =
    rw (c.in-Some.ensures.same.0, c.in-Some.ensures.same.1)
    (sound-stood _ (λ i. (c.type_inv.segment i).fits)
    (λ i. (c.type_inv.blocks i).fits)
    (λ i. (c.type_inv.buffers i).fits)
    (sym c.in-Some.ensures.sound))

pub returns-clause-inside : goal.returns-clause-inside
unfolding Bytes
returns-clause-inside c =
    sound-inside _ _ _ (λ i. (c.type_inv.segment i).fits) (λ i. (c.type_inv.blocks i).fits)
    (λ i. (c.type_inv.buffers i).fits)
    (sym c.in-Some.ensures.sound) _ (rw (c.in-Some.ensures.same.0, c.in-Some.ensures.same.1) at c.find.ensures)

pub returns-clause-tells : goal.returns-clause-tells
unfolding Bytes
returns-clause-tells c =
    sound-shows _ _ _ (λ i. (c.type_inv.segment i).fits) (λ i. (c.type_inv.blocks i).fits)
    (λ i. (c.type_inv.buffers i).fits)
    (sym c.in-Some.ensures.sound) _ (rw (c.in-Some.ensures.same.0, c.in-Some.ensures.same.1) at c.find.ensures)

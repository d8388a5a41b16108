use Rattle.looking.proofs.Parts.{given}
use Rattle.looking.proofs.Short.{short}
use Rattle.words.specs.Word.{Bytes}
use Rattle.looking.proofs.look.Goals as goal

pub returns-clause-shown : goal.returns-clause-shown
unfolding Bytes
returns-clause-shown c =
    let g = given _ _ _ _ c.shown-what.ensures.tells _ c.part.ensures in
    g.1

pub returns-clause-short : goal.returns-clause-short
unfolding Bytes
returns-clause-short c =
    let g = given _ _ _ _ c.shown-what.ensures.tells _ c.part.ensures in
    short _ (λ i. (c.type_inv.segment i).fits)
    (λ i. (c.type_inv.blocks i).fits) (λ i. (c.type_inv.buffers i).fits)
    _ _ _ g.1

use Rattle.judges.proofs.Together as together
use Rattle.judges.proofs.sharing.forbids.Goals as goal

pub returns-then-multi-eq-NO_MULTI : goal.returns-then-multi-eq-NO_MULTI
returns-then-multi-eq-NO_MULTI c = λ b S. together.forbids-multi _ _ b S _ _ _ c.if-multi-eq-NO_MULTI.true

pub returns-then-others : goal.returns-then-others
returns-then-others c =
    λ b S.
    together.forbids-other _ _ b S _ _ _ _ c.if-multi-eq-NO_MULTI.false
    c.sharing_of-s.ensures _ c.others.ensures c.if-others.true

pub returns : goal.returns
returns c =
    λ b S.
    together.forbids-crowd _ _ b S _ _ _ _ c.if-multi-eq-NO_MULTI.false c.sharing_of-s.ensures _
    c.others.ensures _ c.if-others.false (c.crowds.ensures b S)

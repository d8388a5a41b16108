use Rattle.desk.proofs.Refuses.{frame_refused, not-refused, first-refused}
use Rattle.kinds.proofs.Numbers.{number-high}
use Rattle.promises.proofs.First.{first-there}
use native.Mathlib.Omega.{arith}
use mathlib.Core.Path.{refl, sym, ◌∙◌}
use borrow.Author.Rules.{rules}
use Rattle.desk.proofs.answer_frame.Goals as goal

pub refuse-requires : goal.refuse-requires
refuse-requires c = ((_, _, c.requires.0), omega (arith, c.requires.1))

pub returns-in_default : goal.returns-in_default
returns-in_default c = λ d s S. frame_refused S _ _ _ _ _ (sym c.decode-said.ensures) c.in_default.not-Event c.refuse.ensures

pub judge-requires : goal.judge-requires
judge-requires c = (_, _, c.requires.0)

pub serve-requires-clause-event_lent : goal.serve-requires-clause-event_lent
serve-requires-clause-event_lent c = (c.requires.0, c.requires.1, (sym c.decode-said.ensures ∙ c.in-Event.is), c.in-Ok.ensures.purges_value)

pub serve-requires-clause-unrefused : goal.serve-requires-clause-unrefused
serve-requires-clause-unrefused c =
    λ d s S. not-refused _ _ _ d (sym c.decode-said.ensures ∙ c.in-Event.is) (c.in-Ok.ensures.by_index _ _ _ d s S) refl

pub returns-in-Ok : goal.returns-in-Ok
returns-in-Ok c = c.serve.ensures

pub bounds-frame-0 : goal.bounds-frame-0
bounds-frame-0 c =
    let h = first-there _ _ (sym c.decode-said.ensures ∙ c.in-Event.is) in
    search rules

pub returns-in-Err : goal.returns-in-Err
returns-in-Err c =
    λ d s S.
    first-refused S _ _ _ _ _ _ (sym c.decode-said.ensures ∙ c.in-Event.is) (c.in-Err.ensures.by_index _ _ _ d s S) (number-high _)
    (rw c.number.ensures at c.status.ensures)

use native.Mathlib.Omega.{arith}
use borrow.Author.Rules.{rules}
use mathlib.Core.Path.{ap, ◌∙◌}
use Rattle.rules.specs.Line.{line_frame}
use Rattle.serving.proofs.Steps.{line-answered, frame-held, ends-none, ends-line}
use Rattle.serving.proofs.Keeps.{line_kept}
use Rattle.serving.proofs.feeding.finish.Goals as goal

pub returns-then-line-eq0-clause-printed : goal.returns-then-line-eq0-clause-printed
returns-then-line-eq0-clause-printed c = λ g a. ends-none g _ _ _ _ _ (search rules) (omega arith) c.if-line-eq0.true a

pub returns-clause-printed : goal.returns-clause-printed
returns-clause-printed c = λ g a.
    ends-line g _ _ _ _ _ _ _ _ (search rules) (omega arith) c.if-line-eq0.false a
    (line-answered g _ _ _ _ _ _ _ c.answer_line-out.ensures.asked (omega arith) c.answer_line-out.ensures.bound.1
    (ap line_frame c.as_slice.ensures ∙ frame-held g _ _ _ _ _ a) a.printed)

pub returns-clause-kept : goal.returns-clause-kept
returns-clause-kept c = line_kept _ _ _ _ _ _ _ c.answer_line-out.ensures.asked

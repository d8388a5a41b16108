use native.Mathlib.Omega.{arith}
use lib.ListN.{take}
use mathlib.Core.List.{[], ◌∷◌, ◌++◌}
use mathlib.Core.Path.{◌≡◌, ap, ◌∙◌}
use Rattle.rules.specs.Line.{line_frame}
use Rattle.serving.specs.Going.{most_held}
use Rattle.serving.proofs.Steps.{line-answered, frame-held, line_at, byte_at}
use Rattle.serving.proofs.Keeps.{line_kept}
use Rattle.serving.proofs.feeding.feed_byte.Goals as goal

pub returns-then-b-eq-LF-clause-at : goal.returns-then-b-eq-LF-clause-at
returns-then-b-eq-LF-clause-at c = λ g a.
    line_at g _ _ _ _ _ c.if-b-eq-LF.true
    (line-answered g _ _ _ _ _ _ _ c.answer_line-out.ensures.asked (omega arith) c.answer_line-out.ensures.bound.1
    (ap line_frame c.as_slice.ensures ∙ frame-held g _ _ _ _ _ a) a.printed)

pub returns-then-b-eq-LF-clause-kept : goal.returns-then-b-eq-LF-clause-kept
returns-then-b-eq-LF-clause-kept c = line_kept _ _ _ _ _ _ _ c.answer_line-out.ensures.asked

pub returns-else-b-eq-LF-clause-at : goal.returns-else-b-eq-LF-clause-at
returns-else-b-eq-LF-clause-at c = λ g a.
    let line = c.args.line.now in
    let kept : take c.push.new.self.len c.push.new.self.bytes ≡ take most_held (take line.len line.bytes ++ (c.args.b ∷ [])) = c.push.ensures.filled in
    byte_at g _ _ _ _ _ _ _ _ c.if-b-eq-LF.false kept a

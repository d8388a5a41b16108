use Rattle.words.specs.Word.{zeros}
use Rattle.lines.proofs.Parts.{frame-decoded, line-asked}
use native.Mathlib.Omega.{arith}
use Rattle.lines.proofs.answer_line.Goals as goal

pub returns-clause-asked : goal.returns-clause-asked
unfolding zeros
returns-clause-asked c =
    line-asked _ _ _ _ _ _ _ _ _ _ c.event-size.ensures.promise
    (frame-decoded _ _ _ _ c.decode-n.ensures.size c.decode-n.ensures.bytes c.decode-n.ensures.bound)
    c.line.ensures.printed (omega (arith, c.line.ensures.end, c.event-size.ensures.room))

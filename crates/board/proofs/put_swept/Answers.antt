use mathlib.Core.Path.{sym, ◌∙◌}
use native.Mathlib.Omega.{arith}
use Rattle.texts.specs.Spell.{spell}
use Rattle.texts.proofs.Runs.{put-none, put-within}
use Rattle.board.specs.Board.{swept_text}
use Rattle.board.proofs.put_swept.Goals as goal

pub returns-then-swept : goal.returns-then-swept
unfolding swept_text
returns-then-swept c =
    λ d s S. rw (sym (c.swept.ensures d s S) ∙ c.if-swept.true) (put-none _)

pub returns : goal.returns
unfolding swept_text spell
returns c =
    λ d s S. rw (sym (c.swept.ensures d s S) ∙ c.if-swept.false) (put-within _ (omega arith) c.put_text.ensures)

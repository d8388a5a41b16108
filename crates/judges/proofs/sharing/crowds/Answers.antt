use mathlib.Core.Path.{◌∙◌}
use borrow.Author.Tests.{lt-ltb}
use Rattle.judges.proofs.Together as together
use Rattle.judges.proofs.sharing.crowds.Goals as goal

pub returns-then-access-gt0 : goal.returns-then-access-gt0
returns-then-access-gt0 c =
    λ b S. rw (lt-ltb _ _ c.if-access-gt0.true) (c.crowds_writers.ensures b (c.requires.1 c.if-access-gt0.true ∙ together.writers-are _ _ b S))

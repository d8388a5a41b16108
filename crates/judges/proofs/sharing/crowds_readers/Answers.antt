use borrow.Author.Tests.{le-ltb}
use Rattle.rules.specs.Open.{crowded}
use Rattle.judges.proofs.Together as together
use Rattle.judges.proofs.sharing.crowds_readers.Goals as goal

pub returns-then-share-lt-MANY : goal.returns-then-share-lt-MANY
returns-then-share-lt-MANY c = λ b S. together.crowds-readers _ _ b S _ _ c.if-share-lt-MANY.true c.count_side.ensures.0

pub returns-else-share-lt-MANY : goal.returns-else-share-lt-MANY
unfolding crowded
returns-else-share-lt-MANY c = λ b S. rw (le-ltb _ _ c.if-share-lt-MANY.false)

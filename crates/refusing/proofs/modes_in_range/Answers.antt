use borrow.Author.Tests.{le-leb, lt-leb}
use Rattle.refusing.specs.Verdicts.{modes_in_range}
use Rattle.refusing.proofs.modes_in_range.Goals as goal

pub returns-then-access-gt-MOST_MODE : goal.returns-then-access-gt-MOST_MODE
unfolding modes_in_range
returns-then-access-gt-MOST_MODE c = rw (lt-leb _ _ c.if-access-gt-MOST_MODE.true)

pub returns-then-share-gt-MOST_MODE : goal.returns-then-share-gt-MOST_MODE
unfolding modes_in_range
returns-then-share-gt-MOST_MODE c = rw (le-leb _ _ c.if-access-gt-MOST_MODE.false, lt-leb _ _ c.if-share-gt-MOST_MODE.true)

pub returns : goal.returns
unfolding modes_in_range
returns c = rw (le-leb _ _ c.if-access-gt-MOST_MODE.false, le-leb _ _ c.if-share-gt-MOST_MODE.false)

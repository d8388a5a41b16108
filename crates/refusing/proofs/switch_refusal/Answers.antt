use borrow.Author.Tests.{le-leb, lt-leb}
use Rattle.refusing.specs.Verdicts.{switch_refusal}
use Rattle.refusing.proofs.switch_refusal.Goals as goal

pub returns-then-value-le-MOST_SETTING : goal.returns-then-value-le-MOST_SETTING
unfolding switch_refusal
returns-then-value-le-MOST_SETTING c = rw (le-leb _ _ c.if-value-le-MOST_SETTING.true)

pub returns : goal.returns
unfolding switch_refusal
returns c = rw (lt-leb _ _ c.if-value-le-MOST_SETTING.false)

use Rattle.refusing.specs.Verdicts.{while_free}
use Rattle.refusing.proofs.while_free.Goals as goal

pub returns-then-is_free : goal.returns-then-is_free
unfolding while_free
returns-then-is_free c = rw (← c.is_free.ensures, c.if-is_free.true)

pub returns : goal.returns
unfolding while_free
returns c = rw (← c.is_free.ensures, c.if-is_free.false)

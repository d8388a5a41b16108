use Rattle.refusing.specs.Verdicts.{nothing_refusal}
use Rattle.refusing.proofs.nothing_refusal.Goals as goal

pub returns-then-is_free : goal.returns-then-is_free
unfolding nothing_refusal
returns-then-is_free c = rw (← c.is_free.ensures, c.if-is_free.true)

pub returns : goal.returns
unfolding nothing_refusal
returns c = rw (← c.is_free.ensures, c.if-is_free.false)

use Rattle.refusing.specs.Verdicts.{free}
use Rattle.refusing.proofs.is_free.Goals as goal

pub returns-in-Nothing : goal.returns-in-Nothing
unfolding free
returns-in-Nothing c = rw c.in-Nothing.is

pub returns-in-Waiting : goal.returns-in-Waiting
unfolding free
returns-in-Waiting c = rw c.in-Waiting.is

pub returns-in-Completed : goal.returns-in-Completed
unfolding free
returns-in-Completed c = rw c.in-Completed.is

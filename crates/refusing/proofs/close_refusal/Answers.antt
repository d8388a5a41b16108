use Rattle.refusing.specs.Verdicts.{close_refusal}
use Rattle.refusing.proofs.close_refusal.Goals as goal

pub returns-in-Nothing : goal.returns-in-Nothing
unfolding close_refusal
returns-in-Nothing c = rw c.in-Nothing.is

pub returns-in-Waiting : goal.returns-in-Waiting
unfolding close_refusal
returns-in-Waiting c = rw c.in-Waiting.is

pub returns-in-Completed : goal.returns-in-Completed
unfolding close_refusal
returns-in-Completed c = rw c.in-Completed.is

use Rattle.refusing.specs.Verdicts.{code_refusal}
use Rattle.refusing.proofs.code_refusal.Goals as goal

pub returns : goal.returns
unfolding code_refusal
returns c = c.while_free.ensures

use Rattle.desk.specs.Refusals.{Refusal}
use Rattle.desk.proofs.Refuses.{no_code}
use Rattle.desk.proofs.refusals.refuse.Goals as goal

pub returns-in_default : goal.returns-in_default
returns-in_default c =
    no_code _ _ _ _ _ c.in_default.not-Code (rw c.number.ensures at c.status.ensures)

pub returns : goal.returns
unfolding Refusal
returns c =
    rw c.in-Code.is (_, c.judge_code-verdict.ensures, rw c.status-2.ensures at c.status-3.ensures)

use Rattle.rules.specs.Desk.{frame_asks}
use Rattle.desk.proofs.Numbers.{shape-number}
use Rattle.desk.proofs.refusals.judge_frame.Goals as goal

pub returns-in-Code : goal.returns-in-Code
unfolding frame_asks
returns-in-Code c =
    rw c.in-Code.is (λ t. c.judge_code.ensures)

pub returns-in-Shape : goal.returns-in-Shape
unfolding frame_asks
returns-in-Shape c = rw c.in-Shape.is (λ t. shape-number _)

use Rattle.std.proofs.lemmas.Result.{err_from_is_err_and}
use Rattle.judges.proofs.Said.{control-refused, control-said}
use Rattle.judges.proofs.control_codes.judge_control.Goals as goal

pub returns-in_err-named : goal.returns-in_err-named
returns-in_err-named c =
    let p = err_from_is_err_and c.from_residual.result c.from_residual.ensures.1 in
    rw (p.1, p.2) (control-refused _ _ _ c.in_err-named.ensures _)

pub returns : goal.returns
returns c =
    control-said _ _ _ c.in_ok-named.ensures _
    c.control_refusal.ensures

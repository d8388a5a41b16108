use Rattle.std.proofs.lemmas.Result.{err_from_is_err_and}
use Rattle.looking.specs.Shown.{status_shown}
use Rattle.looking.proofs.look_status.Goals as goal

pub returns-in_err-shown : goal.returns-in_err-shown
unfolding status_shown
returns-in_err-shown c =
    let p = err_from_is_err_and c.from_residual.result c.from_residual.ensures.1 in
    rw (p.1, p.2) (λ v k. (c.in_err-shown.ensures.tells v k).status)

pub returns : goal.returns
unfolding status_shown
returns c = λ v k. (c.in_ok-shown.ensures.tells v k).status

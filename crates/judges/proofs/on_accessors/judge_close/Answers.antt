use Rattle.std.proofs.lemmas.Result.{err_from_is_err_and}
use Rattle.judges.proofs.Said.{close-refused, close-said}
use Rattle.judges.proofs.on_accessors.judge_close.Goals as goal

pub returns-in_err-named : goal.returns-in_err-named
returns-in_err-named c =
    let p = err_from_is_err_and c.from_residual.result c.from_residual.ensures.1 in
    rw (p.1, p.2) (close-refused _ _ _ c.in_err-named.ensures)

pub returns : goal.returns
returns c =
    close-said _ _ _ c.in_ok-named.ensures
    c.close_refusal.ensures

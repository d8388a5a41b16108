use Rattle.std.proofs.lemmas.Result.{err_from_is_err_and}
use Rattle.judges.proofs.Said.{collect-refused, collect-said}
use Rattle.judges.proofs.on_accessors.judge_collect.Goals as goal

pub returns-in_err-named : goal.returns-in_err-named
returns-in_err-named c =
    let p = err_from_is_err_and c.from_residual.result c.from_residual.ensures.1 in
    rw (p.1, p.2) (collect-refused _ _ _ c.in_err-named.ensures)

pub returns : goal.returns
returns c =
    collect-said _ _ _ c.in_ok-named.ensures
    c.nothing_refusal.ensures

use Rattle.std.proofs.lemmas.Result.{err_from_is_err_and}
use Rattle.judges.proofs.Said.{read-refused, read-said}
use Rattle.judges.proofs.on_accessors.judge_read.Goals as goal

pub returns-in_err-named : goal.returns-in_err-named
returns-in_err-named c =
    let p = err_from_is_err_and c.from_residual.result c.from_residual.ensures.1 in
    rw (p.1, p.2) (read-refused _ _ _ c.in_err-named.ensures _)

pub returns : goal.returns
returns c =
    read-said _ _ _ c.in_ok-named.ensures _
    c.read_refusal.ensures

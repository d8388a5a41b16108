use Rattle.std.proofs.lemmas.Result.{err_from_is_err_and}
use Rattle.judges.proofs.Said.{write-refused, write-said}
use Rattle.judges.proofs.on_accessors.judge_write.Goals as goal

pub returns-in_err-named : goal.returns-in_err-named
returns-in_err-named c =
    let p = err_from_is_err_and c.from_residual.result c.from_residual.ensures.1 in
    λ t. rw (p.1, p.2) (write-refused _ _ _ c.in_err-named.ensures _ t)

pub returns : goal.returns
returns c =
    λ t.
    write-said _ _ _ c.in_ok-named.ensures _ t
    c.write_refusal.ensures

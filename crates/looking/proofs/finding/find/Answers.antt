use Rattle.std.proofs.lemmas.Result.{err_from_is_err_and}
use Rattle.looking.proofs.Readers.{refused-finds, opens}
use Rattle.looking.proofs.finding.find.Goals as goal

pub returns-in_err-named : goal.returns-in_err-named
returns-in_err-named c =
    let p = err_from_is_err_and c.from_residual.result c.from_residual.ensures.1 in
    rw (p.1, p.2) (refused-finds _ _ _ _ _ c.in_err-named.ensures)

pub of_accessor-requires : goal.of_accessor-requires
of_accessor-requires c = opens _ _ _ _ _ c.in_ok-named.ensures c.requires

use Rattle.records.proofs.cursor.Laws.{stands-readable}
use Rattle.std.proofs.Common.{arith}
use Rattle.std.proofs.lemmas.Bool.Decides.{nat_tests}
use Rattle.records.proofs.fetch.oldest.Goals as goal

pub returns-clause-readable : goal.returns-clause-readable
returns-clause-readable c =
    let held = stands-readable _ _ _ c.discarded-cursor.ensures.stands in
    grind (arith, nat_tests)

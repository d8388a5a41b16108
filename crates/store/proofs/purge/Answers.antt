use Rattle.store.proofs.Purges.{purge-keeps}
use Rattle.store.proofs.Puts.{in-hand}
use Rattle.store.proofs.purge.Goals as goal

pub returns-clause-keeps : goal.returns-clause-keeps
returns-clause-keeps c =
    let is = in-hand c.args.file.words _ _ c.purged-empty.ensures in
    purge-keeps _ _ is

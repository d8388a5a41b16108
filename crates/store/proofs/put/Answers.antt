use Rattle.store.proofs.Puts.{in-hand, put_keeps}
use Rattle.store.proofs.put.Goals as goal

pub returns-clause-keeps : goal.returns-clause-keeps
returns-clause-keeps c =
    let is = in-hand c.args.file.words _ _ c.put_at-next.ensures.ring in
    put_keeps _ _ _ _ _ _ is c.put_at-next.ensures.blocks

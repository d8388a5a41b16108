use Rattle.buffers.proofs.Filled.{fill-written}
use Rattle.buffers.proofs.fill.Goals as goal

pub returns : goal.returns
returns c =
    let copy = c.copy in
    fill-written _ _ _ _ c.requires.0 c.requires.1 copy.ensures c.zero.ensures

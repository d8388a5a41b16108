use Rattle.buffers.proofs.Filled.{clear-written}
use Rattle.buffers.proofs.clear.Goals as goal

pub returns : goal.returns
returns c =
    clear-written _ _ c.requires c.zero.ensures

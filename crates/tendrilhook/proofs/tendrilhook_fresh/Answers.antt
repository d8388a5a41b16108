use Rattle.tendrilhook.proofs.Fresh.{made-fresh}
use Rattle.tendrilhook.proofs.tendrilhook_fresh.Goals as goal

pub returns : goal.returns
returns c =
    rw c.status.ensures (made-fresh _ _ _ c.fresh.ensures)

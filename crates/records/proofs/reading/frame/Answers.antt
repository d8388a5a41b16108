use Rattle.records.proofs.reading.Framed.{frame_made}
use Rattle.records.proofs.reading.frame.Goals as goal

pub returns : goal.returns
returns c =
    frame_made _ _ c.requires (λ i. (c.type_inv.share i).fits) _
    c.get.ensures

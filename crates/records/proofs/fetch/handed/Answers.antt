use Rattle.records.proofs.fetch.Parts.{part-handed}
use Rattle.records.proofs.fetch.handed.Goals as goal

pub returns : goal.returns
returns c =
    part-handed _ _ c.requires (λ i. (c.type_inv.share i).fits) _ _ _ _ _
    c.get-follow.ensures c.header_bytes-before.ensures.0
    c.min-n.ensures

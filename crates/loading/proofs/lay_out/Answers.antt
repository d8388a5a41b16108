use Rattle.loading.proofs.Done.{lays}
use Rattle.loading.proofs.lay_out.Goals as goal

pub returns : goal.returns
returns c =
    λ s e.
    lays _ s _ _ _ (c.pack-file.ensures s e).0 c.put_file.ensures (c.pack-file.ensures s e).1
    c.zero.ensures

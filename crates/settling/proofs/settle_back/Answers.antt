use Rattle.settling.proofs.Outs.{mid-out}
use Rattle.settling.proofs.settle_back.Goals as goal

pub returns : goal.returns
returns c = λ o b M B r.
    mid-out (c.settle-settled.ensures o b M) B _ c.put_file.ensures c.known.ensures
    c.known-2.ensures c.known-3.ensures r

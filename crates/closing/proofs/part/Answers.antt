use Rattle.closing.proofs.Parts.{close-ready, close-put}
use Rattle.closing.proofs.part.Goals as goal

pub put-requires-clause-ready : goal.put-requires-clause-ready
put-requires-clause-ready c =
    let (o, b, M) = c.requires in
    let N = c.last_gone.ensures _ _ _ o b M in
    (close-ready N).1

pub returns : goal.returns
returns c =
    λ o b M.
    close-put (c.last_gone.ensures _ _ _ o b M) _ _ c.put.ensures.keeps

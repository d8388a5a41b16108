use Rattle.desk.proofs.Serves.{served}
use native.Mathlib.Omega.{arith}
use Rattle.desk.proofs.serve.Goals as goal

pub returns : goal.returns
returns c =
    λ d s S.
    served (c.act-given.ensures d s S) c.encode.ensures.size
    c.encode.ensures.bytes
    (omega (arith, c.requires.event_lent.1, c.encode.ensures.size, c.encode.ensures.bound))

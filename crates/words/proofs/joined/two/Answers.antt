use Rattle.words.proofs.Led.{led-two}
use native.Mathlib.Omega.{arith}
use Rattle.words.proofs.Joins.{one_byte, join-two}
use Rattle.words.proofs.joined.two.Goals as goal

pub returns : goal.returns
returns c =
    let a = c.broad in
    let b = c.broad-2 in (
      join-two _ _ a.result b.result (one_byte _ _ _ a.ensures.0) (one_byte _ _ _ b.ensures.0),
      omega (arith, a.ensures.1, b.ensures.1),
      λ n h. led-two _ _ a.result b.result n a.ensures.0 b.ensures.0 a.ensures.1 h,
    )

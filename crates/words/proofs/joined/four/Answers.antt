use native.Mathlib.Omega.{arith}
use Rattle.words.proofs.Joins.{join-four, after_two}
use Rattle.words.proofs.Led.{led-four, last-of-four}
use Rattle.words.proofs.joined.four.Goals as goal

pub returns : goal.returns
returns c =
    let a = c.two.ensures in
    let b = c.two-2.ensures in (
      join-four _ _ c.two.result c.two-2.result a.0 b.0,
      omega (arith, a.1, b.1),
      λ n k h. led-four _ _ c.two.result c.two-2.result n a.2 b.0 a.1 k h,
      λ n h. last-of-four _ _ c.two.result c.two-2.result n a.0 b.2 a.1 h,
      after_two _ _ c.two.result c.two-2.result a.1 b.0,
    )

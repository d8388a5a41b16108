use Rattle.words.proofs.Joins.{join-eight, after-four}
use Rattle.words.proofs.Led.{led-eight, third-of-eight, last-of-eight}
use Rattle.words.proofs.joined.eight.Goals as goal

pub returns : goal.returns
returns c =
    let a = c.four.ensures in
    let b = c.four-2.ensures in (
      join-eight _ _ c.four.result c.four-2.result a.0 b.0,
      λ n k h. led-eight _ _ c.four.result c.four-2.result n a.2 b.0 a.1 k h,
      λ n k h. third-of-eight _ _ c.four.result c.four-2.result n a.0 b.2 a.1 k h,
      λ n h. last-of-eight _ _ c.four.result c.four-2.result n a.0 b.3 a.1 h,
      after-four _ _ c.four.result c.four-2.result a.1 a.4 b.0,
    )

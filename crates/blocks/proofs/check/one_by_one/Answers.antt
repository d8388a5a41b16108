use mathlib.Core.Path.{sym, ◌∙◌}
use Rattle.shares.proofs.Laid.{fair-says}
use Rattle.blocks.proofs.check.Laws.{walked_on, walked-bad, walked-all}
use borrow.Author.Rules.{rules}
use Rattle.blocks.proofs.check.one_by_one.Goals as goal
use Rattle.blocks.proofs.check.one_by_one.Goals.{then-whole, else-whole+then-fair}

pub next-p-requires : goal.next-p-requires
next-p-requires c = let f = fair-says _ _ _ _ (sym c.fair.ensures ∙ c.if-fair.true) in search rules

pub returns-else-fair : goal.returns-else-fair
returns-else-fair c =
    walked-bad _ _ _ _ _ _ _ _ c.loop.invariant c.loop-test.true (sym c.fair.ensures ∙ c.if-fair.false)

pub loop-preserved : goal.loop-preserved
loop-preserved c =
    elim c.if-whole.branch [
      | then-whole w ↦
          let f = c.whole.ensures w.if-whole.true in
          walked_on _ _ _ _ _ _ _ _ c.loop.invariant c.loop-test.true f.0 _ (w.p-is ∙ sym f.1)
      | else-whole+then-fair w ↦
          walked_on _ _ _ _ _ _ _ _ c.loop.invariant c.loop-test.true (sym w.fair.ensures ∙ w.if-fair.true) _
          (w.p-is ∙ w.next-p.ensures.value)
    ]

pub returns : goal.returns
returns c = walked-all _ _ _ _ _ _ _ _ c.loop.invariant c.loop-test.false

use mathlib.Core.Path.{◌≡◌, refl, sym, ◌∙◌}
use native.Mathlib.Omega.{arith}
use lib.ListN.{length-replicate}
use borrow.Author.Rules.{rules}
use Rattle.words.proofs.Parts.{sets-whole}
use Rattle.segment.specs.Table.{row}
use Rattle.segment.proofs.Rows.{length-row, row-turn}
use Rattle.segment.proofs.get_row.Goals as goal

pub loop-i-init : goal.loop-i-init
unfolding row
loop-i-init g c = (refl, length-replicate _ _)

pub loop-i-preserved : goal.loop-i-preserved
loop-i-preserved g c = (rw (c.loop-i.invariant.0, c.get.ensures) (row-turn _ _ _ _), search rules)

pub returns : goal.returns
returns g c =
    let e : c.loop-i.i ≡ g.row.N = omega arith in
    c.loop-i.invariant.0 ∙ rw e (sets-whole _ _ (length-row _ _ _ ∙ sym (length-replicate _ _)))

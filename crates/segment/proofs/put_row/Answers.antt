use mathlib.Core.Path.{◌∙◌}
use native.Mathlib.Omega.{arith}
use lib.ListN.{drop_of_length-le}
use borrow.Author.Rules.{rules}
use Rattle.segment.specs.Table.{fill}
use Rattle.segment.proofs.Rows.{fill-turn}
use Rattle.segment.proofs.put_row.Goals as goal

pub loop-i-preserved : goal.loop-i-preserved
loop-i-preserved g c = (rw c.put.ensures (fill-turn c.loop-i.s c.args.k c.args.vs c.loop-i.i (omega arith)) ∙ c.loop-i.invariant.0, search rules, search rules)

pub returns : goal.returns
unfolding fill
returns g c = rw (drop_of_length-le c.args.vs {i = c.loop-i.i} (omega arith)) at c.loop-i.invariant.0

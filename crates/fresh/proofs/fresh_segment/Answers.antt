use Rattle.fresh.proofs.Words.{from-turn, from_end}
use native.Mathlib.Omega.{arith}
use mathlib.Core.Path.{◌∙◌}
use Rattle.fresh.proofs.fresh_segment.Goals as goal

pub loop-k-preserved : goal.loop-k-preserved
loop-k-preserved c =
    rw c.put.ensures (from-turn _ _ _ _ (omega arith) c.fresh_word-w.ensures) ∙ c.loop-k.invariant

pub returns : goal.returns
returns c = from_end _ _ _ c.told-s c.loop-k-test.false c.loop-k.invariant

use Rattle.board.proofs.Turns.{placed-none, placed_on}
use Rattle.board.proofs.put_places.Goals as goal

pub loop-p-init : goal.loop-p-init
loop-p-init c = placed-none _ _ _ _

pub loop-p-preserved : goal.loop-p-preserved
loop-p-preserved c = placed_on _ _ _ _ _ _ _ _ _ c.loop-p.invariant c.put_place-end.ensures

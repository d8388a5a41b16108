use Rattle.board.proofs.Turns.{Placed}
use Rattle.board.proofs.put_places.Given as goal

abbrev pub invariant-loop-p : goal.invariant-loop-p
invariant-loop-p l = Placed l.segment l.f l.initial.out l.at l.p l.out l.end

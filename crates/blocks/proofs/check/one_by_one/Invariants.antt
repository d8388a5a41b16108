use Rattle.blocks.proofs.check.Laws.{Walked}
use Rattle.blocks.proofs.check.one_by_one.Given as goal

abbrev pub invariant-loop : goal.invariant-loop
invariant-loop l = Walked l.words l.share l.e l.end l.at l.n l.p l.counter

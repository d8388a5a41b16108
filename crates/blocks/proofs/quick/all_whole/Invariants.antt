use Rattle.blocks.proofs.quick.Laws.{Passed}
use Rattle.blocks.proofs.quick.all_whole.Given as goal

abbrev pub invariant-loop : goal.invariant-loop
invariant-loop l = Passed l.words l.share l.at l.n l.p l.counter l.all l.least

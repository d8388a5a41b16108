use Rattle.blocks.proofs.quick.Laws.{Skipped}
use Rattle.blocks.proofs.quick.bare_first.Given as goal

abbrev pub invariant-loop-k : goal.invariant-loop-k
invariant-loop-k l = Skipped l.share l.at l.n l.k

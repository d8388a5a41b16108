use Prim.Native.Nat.{◌≤◌}
use Rattle.records.proofs.cursor.Laws.{Passed}
use Rattle.records.proofs.cursor.skip.Given as goal

abbrev pub invariant-loop : goal.invariant-loop
invariant-loop l = record { passed : Passed l.share l.at l.n l.p l.counter; low : l.p ≤ 100000 }

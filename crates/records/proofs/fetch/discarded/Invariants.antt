use Rattle.records.proofs.fetch.Search.{Search}
use Rattle.records.proofs.fetch.discarded.Given as goal

abbrev pub invariant-loop-cursor : goal.invariant-loop-cursor
invariant-loop-cursor l = Search l.words l.initial.cursor.ring l.share l.cursor

abbrev pub decreases-loop-cursor : goal.decreases-loop-cursor
decreases-loop-cursor l = l.cursor.ring.held

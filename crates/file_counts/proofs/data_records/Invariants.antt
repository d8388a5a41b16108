use Rattle.file_counts.proofs.Counting.{Counting}
use Rattle.file_counts.proofs.data_records.Given as goal

abbrev pub invariant-loop-cursor : goal.invariant-loop-cursor
invariant-loop-cursor l = Counting l.words l.share l.initial.cursor.ring l.cursor l.found

abbrev pub decreases-loop-cursor : goal.decreases-loop-cursor
decreases-loop-cursor l = l.cursor.ring.held

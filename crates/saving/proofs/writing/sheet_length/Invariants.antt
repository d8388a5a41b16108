use Rattle.saving.proofs.writing.Records.{Measured}
use Rattle.saving.proofs.writing.sheet_length.Given as goal

abbrev pub invariant-loop-cursor : goal.invariant-loop-cursor
invariant-loop-cursor l = Measured l.words l.share l.initial.cursor.ring l.cursor l.total

abbrev pub decreases-loop-cursor : goal.decreases-loop-cursor
decreases-loop-cursor l = l.cursor.ring.held

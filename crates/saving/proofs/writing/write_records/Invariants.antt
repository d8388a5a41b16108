use Rattle.saving.proofs.writing.Records.{Written}
use Rattle.saving.proofs.writing.write_records.Given as goal

abbrev pub invariant-loop-cursor : goal.invariant-loop-cursor
invariant-loop-cursor l = Written l.words l.share l.initial.cursor.ring l.from l.initial.output l.cursor l.used l.output

abbrev pub decreases-loop-cursor : goal.decreases-loop-cursor
decreases-loop-cursor l = l.cursor.ring.held

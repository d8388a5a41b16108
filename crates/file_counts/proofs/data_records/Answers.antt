use native.Mathlib.Omega.{arith}
use Rattle.ring.proofs.Laws.{advanced-held}
use Rattle.records.proofs.cursor.Laws.{stands-readable}
use Rattle.file_counts.proofs.Counting.{count-end, count-on}
use Rattle.file_counts.proofs.data_records.Goals as goal

pub header-record-requires : goal.header-record-requires
header-record-requires c = stands-readable _ _ _ c.loop-cursor.invariant.stands c.loop-cursor-test.true

pub loop-cursor-smaller : goal.loop-cursor-smaller
loop-cursor-smaller c =
    rw (c.next-cursor.ensures.ring, advanced-held c.loop-cursor.cursor.ring c.loop-cursor-test.true) (omega (arith, c.loop-cursor-test.true))

pub loop-cursor-preserved : goal.loop-cursor-preserved
loop-cursor-preserved c =
    count-on _ _ _ _ _ c.loop-cursor.invariant c.loop-cursor-test.true _ _ c.header-record.ensures
    c.data_count-found.ensures.0 c.data_count-found.ensures.1 _ c.next-cursor.ensures.ring
    c.next-cursor.ensures.stands

pub returns : goal.returns
returns c = rw (← c.first-cursor.ensures.ring) (count-end _ _ _ _ _ c.loop-cursor.invariant c.loop-cursor-test.false)

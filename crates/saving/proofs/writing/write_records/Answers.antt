use native.Mathlib.Omega.{arith}
use Rattle.ring.proofs.Laws.{advanced-held}
use Rattle.records.proofs.cursor.Laws.{stands-readable}
use Rattle.saving.proofs.writing.Records.{written_on, written-end, turn-room}
use Rattle.saving.proofs.writing.write_records.Goals as goal

pub frame-frame-requires : goal.frame-frame-requires
frame-frame-requires c = stands-readable _ _ _ c.loop-cursor.invariant.stands c.loop-cursor-test.true

pub line-used-requires : goal.line-used-requires
line-used-requires c =
    turn-room _ _ _ c.loop-cursor.invariant.stands c.loop-cursor-test.true _ c.frame-frame.ensures
    _ _ _ _ _ c.loop-cursor.invariant

pub loop-cursor-smaller : goal.loop-cursor-smaller
loop-cursor-smaller c =
    rw (c.next-cursor.ensures.ring, advanced-held c.loop-cursor.cursor.ring c.loop-cursor-test.true) (omega (arith, c.loop-cursor-test.true))

pub loop-cursor-preserved : goal.loop-cursor-preserved
loop-cursor-preserved c =
    written_on _ _ _ c.loop-cursor.invariant.stands c.loop-cursor-test.true _ c.frame-frame.ensures _
    c.next-cursor.ensures.ring c.next-cursor.ensures.stands _ _ _ _ _ _ _ c.loop-cursor.invariant c.line-used.ensures.end
    c.line-used.ensures.printed

pub returns : goal.returns
returns c = rw (← c.first-cursor.ensures.ring) (written-end _ _ _ _ _ _ _ _ c.loop-cursor.invariant c.loop-cursor-test.false)

use native.Mathlib.Omega.{arith}
use Rattle.ring.proofs.Laws.{advanced-held}
use Rattle.records.proofs.cursor.Laws.{stands-ranged, stands-readable}
use Rattle.saving.proofs.writing.Records.{measured-start, measured-on, measured-end, turn_low}
use Rattle.saving.proofs.writing.sheet_length.Goals as goal

pub loop-cursor-init : goal.loop-cursor-init
loop-cursor-init c = measured-start _ _ _ c.first-cursor.ensures.stands

pub frame-frame-requires : goal.frame-frame-requires
frame-frame-requires c = stands-readable _ _ _ c.loop-cursor.invariant.stands c.loop-cursor-test.true

pub overflow_add-total-in-loop-cursor : goal.overflow_add-total-in-loop-cursor
overflow_add-total-in-loop-cursor c =
    let h = turn_low _ _ _ c.loop-cursor.invariant.stands c.loop-cursor-test.true _ c.frame-frame.ensures in
    let o = stands-ranged _ _ _ c.first-cursor.ensures.stands in
    omega (arith, c.loop-cursor.invariant.low, o.used, o.room)

pub loop-cursor-smaller : goal.loop-cursor-smaller
loop-cursor-smaller c =
    rw (c.next-cursor.ensures.ring, advanced-held c.loop-cursor.cursor.ring c.loop-cursor-test.true) (omega (arith, c.loop-cursor-test.true))

pub loop-cursor-preserved : goal.loop-cursor-preserved
loop-cursor-preserved c =
    measured-on _ _ _ c.loop-cursor.invariant.stands c.loop-cursor-test.true _
    c.frame-frame.ensures _ c.next-cursor.ensures.ring c.next-cursor.ensures.stands _ _ c.loop-cursor.invariant

pub returns : goal.returns
returns c = rw (← c.first-cursor.ensures.ring) (measured-end _ _ _ _ _ c.loop-cursor.invariant c.loop-cursor-test.false)

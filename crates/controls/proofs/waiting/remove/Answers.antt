use Rattle.controls.proofs.Removes.{completed-stays, absent-stays, found-goes}
use Rattle.controls.proofs.waiting.remove.Goals as goal

pub returns-then-get-lt-ENTRIES-clause-waits : goal.returns-then-get-lt-ENTRIES-clause-waits
returns-then-get-lt-ENTRIES-clause-waits c =
    (completed-stays c.args.segment.now c.args.buffers.now c.args.f c.args.acc c.args.side _ c.get.ensures c.if-get-lt-ENTRIES.true).0

pub returns-then-get-lt-ENTRIES-clause-segment : goal.returns-then-get-lt-ENTRIES-clause-segment
returns-then-get-lt-ENTRIES-clause-segment c =
    (completed-stays c.args.segment.now c.args.buffers.now c.args.f c.args.acc c.args.side _ c.get.ensures c.if-get-lt-ENTRIES.true).1.0

pub returns-then-get-lt-ENTRIES-clause-buffers : goal.returns-then-get-lt-ENTRIES-clause-buffers
returns-then-get-lt-ENTRIES-clause-buffers c =
    (completed-stays c.args.segment.now c.args.buffers.now c.args.f c.args.acc c.args.side _ c.get.ensures c.if-get-lt-ENTRIES.true).1.1

pub returns-then-get-ge-ENTRIES-clause-waits : goal.returns-then-get-ge-ENTRIES-clause-waits
returns-then-get-ge-ENTRIES-clause-waits c =
    (absent-stays c.args.segment.now c.args.buffers.now c.args.f c.args.acc c.args.side _ c.get.ensures c.if-get-lt-ENTRIES.false _ _ _ c.queue_of.ensures.0 c.seek_place-slot.ensures.0 c.get-2.ensures c.if-get-ge-ENTRIES.true).0

pub returns-then-get-ge-ENTRIES-clause-segment : goal.returns-then-get-ge-ENTRIES-clause-segment
returns-then-get-ge-ENTRIES-clause-segment c =
    (absent-stays c.args.segment.now c.args.buffers.now c.args.f c.args.acc c.args.side _ c.get.ensures c.if-get-lt-ENTRIES.false _ _ _ c.queue_of.ensures.0 c.seek_place-slot.ensures.0 c.get-2.ensures c.if-get-ge-ENTRIES.true).1.0

pub returns-then-get-ge-ENTRIES-clause-buffers : goal.returns-then-get-ge-ENTRIES-clause-buffers
returns-then-get-ge-ENTRIES-clause-buffers c =
    (absent-stays c.args.segment.now c.args.buffers.now c.args.f c.args.acc c.args.side _ c.get.ensures c.if-get-lt-ENTRIES.false _ _ _ c.queue_of.ensures.0 c.seek_place-slot.ensures.0 c.get-2.ensures c.if-get-ge-ENTRIES.true).1.1

pub returns-clause-waits : goal.returns-clause-waits
returns-clause-waits c =
    (found-goes c.args.segment.now c.args.buffers.now c.args.f c.args.acc c.args.side _ c.get.ensures c.if-get-lt-ENTRIES.false _ _ _ c.queue_of.ensures.0 c.seek_place-slot.ensures.0 c.get-2.ensures c.if-get-ge-ENTRIES.false _ _
    c.take_away.ensures.segment c.take_away.ensures.buffers).0

pub returns-clause-segment : goal.returns-clause-segment
returns-clause-segment c =
    (found-goes c.args.segment.now c.args.buffers.now c.args.f c.args.acc c.args.side _ c.get.ensures c.if-get-lt-ENTRIES.false _ _ _ c.queue_of.ensures.0 c.seek_place-slot.ensures.0 c.get-2.ensures c.if-get-ge-ENTRIES.false _ _
    c.take_away.ensures.segment c.take_away.ensures.buffers).1.0

pub returns-clause-buffers : goal.returns-clause-buffers
returns-clause-buffers c =
    (found-goes c.args.segment.now c.args.buffers.now c.args.f c.args.acc c.args.side _ c.get.ensures c.if-get-lt-ENTRIES.false _ _ _ c.queue_of.ensures.0 c.seek_place-slot.ensures.0 c.get-2.ensures c.if-get-ge-ENTRIES.false _ _
    c.take_away.ensures.segment c.take_away.ensures.buffers).1.1

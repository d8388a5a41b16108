use Rattle.words.specs.Word.{Bytes}
use Rattle.promises.proofs.Events.{event-length, event-unsound, event-done}
use Rattle.promises.proofs.Room.{with-room}
use Rattle.sound.proofs.Lengths.{wrong-segment, wrong-blocks, wrong-buffers}
use Rattle.decision.proofs.desk.Both.{sound-stands}
use mathlib.Core.Path.{sym, ◌∙◌}
use Rattle.desk.proofs.event.Goals as goal

pub returns-then-answer-ne-ANSWER_ROOM-clause-promise : goal.returns-then-answer-ne-ANSWER_ROOM-clause-promise
returns-then-answer-ne-ANSWER_ROOM-clause-promise c =
    event-length _ _ _ c.if-answer-ne-ANSWER_ROOM.true

pub returns-in_default-clause-promise : goal.returns-in_default-clause-promise
returns-in_default-clause-promise c = event-unsound _ _ _ c.if-answer-ne-ANSWER_ROOM.false (wrong-segment _ c.in_default.ensures.cases)

pub returns-in_default-as_mut_array-clause-promise : goal.returns-in_default-as_mut_array-clause-promise
returns-in_default-as_mut_array-clause-promise c =
    rw c.in-Some.ensures.cases.same
    (event-unsound _ _ _ c.if-answer-ne-ANSWER_ROOM.false (wrong-blocks _ c.in-Some.ensures.cases.long c.in_default-as_mut_array.ensures.cases))

pub returns-in_default-as_mut_array-2-clause-promise : goal.returns-in_default-as_mut_array-2-clause-promise
returns-in_default-as_mut_array-2-clause-promise c =
    rw (c.in-Some.ensures.cases.same, c.in-Some-as_mut_array.ensures.cases.same)
    (event-unsound _ _ _ c.if-answer-ne-ANSWER_ROOM.false
    (wrong-buffers _ c.in-Some.ensures.cases.long c.in-Some-as_mut_array.ensures.cases.long c.in_default-as_mut_array-2.ensures.cases))

pub returns-then-not-stands-clause-promise : goal.returns-then-not-stands-clause-promise
returns-then-not-stands-clause-promise c =
    rw (c.in-Some.ensures.cases.same, c.in-Some-as_mut_array.ensures.cases.same, c.in-Some-as_mut_array-2.ensures.cases.same)
    (event-unsound _ _ _ c.if-answer-ne-ANSWER_ROOM.false
    (rw (c.in-Some.ensures.cases.same, c.in-Some-as_mut_array.ensures.cases.same, c.in-Some-as_mut_array-2.ensures.cases.same) at
    (sym c.stands.ensures ∙ c.if-not-stands.true)))

pub answer_frame-requires : goal.answer_frame-requires
unfolding Bytes
answer_frame-requires c = (
  rw (c.in-Some.ensures.cases.same, c.in-Some-as_mut_array.ensures.cases.same, c.in-Some-as_mut_array-2.ensures.cases.same)
      (sound-stands _ (λ i. (c.slice_known-1.given i).fits) (λ i. (c.slice_known-2-1.given i).fits) (λ i. (c.slice_known-3-1.given i).fits)
      (rw (c.in-Some.ensures.cases.same, c.in-Some-as_mut_array.ensures.cases.same, c.in-Some-as_mut_array-2.ensures.cases.same) at
      (sym c.stands.ensures ∙ c.if-not-stands.false))),
  c.if-answer-ne-ANSWER_ROOM.false,
)

pub returns : goal.returns
unfolding Bytes
returns c =
    let answered = rw (c.in-Some.ensures.cases.same, c.in-Some-as_mut_array.ensures.cases.same, c.in-Some-as_mut_array-2.ensures.cases.same) at c.answer_frame.ensures in
    let r =
    with-room _ _ _ _ _ _ (λ i. (c.slice_known-1.given i).fits) (λ i. (c.slice_known-2-1.given i).fits) (λ i. (c.slice_known-3-1.given i).fits)
    (event-done _ _ _ c.if-answer-ne-ANSWER_ROOM.false _ _ _
    (rw (c.in-Some.ensures.cases.same, c.in-Some-as_mut_array.ensures.cases.same, c.in-Some-as_mut_array-2.ensures.cases.same) at
    (sym c.stands.ensures ∙ c.if-not-stands.false))
    (λ d s S. let r = answered d s S in (r.stays, r.told))) in
    record { promise = r.0; room = r.1 }

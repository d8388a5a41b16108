use Rattle.segment.specs.Fields.{entry_words}
use Rattle.timeouts.specs.Late.{late_words}
use Rattle.timeouts.proofs.Steps.{late-found, late-at}
use Rattle.timeouts.proofs.time_out.Goals as goal

pub complete-requires : goal.complete-requires
complete-requires c = (
  c.seek_place-p.ensures.1,
  rw c.completed_request.ensures c.requires.0,
  late-found _ _ _ c.place_side.ensures _ c.queue_of-queue.ensures.0 _ c.seek_place-p.ensures.0 c.requires.1,
)

pub returns : goal.returns
unfolding late_words entry_words
returns c = (
  late-at _ _ _ c.place_side.ensures _ c.queue_of-queue.ensures.0 _ c.seek_place-p.ensures.0 _ (rw c.completed_request.ensures at c.complete.ensures),
  c.clear_at.ensures,
)

use Rattle.store.specs.Door.{taken_ring}
use Rattle.store.proofs.taken.Goals as goal

pub returns-then-keep : goal.returns-then-keep
unfolding taken_ring
returns-then-keep c = rw c.if-keep.true

pub returns-else-keep : goal.returns-else-keep
unfolding taken_ring
returns-else-keep c = rw c.if-keep.false c.advanced.ensures

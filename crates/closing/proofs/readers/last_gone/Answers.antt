use Rattle.closing.proofs.Ends.{gone-size, gone-counts, last-ends, last-not}
use Rattle.closing.proofs.readers.last_gone.Goals as goal

pub has_writer-requires : goal.has_writer-requires
has_writer-requires c =
    ((gone-size _ _ _ c.requires).1, gone-counts _ _ _ c.requires)

pub returns-then-not-has_writer : goal.returns-then-not-has_writer
returns-then-not-has_writer c =
    λ n blocks x o b M.
    last-ends M _ c.has_writer.ensures c.if-not-has_writer.true _ _
    (c.end_readers.ensures n blocks x o b M)

pub returns-else-not-has_writer : goal.returns-else-not-has_writer
returns-else-not-has_writer c = λ n blocks x o b M. last-not M _ c.has_writer.ensures c.if-not-has_writer.false

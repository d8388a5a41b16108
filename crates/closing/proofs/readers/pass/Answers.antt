use Rattle.closing.proofs.Ends.{stop-size, stop-place, stays, ends}
use Rattle.closing.proofs.readers.pass.Goals as goal

pub read_place-row-requires : goal.read_place-row-requires
read_place-row-requires c =
    stop-place _ _ _ _ _ c.entry_place-place.ensures c.requires

pub returns-then-row-eq1 : goal.returns-then-row-eq1
returns-then-row-eq1 c =
    λ n f blocks x o b left W.
    stays W _ c.requires.1 c.requires.2 _ c.entry_place-place.ensures _
    c.read_place-row.ensures c.if-row-eq1.true _ c.link_at.ensures.0

pub end_read-requires : goal.end_read-requires
end_read-requires c =
    let size = stop-size _ _ _ _ c.requires in
    (size.2, stop-place _ _ _ _ _ c.entry_place-place.ensures c.requires, rw (← c.requires.1) c.requires.2)

pub returns : goal.returns
returns c =
    λ n f blocks x o b left W.
    ends W _ c.requires.1 c.requires.2 _ c.entry_place-place.ensures _ c.read_place-row.ensures c.if-row-eq1.false _ _
    c.end_read.ensures.segment c.end_read.ensures.buffers

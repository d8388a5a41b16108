use Rattle.fresh.proofs.Lengths.{no-segment, no_blocks, no-buffers, makes}
use Rattle.fresh.specs.Made.{nothing_made}
use Rattle.fresh.proofs.fresh.Goals as goal

pub returns-in_default : goal.returns-in_default
unfolding nothing_made
returns-in_default c = no-segment _ c.in_default.ensures.cases

pub returns-then-blocks-ne-BLOCKS_BYTES : goal.returns-then-blocks-ne-BLOCKS_BYTES
unfolding nothing_made
returns-then-blocks-ne-BLOCKS_BYTES c =
    rw c.in-Some.ensures.cases.same (no_blocks _ c.in-Some.ensures.cases.long c.if-blocks-ne-BLOCKS_BYTES.true)

pub returns-then-buffers-ne-BUFFERS_BYTES : goal.returns-then-buffers-ne-BUFFERS_BYTES
unfolding nothing_made
returns-then-buffers-ne-BUFFERS_BYTES c =
    rw c.in-Some.ensures.cases.same (no-buffers _ c.in-Some.ensures.cases.long c.if-blocks-ne-BLOCKS_BYTES.false c.if-buffers-ne-BUFFERS_BYTES.true)

pub returns : goal.returns
returns c =
    makes _ c.in-Some.ensures.cases.long c.if-blocks-ne-BLOCKS_BYTES.false _ _ _ c.if-buffers-ne-BUFFERS_BYTES.false c.fresh_segment.ensures c.zero.ensures
    c.zero-2.ensures

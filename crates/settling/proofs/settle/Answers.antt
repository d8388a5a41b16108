use Rattle.settling.proofs.Loops.{comes-here, comes-amid, read_again, read-less, after-amid, after-beside, write_again, write-less, beside-again, at_rest}
use Rattle.settling.proofs.settle.Goals as goal

pub loop-segment-init : goal.loop-segment-init
loop-segment-init c = (comes-here _ _ _, c.requires.1)

pub serve_reader-read-requires : goal.serve_reader-read-requires
serve_reader-read-requires c =
    comes-amid c.loop-segment.invariant.0 c.requires.0

pub loop-segment-smaller-then-read : goal.loop-segment-smaller-then-read
loop-segment-smaller-then-read c =
    read-less c.loop-segment.invariant.0 c.serve_reader-read.ensures c.if-read.true c.requires.0

pub loop-segment-preserved-then-read : goal.loop-segment-preserved-then-read
loop-segment-preserved-then-read c = (
  read_again c.loop-segment.invariant.0 c.serve_reader-read.ensures c.if-read.true,
  after-beside c.loop-segment.invariant.0 c.serve_reader-read.ensures c.requires.0 c.loop-segment.invariant.1,
)

pub serve_writer-written-requires : goal.serve_writer-written-requires
serve_writer-written-requires c = (
  after-amid c.loop-segment.invariant.0 c.serve_reader-read.ensures c.requires.0,
  after-beside c.loop-segment.invariant.0 c.serve_reader-read.ensures c.requires.0 c.loop-segment.invariant.1,
)

pub loop-segment-smaller : goal.loop-segment-smaller
loop-segment-smaller c =
    write-less c.loop-segment.invariant.0 c.serve_reader-read.ensures c.if-read.false c.serve_writer-written.ensures c.if-written.true
    c.requires.0

pub loop-segment-preserved : goal.loop-segment-preserved
loop-segment-preserved c = (
  write_again c.loop-segment.invariant.0 c.serve_reader-read.ensures c.if-read.false c.serve_writer-written.ensures c.if-written.true,
  beside-again c.loop-segment.invariant.0 c.serve_reader-read.ensures c.if-read.false c.serve_writer-written.ensures c.requires.0
      (after-beside c.loop-segment.invariant.0 c.serve_reader-read.ensures c.requires.0 c.loop-segment.invariant.1),
)

pub returns : goal.returns
returns c =
    at_rest c.loop-segment.invariant.0 c.serve_reader-read.ensures c.if-read.false c.serve_writer-written.ensures c.if-written.false

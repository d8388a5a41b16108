use Rattle.std.proofs.Common.{◌≡◌, ◌-◌, ◌+◌, arith, sym, ◌∙◌}
use Rattle.reader.proofs.Records.{from_end}
use Rattle.reader.proofs.Rounds.{round-on, round-bad}
use Rattle.reader.proofs.good_records.Goals as goal

pub returns-then-not-good_record : goal.returns-then-not-good_record
returns-then-not-good_record c =
    let size = rw c.loop.invariant.text at c.hand_out-size.ensures.size in
    let bytes = rw c.loop.invariant.text at c.hand_out-size.ensures.bytes in
    sym (c.loop.invariant.rest ∙ round-bad _ _ _ _ _ _ _ (omega arith) size bytes (omega arith) c.good_record.ensures c.if-not-good_record.true)

pub loop-preserved : goal.loop-preserved
loop-preserved c =
    let size = rw c.loop.invariant.text at c.hand_out-size.ensures.size in
    let bytes = rw c.loop.invariant.text at c.hand_out-size.ensures.bytes in
    let at = rw c.loop.invariant.text at c.hand_out-size.ensures.at in
    let left : c.args.head.held - (c.loop.counter + 1) ≡ c.args.head.held - c.loop.counter - 1 = omega arith in
    record {
      text = rw c.hand_out-size.ensures.text c.loop.invariant.text;
      rest = c.loop.invariant.rest ∙ round-on _ _ _ _ _ _ _ (omega arith) size bytes (omega arith) c.good_record.ensures c.if-not-good_record.false ∙ rw (at, left);
    }

pub returns : goal.returns
returns c = rw (c.loop.invariant.rest) (sym (from_end _ _ _ _ (omega arith)))

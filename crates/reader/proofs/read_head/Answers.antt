use Rattle.std.proofs.Common.{◌≡◌, arith, ◌∙◌}
use Rattle.reader.specs.Sheets.{head_of}
use Rattle.reader.proofs.Heads.{head_read, head-within}
use Rattle.reader.proofs.read_head.Goals as goal
use Rattle.reader.proofs.read_head.Goals.{After-head_of}

read : (c : After-head_of) → c.head_of.result ≡ head_of c.args.text.now
read c =
    let begun = c.new-reader.ensures in
    let H = c.hand_out-size.ensures in
    c.head_of.ensures
    ∙ head_read _ _ _ _ _ (rw (begun.0, begun.1) at H.size) (rw (begun.0, begun.1) at H.bytes) (omega arith) (rw (begun.0, begun.1) at H.at)

pub returns-clause-value : goal.returns-clause-value
returns-clause-value c = read c

pub returns-clause-at_in_bounds : goal.returns-clause-at_in_bounds
returns-clause-at_in_bounds c = rw (read c) (head-within c.args.text.now)

use Rattle.rules.specs.Answers.{answer_bytes}
use Rattle.desk.proofs.refusals.status.Goals as goal

pub returns : goal.returns
unfolding answer_bytes
returns c = record { bytes = c.encode.ensures.bytes; size = c.encode.ensures.size }

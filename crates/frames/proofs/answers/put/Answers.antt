use Rattle.std.proofs.Common.{refl, arith, zero-add}
use lib.Seq.{sets-eq}
use Rattle.frames.proofs.answers.put.Goals as goal

pub returns : goal.returns
returns c =
    (refl, rw (c.copy_from_slice.ensures.after, sets-eq c.args.bytes.now c.args.out.now 0 (omega arith), zero-add))

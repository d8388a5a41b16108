use Rattle.words.specs.Word.{Bytes}
use Rattle.transfers.proofs.Spent.{write-begun}
use native.Mathlib.Omega.{arith}
use Rattle.transfers.proofs.waiting.begin_write.Goals as goal

pub returns : goal.returns
returns c =
    let bytes : Bytes c.args.segment.now = unfold Bytes in c.fits-segment in
    write-begun _ bytes _ (omega arith) c.requires.1 c.put.ensures

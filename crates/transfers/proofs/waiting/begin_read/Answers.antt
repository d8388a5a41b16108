use Rattle.words.specs.Word.{Bytes}
use Rattle.transfers.proofs.Spent.{read-begun}
use native.Mathlib.Omega.{arith}
use Rattle.transfers.proofs.waiting.begin_read.Goals as goal

pub returns : goal.returns
returns c =
    let bytes : Bytes c.args.segment.now = unfold Bytes in c.fits-segment in
    read-begun _ bytes _ (omega arith) c.requires.1 c.put.ensures c.put-2.ensures

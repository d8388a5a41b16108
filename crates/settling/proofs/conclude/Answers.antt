use Rattle.words.specs.Word.{Bytes}
use native.Mathlib.Omega.{arith}
use Rattle.settling.proofs.Loops.{nobody-settles}
use Rattle.settling.proofs.Outs.{mid-out}
use Rattle.settling.proofs.conclude.Goals as goal

pub returns : goal.returns
returns c = λ o b M B r.
    mid-out (nobody-settles (omega (arith, c.get-2.ensures, c.if-get-lt-ENTRIES-2.false)) (omega (arith, c.get.ensures, c.if-get-lt-ENTRIES.false)) M) B _
    c.put_file.ensures c.known.ensures
    (unfold Bytes in c.fits-blocks)
    (unfold Bytes in c.fits-buffers) r

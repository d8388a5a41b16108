use Rattle.words.specs.Word.{Bytes}
use native.Mathlib.Omega.{arith}
use Rattle.settling.proofs.Loops.{nobody-settles}
use Rattle.settling.proofs.Outs.{mid-out}
use Rattle.settling.proofs.quick_conclude.Goals as goal

pub returns-then-get-ge-ENTRIES-2 : goal.returns-then-get-ge-ENTRIES-2
returns-then-get-ge-ENTRIES-2 c = λ o b M B r.
    mid-out (nobody-settles (omega (arith, c.get.ensures, c.if-get-ge-ENTRIES.true)) (omega (arith, c.get-then-get-ge-ENTRIES.ensures, c.if-get-ge-ENTRIES-2.true)) M) B _
    c.put_ring.ensures c.known.ensures
    (unfold Bytes in c.fits-blocks)
    (unfold Bytes in c.fits-buffers) r

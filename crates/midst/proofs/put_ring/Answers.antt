use Rattle.words.specs.Word.{Bytes}
use mathlib.Core.Path.{refl}
use native.Mathlib.Omega.{arith}
use Rattle.midst.proofs.Own.{ring-back}
use Rattle.midst.proofs.put_ring.Goals as goal

pub returns : goal.returns
returns c =
    ring-back _ _ _ c.requires.row_stands _ _ _ _ _ _ _ (omega arith) refl refl refl c.put.ensures c.put-2.ensures c.put-3.ensures
    (unfold Bytes in c.fits-segment)

-- Whether a data record fits.
use Prim.Native.Nat.{ℕ}
use mathlib.Core.Path.{◌≡◌, ap, ap₂}
use mathlib.Core.Bool.{Bool}
use Rattle.rules.specs.State.{Built}
use Rattle.rules.specs.Store.{used}
use Rattle.rules.specs.Requests.{fits, capacity_of}
use Rattle.accessors.specs.Sides.{count_side}
use Rattle.accessors.proofs.Counted.{count-writers}
use Rattle.midst.specs.declared.File as hand
use Rattle.midst.specs.Mid.{Start, Mid}
use Rattle.midst.proofs.Begins.{mid_row}
use Rattle.store.specs.Door.{fits_ring}
use Rattle.memory.specs.Memories.{Memories}

-- "used + W + 1 ≤ C", as the code has it
pub fits-is : {I : Built → Type 0} {f : ℕ} {o : Start} {m : Memories} {x : hand.File} {b : Built} → Mid I f o m x b → fits_ring x.ring (count_side m.segment f 2) ≡ fits b
unfolding fits_ring fits used capacity_of
fits-is {f = f} {m = m} {b = b} M =
    ap₂ {C = Bool} fits_ring (ap (λ (y : hand.File). y.ring) M.row) (count-writers m.segment f b M.allots.matches.agrees.eight (mid_row M))

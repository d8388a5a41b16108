-- The accessor that a call names, and the memories as the call begins.
use Prim.Native.Nat.{ℕ, ◌<◌}
use mathlib.Core.Path.{◌≡◌, sym, subst}
use mathlib.Core.Option.{some}
use Rattle.rules.specs.Limits.{files}
use Rattle.rules.specs.State.{Acc, Built, built}
use Rattle.rules.specs.Requests.{acc_at}
use Rattle.rules.specs.Desk.{Desk, file_of}
use Rattle.rules.specs.Allocation.{Alloc}
use Rattle.segment.specs.Fields.{file_at}
use Rattle.memory.specs.Memories.{Memories}
use Rattle.memory.specs.Fine.{Fine, StandsFor}
use Rattle.midst.specs.declared.File as hand
use Rattle.midst.specs.File.{file_of_row}
use Rattle.midst.specs.Mid.{Mid, start}
use Rattle.midst.proofs.Begins.{mid-begin}

-- the accessor a is open at place p of file f, which is b
pub record Named (d : Desk) (f p : ℕ) : Type 0 where
  pub file : f < files
  pub b : Built
  pub stands : file_of d f ≡ built b
  pub a : Acc
  pub at : acc_at b p ≡ some a

-- x is what the file's row holds
pub begin-mid : {ms : Memories} {d : Desk} {s : Alloc} {f p : ℕ} {x : hand.File} → StandsFor ms d s → (N : Named d f p) → x ≡ file_of_row (file_at ms.segment f)
    → Mid Fine f (start d s ms) ms x N.b
begin-mid {ms} {d} {s} {f} S N e =
    subst (λ (y : hand.File). Mid Fine f (start d s ms) ms y N.b) (sym e) (mid-begin S f N.b N.file N.stands)

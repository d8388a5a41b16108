-- A record is put: share and ring are those of the rules' next file.
use Prim.Native.Nat.{ℕ, ◌*◌}
use mathlib.Core.Path.{◌≡◌, ap}
use mathlib.Core.List.{List}
use lib.Seq.{sets}
use Rattle.rules.specs.Limits.{share_bytes}
use Rattle.rules.specs.State.{Rec}
use Rattle.rules.specs.Requests.{put_rec}
use Rattle.rules.specs.Memories.{share_at}
use Rattle.laws.proofs.Midst as laws
use Rattle.ring.specs.declared.Ring.{Ring}
use Rattle.blocks.specs.Writing.{inscribed}
use Rattle.midst.specs.declared.File as hand
use Rattle.midst.proofs.Stores.{mid-put}
use Rattle.store.specs.Door.{Bare, Keeps, put_in}

-- the file in hand with another ring
pub in-hand : (w : ℕ) (y z : Ring) → y ≡ z → ◌≡◌ {A = hand.File} (record { words = w; ring = y }) (record { words = w; ring = z })
in-hand w y z e = ap (λ (r : Ring). record { words = w; ring = r }) e

pub put_keeps : (f : ℕ) (r : Rec) (x y : hand.File) (blocks blocks' : List ℕ) → y ≡ put_in x
    → blocks' ≡ sets blocks (share_bytes * f) (inscribed x.words x.ring r (share_at f blocks)) → Keeps f (put_rec r) blocks x blocks' y
put_keeps f r x y blocks blocks' ey eb =
    λ o xs buffers b M. rw (ey, eb) (mid-put {J = Bare} M M.good.0 M.good.1 r tt (laws.mid-put f M.file o.alloc r b M.allots))

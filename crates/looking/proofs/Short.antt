-- What look shows fits a record buffer, whatever the memories are seen as.
use Prim.Native.Nat.{ℕ, ◌≤◌}
use mathlib.Core.Path.{◌≡◌}
use mathlib.Core.List.{List}
use mathlib.Core.Option.{Option}
use native.Mathlib.Omega.{arith}
use lib.ListN.{length}
use Rattle.rules.specs.Limits.{buffer_bytes}
use Rattle.rules.specs.Desk.{look, reply_bytes}
use Rattle.words.specs.Word.{Bytes}
use Rattle.promises.specs.Promise.{Standing, Seen, unsound, stands, reply_of}
use Rattle.promises.proofs.Seen.{sees}
use Rattle.promises.proofs.Fits.{look-fits}
use Rattle.memory.specs.Memories.{Memories}

seen-short : (m : Memories) (v : Option Standing) → Seen m v → (f p : ℕ) → length (reply_bytes (reply_of v (look f p))) ≤ buffer_bytes
unfolding reply_of reply_bytes
seen-short m v (unsound e) f p = omega arith
seen-short m v (stands d s S) f p = look-fits d S.fine f p

pub short : (m : Memories) → Bytes m.segment → Bytes m.blocks → Bytes m.buffers → (f p : ℕ) (ys : List ℕ)
    → ((v : Option Standing) → Seen m v → ys ≡ reply_bytes (reply_of v (look f p))) → length ys ≤ buffer_bytes
short m bs bb bf f p ys h = let (v, k) = sees bs bb bf in rw (h v k) (seen-short m v k f p)

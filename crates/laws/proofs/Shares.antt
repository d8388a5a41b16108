-- The held records' bytes stand in the share as document 01 lays them out, after any run from a fresh desk: reading the share back gives exactly
-- the records held.
use mathlib.Core.Path.{◌≡◌}
use mathlib.Core.List.{List}
use Prim.Native.Nat.{ℕ}
use lib.ListN.{length}
use Rattle.rules.specs.Limits.{share_bytes}
use Rattle.rules.specs.State.{Built}
use Rattle.rules.specs.Desk.{Call, fresh_desk, file_of, after}
use Rattle.shares.specs.Back.{read_back}
use Rattle.shares.proofs.Back.{back}
use Rattle.laws.specs.Runs.{OnFile}
use Rattle.laws.specs.Room.{Roomy}
use Rattle.laws.proofs.Files.{on-file}
use Rattle.laws.proofs.Room.{good-sized, roomy}

-- reading the share back gives exactly the records held
abbrev pub ReadsBack : Built → Type 0
ReadsBack b = (length b.store.share ≡ share_bytes) × (read_back b.geo b.store.share b.store.block b.store.spent (length b.store.recs) ≡ b.store.recs)

pub reads-back : (f : ℕ) (cs : List Call) → OnFile ReadsBack (file_of (after fresh_desk cs) f)
reads-back f cs = on-file Roomy ReadsBack (λ b k. (k.holds.long, back b.geo b.store (good-sized b.geo k.geo) k.holds)) (file_of (after fresh_desk cs) f) (roomy f cs)

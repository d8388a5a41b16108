-- What a file that memories stand for holds can be written down, and so it makes the round trip.
use Prim.Native.Nat.{ℕ, ◌+◌, ◌*◌, ◌<◌, ◌≤◌}
use mathlib.Core.Path.{◌≡◌}
use mathlib.Core.List.{List, [], ◌∷◌}
use mathlib.Core.Option.{some}
use native.Mathlib.Omega.{arith}
use lib.ListN.{length}
use Rattle.rules.specs.Limits.{files, share_bytes}
use Rattle.rules.specs.State.{Rec, Built, built}
use Rattle.rules.specs.Store.{used, record_words}
use Rattle.rules.specs.Sheet.{sheet, read_sheet}
use Rattle.rules.specs.Desk.{Desk, file_of}
use Rattle.rules.specs.Allocation.{Alloc}
use Rattle.rules.specs.Memories.{share_at}
use Rattle.shares.specs.Groups.{All, Small}
use Rattle.shares.specs.Laid.{GoodRec}
use Rattle.words.specs.Word.{Bytes}
use Rattle.shares.specs.Back.{used_recs}
use Rattle.shares.proofs.Groups.{all_drop}
use Rattle.shares.proofs.Says.{small-recs}
use Rattle.shares.proofs.Used.{drop-used_recs}
use Rattle.shares.proofs.Back.{back}
use Rattle.laws.specs.Runs.{OnFile}
use Rattle.laws.specs.Changes.{GoodRecs, GoodSheet}
use Rattle.laws.proofs.Room.{good-sized}
use Rattle.memory.specs.Memories.{Memories}
use Rattle.memory.specs.Stands.{FileBytes}
use Rattle.memory.specs.Fine.{Fine, StandsFor}
use Rattle.roundtrip.specs.Trip.{Written, sheet_of, Trip, sheet_room}
use Rattle.roundtrip.proofs.Plain.{part_bytes, plain_back}
use Rattle.roundtrip.proofs.Sheets.{sheet-back}
use Rattle.roundtrip.proofs.Trip.{room-trip}

-- a fine file whose share is bytes

good-recs : (words : ℕ) (rs : List Rec) → All GoodRec rs → Small (words + 3) rs → GoodRecs words rs
unfolding GoodRecs All record_words
good-recs words [] k m = tt
good-recs words (r ∷ rs) k m = ((k.0, omega (arith, m.0)), good-recs words rs k.1 m.1)

fine-good : (b : Built) → Fine b → GoodSheet (sheet_of b)
unfolding used
fine-good b k =
    let g = b.geo in
    let o = good-sized g k.room.geo in
    record {
      geo = k.room.geo;
      few = omega (arith, k.room.places);
      recs = good-recs g.words b.store.recs
          (rw (← drop-used_recs g b.store o k.room.holds) (all_drop GoodRec b.store.spent (used_recs g b.store) k.records))
          (small-recs g b.store k.room.holds);
    }

fine-written : (b : Built) → Fine b → Bytes b.store.share → Written (sheet_of b)
fine-written b k h =
    let s = b.store in
    let e = back b.geo s (good-sized b.geo k.room.geo) k.room.holds in
    record { good = fine-good b k; plain = rw (← e) (plain_back s.share h b.geo s.block s.spent (length s.recs)) }

-- every file of a desk that memories stand for

module _ (ms : Memories) (d : Desk) (s : Alloc) (f : ℕ) (b : Built) (h : StandsFor ms d s) (l : f < files) (e : file_of d f ≡ built b) where
  share-bytes : Bytes b.store.share
  unfolding Bytes FileBytes
  share-bytes =
      let k : FileBytes (built b) (share_at f ms.blocks) _ = rw e at (h.stands.bodies.each f l) in
      rw (← k.0) (part_bytes share_bytes (share_bytes * f) ms.blocks h.stands.bodies.blocks-bytes)

  pub stands-written : Written (sheet_of b)
  unfolding OnFile
  stands-written = let k : OnFile Fine (built b) = rw e at (h.fine f l) in fine-written b k share-bytes

  pub stands-back : read_sheet (sheet b.geo b.store.recs) ≡ some (sheet_of b)
  stands-back = sheet-back b.geo b.store.recs stands-written

  pub stands-trip : (n : ℕ) → sheet_room ≤ n → Trip b n
  stands-trip n m = room-trip b n stands-written m

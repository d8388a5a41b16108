-- What is counted is what the rules count.
use Prim.Native.Nat.{ℕ, ◌<◌}
use mathlib.Core.Path.{◌≡◌, ap, ◌∙◌}
use mathlib.Core.List.{List}
use lib.ListN.{length}
use Rattle.kinds.specs.declared.Answer.TheVariants.{Counted}
use Rattle.rules.specs.Limits.{files}
use Rattle.rules.specs.State.{Built, built, File}
use Rattle.rules.specs.Reply.{answering}
use Rattle.rules.specs.FileCounts.{data_count, counts}
use Rattle.rules.specs.Requests.{writers, readers}
use Rattle.rules.specs.Desk.{Desk, file_of}
use Rattle.rules.specs.Allocation.{Alloc}
use Rattle.rules.specs.Memories.{share_at}
use Rattle.shares.proofs.Back.{back}
use Rattle.laws.proofs.Room.{good-sized}
use Rattle.segment.specs.Fields.{file_at}
use Rattle.records.specs.Cursor.{held_recs}
use Rattle.memory.specs.Memories.{Memories}
use Rattle.memory.specs.Fine.{StandsFor}
use Rattle.midst.specs.declared.File as hand
use Rattle.midst.specs.File.{file_of_row}
use Rattle.midst.proofs.FileStands.{row_is, share-is, room}
use Rattle.accessors.specs.Sides.{count_side}
use Rattle.accessors.proofs.Counted.{count-writers, count-readers}
use Rattle.accessors.proofs.Rows.{shown}

-- the memories stand for a desk whose file f is b
module _ {m : Memories} {d : Desk} {s : Alloc} (S : StandsFor m d s) (f : ℕ) (l : f < files) (b : Built) (e : file_of d f ≡ built b) where
  -- the counts are its counts
  pub counts-file : (x : hand.File) (ys : List ℕ) (n w r : ℕ) → x ≡ file_of_row (file_at m.segment f) → ys ≡ share_at f m.blocks
      → n ≡ data_count (held_recs x.words x.ring ys) → w ≡ count_side m.segment f 2 → r ≡ count_side m.segment f 1
      → counts b ≡ answering (Counted n x.ring.held w r) b
  unfolding counts
  counts-file x ys n w r h k en ew er =
      let H = shown S f l b e in
      let R = room S f l b e in
      let a : n ≡ data_count b.store.recs = (rw (h ∙ row_is S f l b e, k ∙ share-is S f l b e) at en) ∙ ap data_count (back b.geo b.store (good-sized b.geo R.geo) R.holds) in
      let c : x.ring.held ≡ length b.store.recs = ap (λ (y : hand.File). y.ring.held) (h ∙ row_is S f l b e) in
      let v : w ≡ writers b = ew ∙ count-writers m.segment f b H.eight H.rows in
      let u : r ≡ readers b = er ∙ count-readers m.segment f b H.eight H.rows in
      rw (a, c, v, u)

-- What is put of a file is what the rules have of it.
use Prim.Native.Nat.{ℕ, ◌+◌, ◌-◌, ◌*◌, ◌≤◌, ◌<◌}
use mathlib.Core.Path.{◌≡◌, sym, ap, ◌∙◌}
use mathlib.Core.List.{[], ◌++◌}
use lib.ListN.{length}
use Rattle.kinds.specs.declared.Answer.{Answer}
use Rattle.kinds.specs.declared.Answer.TheVariants.{Counted}
use Rattle.rules.specs.Limits.{files, most_words}
use Rattle.rules.specs.State.{Built, built}
use Rattle.rules.specs.Geometry.{capacity}
use Rattle.rules.specs.Reply.{answers, Out, leaves, answering}
use Rattle.rules.specs.FileCounts.{data_count, counts}
use Rattle.rules.specs.Requests.{writers, readers, capacity_of}
use Rattle.rules.specs.Store as rules
use Rattle.rules.specs.Desk.{Desk, file_of}
use Rattle.rules.specs.Allocation.{Alloc}
use Rattle.laws.proofs.Room.{good-sized}
use Rattle.segment.specs.Fields.{file_at}
use Rattle.ring.specs.Ring.{Ranged, used}
use Rattle.ring.proofs.Stores.{ranged}
use Rattle.memory.specs.Memories.{Memories}
use Rattle.memory.specs.Fine.{StandsFor}
use Rattle.midst.specs.declared.File as hand
use Rattle.midst.specs.File.{file_of_row}
use Rattle.midst.proofs.FileStands.{row_is, room}
use Rattle.notices.specs.Lines.{geometry_line, held_line}
use Rattle.board.specs.Board.{room_left, file_text}
use Rattle.board.specs.Found.{accessors_at}
use Rattle.board.proofs.Places.{accessors-are}

-- the counts
counted-as : (b : Built) (r : Answer) → counts b ≡ answering r b → r ≡ Counted (data_count b.store.recs) (length b.store.recs) (writers b) (readers b)
unfolding counts answering leaves
counted-as b r e = let k : answers (Counted (data_count b.store.recs) (length b.store.recs) (writers b) (readers b)) [] ≡ answers r [] = ap (λ (o : Out). o.reply) e in cc

pub counts-are : (b : Built) (r : Answer) → counts b ≡ answering r b → (n all w m : ℕ) → r ≡ Counted n all w m
    → (n ≡ data_count b.store.recs) × (all ≡ length b.store.recs) × (w ≡ writers b)
counts-are b r e n all w m k =
    let z : Counted n all w m ≡ Counted (data_count b.store.recs) (length b.store.recs) (writers b) (readers b) = sym k ∙ counted-as b r e in
    (cc, cc, cc)

-- the answer of counts is no other answer
pub counts-only : (b : Built) (r : Answer) → counts b ≡ answering r b → ((n all w m : ℕ) → r ≡ Counted n all w m → ⊥) → ⊥
counts-only b r e k = k _ _ _ _ (counted-as b r e)

-- the memories stand for a desk whose file f is b, and x is that file in hand
module _ {m : Memories} {d : Desk} {s : Alloc} (S : StandsFor m d s) (f : ℕ) (hf : f < files) (b : Built) (is : file_of d f ≡ built b)
    (x : hand.File) (e : x ≡ file_of_row (file_at m.segment f)) where
  pub ring-ranged : Ranged x.ring
  ring-ranged = rw (e ∙ row_is S f hf b is) (ranged b.geo b.store (good-sized b.geo (room S f hf b is).geo) (room S f hf b is).holds)

  pub room-low : (w : ℕ) → w ≡ writers b → used x.ring + w ≤ x.ring.factor * x.ring.blocks
  unfolding rules.used capacity
  room-low w k = rw (e ∙ row_is S f hf b is, k) (room S f hf b is).places

  pub words-low : x.words ≤ most_words
  words-low = rw (e ∙ row_is S f hf b is) (room S f hf b is).geo.words-high

  pub file-is : (n all w left : ℕ) → n ≡ data_count b.store.recs → all ≡ length b.store.recs → w ≡ writers b
      → left ≡ x.ring.factor * x.ring.blocks - (used x.ring + w)
      → geometry_line f x.words x.ring.factor x.ring.blocks ++ (held_line n all left ++ accessors_at m.segment f) ≡ file_text f (built b)
  unfolding file_text room_left capacity_of rules.used capacity
  file-is n all w left en ea ew el =
      let k : left ≡ room_left b = rw (e ∙ row_is S f hf b is, ew) at el in
      rw (e ∙ row_is S f hf b is, en, ea, k, accessors-are S f hf b is)

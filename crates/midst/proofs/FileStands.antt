-- The row and the share of a built file, in memories that stand for its desk, hold its store.
use Prim.Native.Nat.{ℕ, ◌<◌}
use mathlib.Core.Path.{◌≡◌, refl, ap, ◌∙◌}
use mathlib.Core.List.{List}
use Rattle.rules.specs.Limits.{files}
use Rattle.rules.specs.State.{Built, File, built}
use Rattle.rules.specs.Reply.{Out}
use Rattle.rules.specs.Calls.{Ask}
use Rattle.rules.specs.Desk.{Desk, file_of}
use Rattle.rules.specs.Allocation.{Alloc}
use Rattle.rules.specs.Memories.{share_at}
use Rattle.laws.specs.Runs.{OnFile}
use Rattle.laws.specs.Room.{Roomy}
use Rattle.laws.proofs.Room.{good-sized}
use Rattle.segment.specs.Fields.{file_row_of, file_at}
use Rattle.ring.specs.Held.{Held}
use Rattle.ring.proofs.Stores.{fitted}
use Rattle.memory.specs.Memories.{Memories}
use Rattle.memory.specs.Image.{file_words}
use Rattle.memory.specs.Stands.{FileBytes}
use Rattle.memory.specs.Fine.{Fine, StandsFor}
use Rattle.accessors.proofs.Rows.{shown}
use Rattle.midst.specs.declared.File as hand
use Rattle.midst.specs.File.{file_of_row, in_hand}
use Rattle.midst.specs.FileStands.{FileStands}
use Rattle.midst.specs.Accepted.{NotRefused}

fine_of : (x : File) (b : Built) → x ≡ built b → OnFile Fine x → Fine b
unfolding OnFile
fine_of x b e h = rw e at h

bytes_of : (x : File) (b : Built) (ys zs : List ℕ) → x ≡ built b → FileBytes x ys zs → ys ≡ b.store.share
unfolding FileBytes
bytes_of x b ys zs e h = let k : FileBytes (built b) ys zs = rw e at h in k.0

-- the memories stand for a desk whose file f is b
module _ {m : Memories} {d : Desk} {s : Alloc} (S : StandsFor m d s) (f : ℕ) (l : f < files) (b : Built) (e : file_of d f ≡ built b) where
  -- the row, as the code has it
  pub row_is : file_of_row (file_at m.segment f) ≡ in_hand b
  unfolding file_at file_row_of file_words
  row_is = ap (λ (r : List ℕ). file_of_row (file_row_of r)) (shown S f l b e).file

  pub share-is : share_at f m.blocks ≡ b.store.share
  share-is = bytes_of (file_of d f) b _ _ e (S.stands.bodies.each f l)

  pub room : Roomy b
  room = (fine_of (file_of d f) b e (S.fine f l)).room

  -- the ring and the share hold its store
  pub held-file : (x : hand.File) (ys : List ℕ) → x ≡ file_of_row (file_at m.segment f) → ys ≡ share_at f m.blocks → Held x.words x.ring ys
  held-file x ys h k =
      let z = good-sized b.geo room.geo in
      rw (h ∙ row_is, k ∙ share-is)
      (record { fitted = fitted b.geo b.store room.geo.words-high room.geo.factor-high z; store = b.store; holds = room.holds; ring = refl; share = refl })

-- a call of the file that is not refused
pub accepted-stands : {K : Built → Out → Type 0} {m : Memories} {d : Desk} {s : Alloc} (f : ℕ) (q : Ask) → StandsFor m d s → NotRefused K d f q → FileStands m.segment m.blocks f
accepted-stands {m = m} {d = d} {s = s} f q S a = record { file = a.file; buffers = m.buffers; d = d; s = s; b = a.b; stands = S; is = a.stands }

-- A file that was not built is: its row is written, its share is its store's, and its buffers are zeros.
use Prim.Native.Nat.{ℕ, zero, suc, ◌*◌, ◌<◌}
use mathlib.Core.Path.{◌≡◌, refl, sym, ap, subst, ◌∙◌}
use mathlib.Core.List.{List}
use mathlib.Core.Option.{Option, none}
use mathlib.Core.Logic.{◌⊎◌, inl, inr}
use native.Mathlib.Omega.{arith}
use native.Mathlib.Decide.{dec_lt}
use lib.ListN.{length, get_or, replicate}
use lib.Seq.{sets, length-sets}
use Rattle.words.specs.Word.{zeros, part, Bytes}
use Rattle.words.proofs.Runs.{length-zeros}
use Rattle.words.proofs.Parts.{part-own, part-other}
use Rattle.segment.specs.Layout.{file_row, file_row_at}
use Rattle.segment.specs.Table.{fill}
use Rattle.rules.specs.Limits.{files, places, share_bytes}
use Rattle.rules.specs.State.{Acc, Geo, Store, File, unbuilt, built}
use Rattle.rules.specs.Requests.{acc_at}
use Rattle.rules.specs.Reply.{Out, hushed}
use Rattle.rules.specs.Memories.{share_at}
use Rattle.rules.specs.Open.{new_file}
use Rattle.rules.specs.Desk.{Desk, file_of, with_file}
use Rattle.rules.specs.Allocation.{Alloc, allot_all}
use Rattle.memory.specs.Memories.{Memories}
use Rattle.memory.specs.Image.{acc_of, file_words, rq_of, wq_of}
use Rattle.laws.specs.Outstanding.{req_of}
use Rattle.laws.proofs.EightFiles.{file-here}
use Rattle.memory.specs.Stands.{Segment, buffers_at, FileBytes}
use Rattle.memory.specs.Fine.{StandsFor}
use Rattle.memory.proofs.Frames.{bodies-file, file_bytes}
use Rattle.midst.specs.Seg.{Seg}
use Rattle.midst.specs.Outcome.{Outcome}
use Rattle.midst.proofs.Alike.{SameLists}
use Rattle.midst.proofs.Begins.{stands-seg, seg-end}

-- a file with no accessor has none of all that an unbuilt file has none of

new-acc : (g : Geo) (t : Store) (p : ℕ) → acc_of unbuilt p ≡ acc_of (built (hushed (new_file g t))) p
unfolding acc_of acc_at hushed new_file
new-acc g t p = go places p
  where
    go : (n i : ℕ) → ◌≡◌ {A = Option Acc} none (get_or (replicate n none) i none)
    go zero i = refl
    go (suc n) zero = refl
    go (suc n) (suc i) = go n i

new-alike : (g : Geo) (t : Store) → SameLists unbuilt (built (hushed (new_file g t)))
unfolding rq_of wq_of hushed new_file
new-alike g t = record { reads = refl; writes = refl; reqs = λ p. ap req_of (new-acc g t p) }

-- the i-th of m parts of k bytes is written
module _ (ys zs : List ℕ) (k m i : ℕ) (n : length ys ≡ k * m) (h : i < m) (l : length zs ≡ k) where
  written : part k i (sets ys (k * i) zs) ≡ zs
  written = part-own ys zs k m i n h l

  beside : (j : ℕ) → (j ≡ i → ⊥) → part k j (sets ys (k * i) zs) ≡ part k j ys
  beside j u = part-other ys zs k i j l (go (dec_lt i j))
    where
      go : Dec (i < j) → (i < j) ⊎ (j < i)
      go (yes w) = inl w
      go (no w) = inr (omega arith)

module _ {m : Memories} {d : Desk} {s : Alloc} (S : StandsFor m d s) (f : ℕ) (hf : f < files) (u : file_of d f ≡ unbuilt) (g : Geo) (t : Store) (long : length t.share ≡ share_bytes)
    (m' : Memories) (wrote : m'.segment ≡ fill m.segment (file_row_at f) (file_words (built (new_file g t)))) (laid : m'.blocks ≡ sets m.blocks (share_bytes * f) t.share)
    (blank : m'.buffers ≡ sets m.buffers (file_bytes * f) (zeros file_bytes)) (xs-bytes : Bytes m'.segment) (blocks-bytes : Bytes m'.blocks) (buffers-bytes : Bytes m'.buffers) where
  abbrev new : File
  new = built (hushed (new_file g t))

  new-segment : Segment m'.segment (with_file d f new) s
  unfolding file_words hushed new_file
  new-segment =
      subst (λ (ys : List ℕ). Segment ys (with_file d f new) s) (sym wrote)
      (seg-end m.segment d f unbuilt new s _ hf S.agreed.eight (new-alike g t) (new-acc g t) (subst (λ (e : Desk). Seg m.segment e s (file_row f)) (sym (file-here d f unbuilt u)) (stands-seg S f))
      refl refl (subst Bytes wrote xs-bytes))

  shares : (h : ℕ) → (h ≡ f → ⊥) → share_at h m'.blocks ≡ share_at h m.blocks
  shares h n = rw laid (beside m.blocks t.share share_bytes files f S.stands.bodies.blocks-size hf long h n)

  others : (h : ℕ) → (h ≡ f → ⊥) → buffers_at h m'.buffers ≡ buffers_at h m.buffers
  unfolding buffers_at
  others h n = rw blank (beside m.buffers (zeros file_bytes) file_bytes files f S.stands.bodies.buffers-size hf (length-zeros file_bytes) h n)

  own : FileBytes new (share_at f m'.blocks) (buffers_at f m'.buffers)
  unfolding FileBytes buffers_at hushed new_file
  own = (
    rw laid (written m.blocks t.share share_bytes files f S.stands.bodies.blocks-size hf long),
    rw blank (written m.buffers (zeros file_bytes) file_bytes files f S.stands.bodies.buffers-size hf (length-zeros file_bytes)),
  )

  -- a call that leaves such a file, and takes and frees no entry
  pub made : (x : Out) → x.file ≡ new → allot_all f x.haps s ≡ s → Outcome f d s x m m'
  made x e a = record {
    stands = rw (e, a) record {
      segment = new-segment;
      bodies = bodies-file d m m' f new S.stands.bodies S.agreed.eight hf blocks-bytes buffers-bytes
          (ap length laid ∙ length-sets m.blocks (share_bytes * f) t.share) (ap length blank ∙ length-sets m.buffers (file_bytes * f) (zeros file_bytes)) (λ h k n. (shares h n, others h n)) own;
    };
    apart = record { shares = λ h k n. shares h n; others = λ h k n. others h n };
  }

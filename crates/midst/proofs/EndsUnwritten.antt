-- A call ends that left the file's row as it was: nothing is written back.
use Prim.Native.Nat.{ℕ, zero, suc, ◌+◌, ◌*◌, ◌/◌, ◌%◌, ◌<◌}
use mathlib.Core.Path.{◌≡◌, refl, sym, ap, ◌∙◌, subst}
use mathlib.Core.Bool.{Bool}
use mathlib.Core.List.{List, []}
use mathlib.Core.Logic.{inl}
use mathlib.Core.Option.{some}
use native.Mathlib.Omega.{arith}
use native.Mathlib.Decide.{ℕ_discrete}
use lib.ListN.{get_or}
use lib.Seq.{set-get_or}
use Rattle.words.specs.Word.{word_at, Bytes}
use Rattle.segment.specs.Layout.{row_count, file_width, file_row_at, place_row_at}
use Rattle.segment.proofs.Apart.{words-file}
use Rattle.segment.specs.Table.{nth, put_nth, row, fill}
use Rattle.segment.proofs.Rows.{row_other}
use Rattle.requests.specs.Moves.{slot_of, cancelled}
use Rattle.rules.specs.Limits.{files}
use Rattle.rules.specs.State.{idle, Acc, Built, built}
use Rattle.rules.specs.Requests.{acc_at, with_accs, with_queues, with_timers, alter_acc, say, requeue, leave, cancel, with_buffers, request}
use Rattle.rules.specs.Reply.{hushed}
use Rattle.rules.specs.Desk.{with_file}
use Rattle.rules.specs.Allocation.{place_of, allot_all}
use Rattle.laws.specs.EightFiles.{EightFiles}
use Rattle.laws.proofs.Outstanding.{outstanding-most}
use Rattle.laws.proofs.EightFiles.{eight-put, file-same}
use Rattle.memory.specs.Memories.{Memories, memories}
use Rattle.memory.specs.Image.{file_words, row_of}
use Rattle.memory.specs.Stands.{Bodies, Stands}
use Rattle.memory.proofs.Image.{row_of-file}
use Rattle.midst.specs.declared.File as hand
use Rattle.midst.specs.File.{file_row_words, in_hand}
use Rattle.midst.specs.Seg.{Seg, queue_at}
use Rattle.midst.specs.Mid.{Start, Mid}
use Rattle.midst.proofs.Begins.{mid-file, mid-end}
use Rattle.midst.proofs.Changes.{Knows}
use Rattle.midst.proofs.Terms.{waits_at, waits-awaits}
use Rattle.midst.proofs.Placed.{Placed, placed_of}
use Rattle.midst.proofs.EntryLeaves.{seg-cancel}

-- words written where they stand

put_back : (s : List ℕ) (k : ℕ) → Bytes s → put_nth s k (nth s k) ≡ s
unfolding put_nth nth Bytes
put_back s k h =
    let a : word_at s (2 * k) / 256 ≡ get_or s (2 * k) 0 = omega (arith, h (2 * k), h (2 * k + 1)) in
    let b : word_at s (2 * k) % 256 ≡ get_or s (2 * k + 1) 0 = omega (arith, h (2 * k), h (2 * k + 1)) in
    let c : suc (2 * k) ≡ 2 * k + 1 = omega arith in
    rw (a, b, c, set-get_or s (2 * k) 0, set-get_or s (2 * k + 1) 0)

pub fill-back : (s : List ℕ) (k n : ℕ) → Bytes s → fill s k (row s k n) ≡ s
unfolding fill row
fill-back s k zero h = refl
fill-back s k (suc n) h = ap (λ t. fill t (suc k) (row s (suc k) n)) (put_back s k h) ∙ fill-back s (suc k) n h

-- the file's row in the segment is that of b
abbrev pub Rowed : List ℕ → ℕ → Built → Type 0
Rowed xs f b = row xs (file_row_at f) file_width ≡ file_words (built b)

-- another row is written
pub rowed-place : (xs : List ℕ) (f i : ℕ) (r : List ℕ) (b : Built) → f < files → Rowed xs f b → Rowed (fill xs (place_row_at i) r) f b
rowed-place xs f i r b h e = row_other xs (place_row_at i) r (file_row_at f) file_width (inl (omega arith)) ∙ e

hand-words : (x : hand.File) (b : Built) → x ≡ in_hand b → file_row_words x ≡ file_words (built b)
unfolding file_row_words file_words
hand-words x b e = rw e

module _ {I : Built → Type 0} {f : ℕ} {o : Start} {m : Memories} {x : hand.File} {b : Built} (M : Mid I f o m x b) (e : Rowed m.segment f b) where
  -- no row is in hand
  whole : Seg m.segment (with_file o.desk f (built b)) (allot_all f b.past o.alloc) row_count
  whole = record { rows = M.segment.rows; boxes = M.segment.boxes; same = λ i h _. go i h (ℕ_discrete i f) }
    where
      go : (i : ℕ) → i < row_count → Dec (i ≡ f) → get_or M.segment.rows i [] ≡ row_of (with_file o.desk f (built b)) i
      go i h (yes z) =
          rw z (sym (M.segment.boxes.rows f (omega (arith, M.file))) ∙ words-file m.segment f M.file ∙ e
          ∙ sym (row_of-file (with_file o.desk f (built b)) f M.file ∙ ap file_words (mid-file M)))
      go i h (no n) = M.segment.same i h n

  -- a waiting request is cancelled
  pub rowed-cancel : (K : Knows I) (p : ℕ) (a : Acc) → acc_at b p ≡ some a → (side : Bool) → waits_at side a.req ≡ 1
      → Rowed (cancelled m.segment (slot_of m.segment (queue_at side f) (place_of f p)) (place_of f p)) f (cancel p b)
  unfolding cancel leave say with_timers requeue request with_buffers alter_acc with_accs with_queues file_words
  rowed-cancel K p a k side w =
      let n : EightFiles (with_file o.desk f (built b)) = eight-put o.desk f (built b) M.eight in
      let P : Placed f p (with_file o.desk f (built b)) b a (allot_all f b.past o.alloc) =
      placed_of f p _ b a _ M.file n (mid-file M) (K.agree b M.good) k M.allots.matches.whole.long M.allots.matches.agrees
      (omega (arith, waits-awaits side a.req, outstanding-most a.req))
      in
      let S = seg-cancel P side w whole idle (cancel p b) refl refl refl (λ _. refl) refl in
      sym (words-file (cancelled m.segment (slot_of m.segment (queue_at side f) (place_of f p)) (place_of f p)) f M.file) ∙ S.boxes.rows f (omega (arith, M.file)) ∙ S.same f (omega (arith, M.file)) (λ z. omega (arith, M.file)) ∙ row_of-file _ f M.file
      ∙ ap file_words (file-same (with_file o.desk f (built b)) f (built (cancel p b)) n M.file)

  pub mid-stay : Bodies o.memories o.desk → Bytes m.segment → Bytes m.blocks → Bytes m.buffers
      → Stands m (with_file o.desk f (built (hushed b))) (allot_all f b.past o.alloc)
  mid-stay B bytes blocks-bytes buffers-bytes =
      let same : fill m.segment (file_row_at f) (file_row_words x) ≡ m.segment =
      ap (fill m.segment (file_row_at f)) (hand-words x b M.row ∙ sym e) ∙ fill-back m.segment (file_row_at f) file_width bytes
      in
      subst (λ (ys : List ℕ). Stands (memories ys m.blocks m.buffers) (with_file o.desk f (built (hushed b))) (allot_all f b.past o.alloc)) same
      (mid-end M B (subst Bytes (sym same) bytes) blocks-bytes buffers-bytes)

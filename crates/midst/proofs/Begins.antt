-- A call begins: what the memories stand for, with file f in hand. And it ends: the file's row is written back.
use Prim.Native.Nat.{ℕ, ◌/◌, ◌%◌, ◌<◌}
use mathlib.Core.Path.{◌≡◌, refl, sym, ap, ◌∙◌}
use mathlib.Core.List.{List, []}
use native.Mathlib.Omega.{arith}
use native.Mathlib.Decide.{ℕ_discrete}
use lib.ListN.{length, get_or, set}
use lib.Seq.{get_or-set_same, get_or-set_other}
use Rattle.segment.specs.Layout.{row_count, file_row, place_row, segment_bytes, file_width, place_width, file_row_at, place_row_at}
use Rattle.segment.proofs.Apart.{row-file, words-place}
use Rattle.segment.specs.Table.{row, fill}
use Rattle.segment.specs.Fields.{file_row_of, place_row_of, file_at, place_at}
use Rattle.ports.proofs.Contents.{fill-boxes}
use Rattle.rules.specs.Limits.{files, places}
use Rattle.rules.specs.State.{Hap, Built, File, unbuilt, built}
use Rattle.rules.specs.Requests.{acc_at}
use Rattle.rules.specs.Reply.{hushed}
use Rattle.rules.specs.Memories.{share_at}
use Rattle.rules.specs.Desk.{Desk, file_of, with_file}
use Rattle.rules.specs.Allocation.{Alloc, place_of, allot_all}
use Rattle.laws.specs.Runs.{OnFile}
use Rattle.laws.specs.Queues.{Agree}
use Rattle.laws.specs.Entries.{accs_of, timers_of, Calm, Fed}
use Rattle.laws.specs.Midst.{Matches}
use Rattle.laws.specs.Midst as laws
use Rattle.laws.specs.EightFiles.{EightFiles}
use Rattle.laws.proofs.Happenings.{matches-now}
use Rattle.laws.proofs.EightFiles.{file-here, file-other, file-same, files-same}
use Rattle.memory.specs.Memories.{Memories, memories}
use Rattle.memory.specs.Image.{acc_of, place_acc, file_words, row_of, rq_of, wq_of, lists_of, boxes_of, rows_of}
use Rattle.memory.specs.Image as image
use Rattle.memory.specs.Stands.{Segment, FileBytes, Bodies, Stands, buffers_at}
use Rattle.words.specs.Word.{Bytes}
use Rattle.memory.specs.Fine.{Fine, StandsFor}
use Rattle.memory.proofs.Segments.{segment-file}
use Rattle.memory.proofs.Image.{row_of-file, row_of-place, row_of-acc, each_row}
use Rattle.memory.proofs.Boxes.{segment-boxes, boxes-segment, get_or-lists_of, get_or-boxes_of, get_or-rows_of}
use Rattle.memory.proofs.Once.{agreed-once}
use Rattle.memory.proofs.Frames.{bodies-file}
use Rattle.midst.specs.declared.File as hand
use Rattle.midst.specs.File.{file_of_row, file_row_words, in_hand}
use Rattle.midst.specs.Seg.{Seg}
use Rattle.midst.specs.Mid.{Start, Mid, start}
use Rattle.midst.proofs.Alike.{SameLists, lists-alike, boxes-alike}
use Rattle.midst.proofs.Rows.{place-row-below}

-- it begins

pub fine-agree : (x : File) → OnFile Fine x → OnFile Agree x
unfolding OnFile
fine-agree unbuilt h = tt
fine-agree (built b) h = h.queues

-- nothing has happened yet
begin-seg : (xs : List ℕ) (d d' : Desk) (s : Alloc) (f : ℕ) (hs : List Hap) → d' ≡ d → hs ≡ [] → Seg xs d s (file_row f) → Seg xs d' (allot_all f hs s) (file_row f)
unfolding allot_all
begin-seg xs d d' s f hs e n S = rw (e, n) S

begin-mid : (f : ℕ) (s : Alloc) (b : Built) → b.past ≡ [] → Matches f s s b.accs b.timers → laws.Mid f s b
unfolding allot_all Fed
begin-mid f s b e M = record { matches = rw e M; fed = rw e tt }

-- the row of a file, read back
file-row : (xs : List ℕ) (f : ℕ) (b : Built) → row xs (file_row_at f) file_width ≡ file_words (built b) → file_of_row (file_at xs f) ≡ in_hand b
unfolding file_at file_row_of file_words
file-row xs f b e = ap (λ r. file_of_row (file_row_of r)) e

module _ {m : Memories} {d : Desk} {s : Alloc} (S : StandsFor m d s) where
  pub stands-seg : (f : ℕ) → Seg m.segment d s (file_row f)
  stands-seg f = record {
    rows = rows_of d;
    boxes = segment-boxes d s m.segment (agreed-once d s S.agreed (λ g k. fine-agree (file_of d g) (S.fine g k))) S.stands.segment;
    same = λ i k _. get_or-rows_of d s i k;
  }

  pub mid-begin : (f : ℕ) (b : Built) → f < files → file_of d f ≡ built b
      → Mid Fine f (start d s m) m (file_of_row (file_at m.segment f)) b
  unfolding OnFile accs_of timers_of FileBytes
  mid-begin f b h e =
      let own : OnFile Fine (built b) = rw e at (S.fine f h) in
      let calm : Calm (built b) = rw e at (S.agreed.calm f h) in
      let M : Matches f s s (accs_of (built b)) (timers_of (built b)) = rw e at (matches-now f s _ _ (S.agreed.agrees f h) S.agreed.whole S.agreed.clock) in
      let bytes : FileBytes (built b) (share_at f m.blocks) (buffers_at f m.buffers) = rw e at (S.stands.bodies.each f h) in
      record {
        file = h;
        eight = S.agreed.eight;
        good = own;
        allots = begin-mid f s b calm M;
        segment = begin-seg m.segment d _ s f b.past (file-here d f (built b) e) calm (stands-seg f);
        row = file-row m.segment f b (segment-file S.stands.segment f h ∙ ap file_words e);
        share = bytes.0;
        buffer = bytes.1;
        blocks-size = S.stands.bodies.blocks-size;
        buffers-size = S.stands.bodies.buffers-size;
        apart = record { shares = λ g k n. refl; others = λ g k n. refl };
      }

-- the row of its file holds it
pub stands-row : {m : Memories} {d : Desk} {s : Alloc} → StandsFor m d s → (f : ℕ) (b : Built) → f < files → file_of d f ≡ built b
    → row m.segment (file_row_at f) file_width ≡ file_row_words (in_hand b)
unfolding file_words file_row_words
stands-row S f b h e = segment-file S.stands.segment f h ∙ ap file_words e

-- what stands at a place

module _ {I : Built → Type 0} {f : ℕ} {o : Start} {m : Memories} {x : hand.File} {b : Built} (M : Mid I f o m x b) where
  pub mid-lengths : length m.segment ≡ segment_bytes
  mid-lengths = M.segment.boxes.lists.size

  pub mid-file : file_of (with_file o.desk f (built b)) f ≡ built b
  mid-file = file-same o.desk f (built b) M.eight M.file

  pub mid_row : (p : ℕ) → p < places → row m.segment (place_row_at (place_of f p)) place_width ≡ image.place_words (acc_at b p)
  unfolding acc_of
  mid_row p k =
      sym (words-place m.segment (place_of f p)) ∙ M.segment.boxes.rows (place_row (place_of f p)) (place-row-below f p M.file k)
      ∙ M.segment.same (place_row (place_of f p)) (place-row-below f p M.file k) (λ e. unfold place_of in omega (arith, e, M.file))
      ∙ row_of-acc (with_file o.desk f (built b)) f p k ∙ ap (λ z. image.place_words (acc_of z p)) mid-file

  -- the accessor at place p as a row
  pub mid-place : (p : ℕ) → p < places → place_at m.segment (place_of f p) ≡ place_row_of (image.place_words (acc_at b p))
  unfolding place_at
  mid-place p k = ap place_row_of (mid_row p k)

-- it ends

pub hushed-alike : (b : Built) → SameLists (built b) (built (hushed b))
unfolding hushed acc_of acc_at rq_of wq_of
hushed-alike b = record { reads = refl; writes = refl; reqs = λ p. refl }

pub hushed-acc : (b : Built) (p : ℕ) → acc_of (built b) p ≡ acc_of (built (hushed b)) p
unfolding hushed acc_of acc_at
hushed-acc b p = refl

pub hushed-bytes : (b : Built) (share buffers : List ℕ) → share ≡ b.store.share → buffers ≡ b.buffers → FileBytes (built (hushed b)) share buffers
unfolding hushed FileBytes
hushed-bytes b share buffers e h = (e, h)

hand-words : (x : hand.File) (b : Built) → x ≡ in_hand b → file_row_words x ≡ file_words (built (hushed b))
unfolding file_row_words file_words hushed
hand-words x b e = rw e

-- all rows but that of file f
pub rows_same : (d : Desk) (f : ℕ) (x y : File) → ((p : ℕ) → acc_of x p ≡ acc_of y p) → (i : ℕ) → i < row_count → (i ≡ file_row f → ⊥) → row_of (with_file d f x) i ≡ row_of (with_file d f y) i
rows_same d f x y e =
    each_row (λ i. (i ≡ file_row f → ⊥) → row_of (with_file d f x) i ≡ row_of (with_file d f y) i)
    (λ g h n. row_of-file (with_file d f x) g h ∙ ap file_words (file-other d f g x n ∙ sym (file-other d f g y n)) ∙ sym (row_of-file (with_file d f y) g h))
    (λ i h n. row_of-place (with_file d f x) i ∙ ap image.place_words (accs i) ∙ sym (row_of-place (with_file d f y) i))
  where
    accs : (i : ℕ) → place_acc (with_file d f x) i ≡ place_acc (with_file d f y) i
    accs i = unfold place_acc in files-same (λ z. acc_of z (i % places)) d f x y (e (i % places)) (i / places)

-- the row of file f is written, the file being y in place of x, which has the same queues and accessors
pub seg-end : (xs : List ℕ) (d : Desk) (f : ℕ) (x y : File) (t : Alloc) (words : List ℕ) → f < files → EightFiles d → SameLists x y → ((p : ℕ) → acc_of x p ≡ acc_of y p)
    → Seg xs (with_file d f x) t (file_row f) → length words ≡ file_width → words ≡ file_words y → Bytes (fill xs (file_row_at f) words)
    → Segment (fill xs (file_row_at f) words) (with_file d f y) t
seg-end xs d f x y t words hf eight E accs S n e bytes =
    boxes-segment (with_file d f y) t (fill xs (file_row_at f) words) [] (lists_of (with_file d f x) t) (boxes_of (with_file d f x) t) (set S.rows f words) bytes
    (rw (row-file f hf).0 at (fill-boxes S.boxes (file_row f) words (omega (arith, hf)) (n ∙ sym (row-file f hf).1)))
    (λ l h. ap (λ ls. get_or ls l []) (lists-alike d f _ _ E t) ∙ get_or-lists_of (with_file d f y) t l h)
    (λ l h. ap (λ ms. get_or ms l []) (boxes-alike d f _ _ E t) ∙ get_or-boxes_of (with_file d f y) t l h)
    (λ i h. go i h (ℕ_discrete i f))
  where
    go : (i : ℕ) → i < row_count → Dec (i ≡ f) → get_or (set S.rows f words) i [] ≡ row_of (with_file d f y) i
    go i h (yes u) =
        rw u (get_or-set_same S.rows f words [] (omega (arith, hf, S.boxes.rowed)) ∙ e
        ∙ sym (row_of-file (with_file d f y) f hf ∙ ap file_words (file-same d f y eight hf)))
    go i h (no u) = get_or-set_other S.rows f i words [] u ∙ S.same i h u ∙ rows_same d f x y accs i h u

module _ {I : Built → Type 0} {f : ℕ} {o : Start} {m : Memories} {x : hand.File} {b : Built} (M : Mid I f o m x b) where
  end-segment : Bytes (fill m.segment (file_row_at f) (file_row_words x))
      → Segment (fill m.segment (file_row_at f) (file_row_words x)) (with_file o.desk f (built (hushed b))) (allot_all f b.past o.alloc)
  end-segment bytes =
      seg-end m.segment o.desk f (built b) (built (hushed b)) (allot_all f b.past o.alloc) (file_row_words x) M.file M.eight (hushed-alike b) (hushed-acc b) M.segment
      (unfold file_row_words in refl) (hand-words x b M.row) bytes

  pub mid-end : Bodies o.memories o.desk → Bytes (fill m.segment (file_row_at f) (file_row_words x)) → Bytes m.blocks → Bytes m.buffers
      → Stands (memories (fill m.segment (file_row_at f) (file_row_words x)) m.blocks m.buffers) (with_file o.desk f (built (hushed b))) (allot_all f b.past o.alloc)
  mid-end B bytes blocks-bytes buffers-bytes = record {
    segment = end-segment bytes;
    bodies = bodies-file o.desk o.memories _ f (built (hushed b)) B M.eight M.file blocks-bytes buffers-bytes
        (M.blocks-size ∙ sym B.blocks-size) (M.buffers-size ∙ sym B.buffers-size)
        (λ g h n. (M.apart.shares g h n, M.apart.others g h n)) (hushed-bytes b _ _ M.share M.buffer);
  }

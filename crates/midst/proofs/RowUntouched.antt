-- A call that leaves the row of its file as it is: the segment's rows are all those of the desk, from its beginning to its end.
use Prim.Native.Nat.{ℕ, ◌<◌}
use mathlib.Core.Path.{◌≡◌, sym, ap, ◌∙◌}
use mathlib.Core.List.{List, []}
use native.Mathlib.Omega.{arith}
use native.Mathlib.Decide.{ℕ_discrete}
use lib.ListN.{get_or}
use Rattle.segment.specs.Layout.{row_count, file_row}
use Rattle.rules.specs.Limits.{files}
use Rattle.rules.specs.State.{Hap, Built, File, built}
use Rattle.rules.specs.Reply.{hushed}
use Rattle.rules.specs.Desk.{Desk, file_of, with_file}
use Rattle.rules.specs.Allocation.{Alloc, allot_all}
use Rattle.laws.specs.Runs.{OnFile}
use Rattle.laws.specs.Entries.{Calm}
use Rattle.laws.specs.EightFiles.{EightFiles}
use Rattle.laws.proofs.EightFiles.{file-here, file-same}
use Rattle.memory.specs.Memories.{Memories}
use Rattle.memory.specs.Image.{file_words, row_of, lists_of, boxes_of, rows_of}
use Rattle.memory.specs.Stands.{Bodies, Stands}
use Rattle.words.specs.Word.{Bytes}
use Rattle.memory.specs.Fine.{StandsFor}
use Rattle.memory.proofs.Image.{row_of-file}
use Rattle.memory.proofs.Boxes.{segment-boxes, boxes-segment, get_or-lists_of, get_or-boxes_of, get_or-rows_of}
use Rattle.memory.proofs.Once.{agreed-once}
use Rattle.memory.proofs.Frames.{bodies-file}
use Rattle.midst.specs.declared.File as hand
use Rattle.midst.specs.Seg.{Seg}
use Rattle.midst.specs.Mid.{Start, Mid}
use Rattle.midst.proofs.Alike.{lists-alike, boxes-alike}
use Rattle.midst.proofs.Begins.{fine-agree, hushed-alike, hushed-acc, hushed-bytes, rows_same}

-- the call begins
pub seg-stands : {m : Memories} {d : Desk} {s : Alloc} → StandsFor m d s → (f : ℕ) (b : Built) → f < files → file_of d f ≡ built b
    → Seg m.segment (with_file d f (built b)) (allot_all f b.past s) row_count
unfolding allot_all OnFile
seg-stands {m} {d = d} {s = s} S f b h e =
    let calm : Calm (built b) = rw e at (S.agreed.calm f h) in
    rw (file-here d f (built b) e, calm) record {
      rows = rows_of d;
      boxes = segment-boxes d s m.segment (agreed-once d s S.agreed (λ g k. fine-agree (file_of d g) (S.fine g k))) S.stands.segment;
      same = λ i k _. get_or-rows_of d s i k;
    }

-- the row of file f, of a desk whose file f is b, is that of the same file with no happenings
row-hushed : (d : Desk) (f : ℕ) (b : Built) → f < files → EightFiles d → row_of (with_file d f (built b)) (file_row f) ≡ row_of (with_file d f (built (hushed b))) (file_row f)
unfolding file_words hushed
row-hushed d f b h k =
    row_of-file (with_file d f (built b)) f h ∙ ap file_words (file-same d f (built b) k h)
    ∙ sym (row_of-file (with_file d f (built (hushed b))) f h ∙ ap file_words (file-same d f (built (hushed b)) k h))

-- the call ends
pub mid-stays : {I : Built → Type 0} {f : ℕ} {o : Start} {m : Memories} {x : hand.File} {b : Built} → Mid I f o m x b
    → Seg m.segment (with_file o.desk f (built b)) (allot_all f b.past o.alloc) row_count → Bodies o.memories o.desk → Bytes m.segment → Bytes m.blocks → Bytes m.buffers
    → Stands m (with_file o.desk f (built (hushed b))) (allot_all f b.past o.alloc)
mid-stays {I} {f} {o} {m} {x} {b} M S B bytes blocks-bytes buffers-bytes = record {
  segment = boxes-segment d t m.segment [] (lists_of d₀ t) (boxes_of d₀ t) S.rows bytes S.boxes
      (λ l h. ap (λ ls. get_or ls l []) (lists-alike o.desk f _ _ (hushed-alike b) t) ∙ get_or-lists_of d t l h)
      (λ l h. ap (λ ms. get_or ms l []) (boxes-alike o.desk f _ _ (hushed-alike b) t) ∙ get_or-boxes_of d t l h)
      (λ i h. S.same i h (λ e. omega arith) ∙ go i h (ℕ_discrete i f));
  bodies = bodies-file o.desk o.memories m f (built (hushed b)) B M.eight M.file blocks-bytes buffers-bytes
      (M.blocks-size ∙ sym B.blocks-size) (M.buffers-size ∙ sym B.buffers-size)
      (λ g h n. (M.apart.shares g h n, M.apart.others g h n)) (hushed-bytes b _ _ M.share M.buffer);
}
  where
    d : Desk
    d = with_file o.desk f (built (hushed b))

    d₀ : Desk
    d₀ = with_file o.desk f (built b)

    t : Alloc
    t = allot_all f b.past o.alloc

    go : (i : ℕ) → i < row_count → Dec (i ≡ f) → row_of d₀ i ≡ row_of d i
    go i h (yes e) = rw e (row-hushed o.desk f b M.file M.eight)
    go i h (no n) = rows_same o.desk f (built b) (built (hushed b)) (hushed-acc b) i h n

-- nothing was done
pub hushed-past : (b : Built) → b.past ≡ [] → hushed b ≡ b
unfolding hushed
hushed-past b e = ap (λ (hs : List Hap). record { geo = b.geo; store = b.store; accs = b.accs; buffers = b.buffers; rq = b.rq; wq = b.wq; timers = b.timers; past = hs }) (sym e)

pub stands-still : {m : Memories} {d : Desk} {s : Alloc} → StandsFor m d s → (f : ℕ) (b : Built) → f < files → file_of d f ≡ built b
    → Stands m (with_file d f (built (hushed b))) (allot_all f b.past s)
unfolding allot_all OnFile
stands-still {m} {d} {s} S f b h e =
    let calm : Calm (built b) = rw e at (S.agreed.calm f h) in
    rw (hushed-past b calm, file-here d f (built b) e, calm) S.stands

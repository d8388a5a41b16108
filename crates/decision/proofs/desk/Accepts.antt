-- Memories of bytes whose rows pass and whose lists are as the survey says stand for a desk.
use Prim.Native.Nat.{ℕ, ◌*◌, ◌<◌}
use mathlib.Core.Bool.{true}
use mathlib.Core.Path.{◌≡◌, sym, ap, subst, ◌∙◌}
use mathlib.Core.List.{List, map}
use lib.ListN.{length}
use Rattle.rules.specs.Limits.{files, places, share_bytes, buffer_bytes}
use Rattle.rules.specs.State.{File}
use Rattle.rules.specs.Desk.{Desk, file_of}
use Rattle.rules.specs.Allocation.{Alloc}
use Rattle.rules.specs.Memories.{share_at}
use Rattle.rules.proofs.Split.{by_cases}
use Rattle.segment.specs.Layout.{segment_bytes}
use Rattle.segment.specs.Table.{data_of}
use Rattle.memory.specs.Memories.{memories}
use Rattle.memory.specs.Stands.{Segment, buffers_at, FileBytes}
use Rattle.words.specs.Word.{Bytes}
use Rattle.memory.specs.Fine.{StandsFor}
use Rattle.sound.specs.Rows.{built_at}
use Rattle.decision.specs.Survey.{Survey}
use Rattle.sound.specs.Sound.{files_ok}
use Rattle.decision.proofs.desk.MadeDesk.{alloc_for, desk_for}
use Rattle.decision.proofs.desk.MadeBase.{file-built, file-blank}
use Rattle.decision.proofs.desk.MadeLists.{lists-right}
use Rattle.decision.proofs.desk.MadeRows.{rows_right}
use Rattle.decision.proofs.desk.MadeFine.{bodies}
use Rattle.decision.proofs.desk.MadeAgreed.{fine-file, agreed}

module _ (s blocks bufs : List ℕ) (bs : Bytes s) (bb : Bytes blocks) (bf : Bytes bufs) (ls : List (List ℕ)) (es : length s ≡ segment_bytes)
    (eb : length blocks ≡ share_bytes * files) (ef : length bufs ≡ places * buffer_bytes * files) (ok : files_ok s blocks 0 files ≡ true) (U : Survey s ls) where
  abbrev d : Desk
  d = desk_for s blocks bufs ls

  abbrev a : Alloc
  a = alloc_for s ls

  segment : Segment s d a
  segment = record {
    bytes = bs;
    size = es;
    chains = λ l h. rw (lists-right s blocks bufs ls ef ok U l h).0 (U.chains l h);
    boxes = λ l h. ap (map (data_of s)) (lists-right s blocks bufs ls ef ok U l h).0 ∙ (lists-right s blocks bufs ls ef ok U l h).1;
    rows = rows_right s blocks bufs ls bb eb ok U;
  }

  file-bytes : (f : ℕ) → f < files → FileBytes (file_of d f) (share_at f blocks) (buffers_at f bufs)
  unfolding FileBytes
  file-bytes f h = by_cases (built_at s f)
      (λ t. subst (λ (x : File). FileBytes x (share_at f blocks) (buffers_at f bufs)) (sym (file-built s blocks bufs ls ok U f h t)) (bodies s blocks bufs ls bb eb ef ok U f h t))
      (λ t. subst (λ (x : File). FileBytes x (share_at f blocks) (buffers_at f bufs)) (sym (file-blank s blocks bufs ls ok U f h t)) tt)

  pub accepts : (d : Desk) × (a : Alloc) × StandsFor (memories s blocks bufs) d a
  accepts = (
    d,
    a,
    record {
      stands = record {
        segment = segment;
        bodies = record { blocks-bytes = bb; buffers-bytes = bf; blocks-size = eb; buffers-size = ef; each = file-bytes };
      };
      fine = fine-file s blocks bufs ls bb eb ef ok U;
      agreed = agreed s blocks bufs ls bb eb ef ok U;
    },
  )

-- What the rows of a segment that stands for a desk show.
use Prim.Native.Nat.{ℕ, ◌<◌}
use mathlib.Core.Path.{◌≡◌, ap, ◌∙◌}
use native.Mathlib.Omega.{arith}
use Rattle.rules.specs.Limits.{files, places}
use Rattle.rules.specs.State.{Built, built}
use Rattle.rules.specs.Desk.{Desk, file_of}
use Rattle.rules.specs.Allocation.{Alloc, place_of}
use Rattle.segment.specs.Layout.{file_width, place_width, file_row_at, place_row_at}
use Rattle.segment.specs.Table.{row}
use Rattle.laws.specs.Entries.{accs_of}
use Rattle.memory.specs.Memories.{Memories}
use Rattle.memory.specs.Image.{acc_of, file_words, place_words}
use Rattle.memory.specs.Fine.{StandsFor}
use Rattle.memory.proofs.Image.{place_acc-of}
use Rattle.memory.proofs.Segments.{segment-file, segment-place}
use Rattle.accessors.specs.Shown.{Shown}

module _ {m : Memories} {d : Desk} {s : Alloc} (S : StandsFor m d s) (f : ℕ) (h : f < files) where
  pub file-row : row m.segment (file_row_at f) file_width ≡ file_words (file_of d f)
  file-row = segment-file S.stands.segment f h

  place-row : (p : ℕ) → p < places → row m.segment (place_row_at (place_of f p)) place_width ≡ place_words (acc_of (file_of d f) p)
  unfolding place_of
  place-row p k = segment-place S.stands.segment (place_of f p) (unfold place_of in omega arith) ∙ ap place_words (place_acc-of d f p k)

  -- a built file
  pub shown : (b : Built) → file_of d f ≡ built b → Shown m.segment f b
  unfolding acc_of accs_of
  shown b e = record {
    file = file-row ∙ ap file_words e;
    rows = λ p k. place-row p k ∙ ap (λ x. place_words (acc_of x p)) e;
    eight = rw e at (S.agreed.agrees f h).eight;
  }

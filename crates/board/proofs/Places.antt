-- What is put of a file's places is what the rules have of its accessors.
use Prim.Native.Nat.{ℕ, zero, suc, ◌+◌, ◌*◌, ◌≤◌, ◌<◌}
use mathlib.Core.Path.{◌≡◌, refl, ap, ◌∙◌}
use mathlib.Core.Bool.{Bool, true, false, cond}
use mathlib.Core.Option.{Option, none, some}
use native.Mathlib.Omega.{arith}
use native.Mathlib.Decide.{ℕ_discrete}
use borrow.Author.Tests.{eq-eqb, ne_eqb}
use lib.Dec.{eqb}
use Rattle.occurrences.specs.Count.{bit}
use Rattle.rules.specs.Limits.{files, places}
use Rattle.rules.specs.State.{Acc, Built, built}
use Rattle.rules.specs.Requests.{acc_at, opened}
use Rattle.rules.specs.Desk.{Desk, file_of}
use Rattle.rules.specs.Allocation.{Alloc, place_of}
use Rattle.segment.specs.Fields.{place_at, place_row_of}
use Rattle.memory.specs.Memories.{Memories}
use Rattle.memory.specs.Image.{place_words}
use Rattle.memory.specs.Fine.{StandsFor}
use Rattle.accessors.specs.Sides.{side_of, purges_at}
use Rattle.accessors.proofs.Counted.{purges-is}
use Rattle.accessors.proofs.Rows.{shown}
use Rattle.notices.specs.Lines.{nobody_line, accessor_line, row_line}
use Rattle.board.specs.Board.{acc_text, places_text, accessors_text}
use Rattle.board.specs.Found.{row_text, place_text_at, places_at, accessors_at}
use Rattle.board.proofs.Found.{request-is}

writes-two : (t : Bool) → eqb (1 + bit t) 2 ≡ t
writes-two true = refl
writes-two false = refl

is_one : (t : Bool) → eqb (bit t) 1 ≡ t
is_one true = refl
is_one false = refl

open-side : (t : Bool) → eqb (1 + bit t) 0 ≡ false
open-side true = refl
open-side false = refl

-- the line of an accessor's row
row-line : (p : ℕ) (a : Acc) → row_line p (place_row_of (place_words (some a))) ≡ accessor_line p a.writer a.ident a.typed a.keep a.timeout a.extended
unfolding row_line place_row_of place_words
row-line p a = rw (writes-two a.writer, is_one a.typed, is_one a.keep, is_one a.extended)

module _ {m : Memories} {d : Desk} {s : Alloc} (S : StandsFor m d s) (f : ℕ) (hf : f < files) (b : Built) (is : file_of d f ≡ built b) where
  row_is : (p : ℕ) → p < places → (o : Option Acc) → acc_at b p ≡ o → place_at m.segment (places * f + p) ≡ place_row_of (place_words o)
  unfolding place_at place_of
  row_is p h o e = ap place_row_of ((shown S f hf b is).rows p h ∙ ap place_words e)

  place_is : (p : ℕ) → p < places → (o : Option Acc) → acc_at b p ≡ o → place_text_at m.segment f p ≡ acc_text b p o
  unfolding row_text acc_text place_row_of place_words side_of
  place_is p h none e = ap (row_text m.segment f p) (row_is p h none e)
  place_is p h (some a) e =
      ap (row_text m.segment f p) (row_is p h (some a) e)
      ∙ rw (open-side a.writer) (rw (row-line p a, request-is S f hf b is p h a e))

  pub places-are : (n : ℕ) → n ≤ places → places_at m.segment f n ≡ places_text b n
  unfolding places_at places_text
  places-are zero h = refl
  places-are (suc n) h = rw (places-are n (omega arith), place_is n (omega arith) (acc_at b n) refl)

  pub accessors-are : accessors_at m.segment f ≡ accessors_text b
  unfolding accessors_at accessors_text purges_at
  accessors-are =
      let H = shown S f hf b is in
      rw (purges-is m.segment f b H.eight H.rows 1) (go (ℕ_discrete (opened b) 0))
    where
      go : Dec (opened b ≡ 0) → cond (eqb (opened b) 0) nobody_line (places_at m.segment f places) ≡ accessors_text b
      go (yes k) = rw (eq-eqb (opened b) 0 k, accessors_text) refl
      go (no k) = rw (ne_eqb (opened b) 0 k, accessors_text) (places-are places (omega arith))

-- A segment that stands for a desk shows the file and the accessor that a call names.
use Prim.Native.Nat.{ℕ, ◌+◌, ◌*◌, ◌≤◌, ◌<◌}
use mathlib.Core.Path.{◌≡◌, refl, sym, ap, ◌∙◌}
use mathlib.Core.Bool.{Bool, true, false, cond}
use mathlib.Core.List.{List}
use mathlib.Core.Option.{Option, none, some}
use native.Mathlib.Omega.{arith}
use native.Mathlib.Decide.{dec_lt}
use borrow.Author.Tests.{lt-ltb, le-ltb, le-leb, lt-leb, eq-eqb, ne_eqb}
use lib.Dec.{ltb, leb, eqb}
use lib.ListN.{get_or}
use Rattle.rules.proofs.Split.{pick_true, pick-false}
use Rattle.rules.specs.Limits.{files, places}
use Rattle.rules.specs.State.{Acc, Built, File, unbuilt, built}
use Rattle.rules.specs.Requests.{acc_at}
use Rattle.rules.specs.Desk.{Desk, file_of}
use Rattle.rules.specs.Allocation.{Alloc, place_of}
use Rattle.segment.specs.Layout.{file_width, file_row_at}
use Rattle.segment.specs.Table.{row}
use Rattle.segment.specs.Fields.{file_at, file_row_of, place_at}
use Rattle.laws.proofs.Places.{acc_at-high}
use Rattle.memory.specs.Memories.{Memories}
use Rattle.memory.specs.Image.{file_words, place_words}
use Rattle.memory.specs.Fine.{StandsFor}
use Rattle.accessors.specs.declared.Accessor.{Accessor}
use Rattle.kinds.specs.declared.refusals.Refusal.{Refusal}
use Rattle.kinds.specs.declared.refusals.Refusal.TheVariants as refusal
use Rattle.std.specs.Prelude.{Result, Err}
use Rattle.accessors.specs.Sides.{side_of}
use Rattle.accessors.specs.Outstanding.{outstanding_at}
use Rattle.accessors.specs.Accessors.{Open, words_at, accessor_at, accessor_in, accessor_on, accessor_of}
use Rattle.accessors.proofs.Counted.{side-is}
use Rattle.accessors.proofs.Rows.{file-row, shown}
use Rattle.accessors.proofs.Waits.{fine-at, outstanding-is}

-- file f is below 8 if the R read for it is not 0
pub words-low : (s : List ℕ) (f w : ℕ) → w ≡ words_at s f → (w ≡ 0 → ⊥) → f < files
unfolding words_at
words-low s f w e d = go (dec_lt f files)
  where
    go : Dec (f < files) → f < files
    go (yes h) = h
    go (no h) = absurd (d (e ∙ ap (λ t. cond t 0 (file_at s f).words) (le-leb files f (omega arith))))

unbuilt-words : (s : List ℕ) (f : ℕ) → row s (file_row_at f) file_width ≡ file_words unbuilt → (file_at s f).words ≡ 0
unfolding file_at file_row_of file_words
unbuilt-words s f e = ap (λ (r : List ℕ). get_or r 0 0) e

built-words : (s : List ℕ) (f : ℕ) (b : Built) → row s (file_row_at f) file_width ≡ file_words (built b) → (file_at s f).words ≡ b.geo.words
unfolding file_at file_row_of file_words
built-words s f b e = ap (λ (r : List ℕ). get_or r 0 0) e

module _ {m : Memories} {d : Desk} {s : Alloc} (S : StandsFor m d s) (f : ℕ) where
  words-high : files ≤ f → words_at m.segment f ≡ 0
  unfolding words_at
  words-high h = rw (le-leb files f h)

  words-read : f < files → words_at m.segment f ≡ (file_at m.segment f).words
  unfolding words_at
  words-read h = rw (lt-leb files f h)

  -- a file that is not built, and one that is
  pub words-none : f < files → file_of d f ≡ unbuilt → words_at m.segment f ≡ 0
  words-none h e = words-read h ∙ unbuilt-words m.segment f (file-row S f h ∙ ap file_words e)

  pub words-some : f < files → (b : Built) → file_of d f ≡ built b → (words_at m.segment f ≡ b.geo.words) × (1 ≤ b.geo.words)
  words-some h b e = (words-read h ∙ built-words m.segment f b (file-row S f h ∙ ap file_words e), (fine-at S f h b e).room.geo.words-low)

  module _ (p : ℕ) where
    -- an open place
    place-open : f < files → (b : Built) (a : Acc) → file_of d f ≡ built b → p < places → acc_at b p ≡ some a
        → Open (words_at m.segment f) (place_at m.segment (places * f + p)).side (outstanding_at m.segment f p (place_at m.segment (places * f + p)).side) ≡ accessor_in b.geo.words (some a)
    unfolding accessor_in place_of
    place-open h b a e k i =
        let side : (place_at m.segment (places * f + p)).side ≡ side_of (some a) = side-is m.segment (places * f + p) (some a) ((shown S f h b e).rows p k ∙ ap place_words i) in
        rw (side, (words-some h b e).0, outstanding-is S f h b e p a k i)

    place-named : f < files → (b : Built) → file_of d f ≡ built b → p < places → (o : Option Acc) → acc_at b p ≡ o
        → cond (eqb (place_at m.segment (places * f + p)).side 0) (Err refusal.Accessor)
        (Open (words_at m.segment f) (place_at m.segment (places * f + p)).side (outstanding_at m.segment f p (place_at m.segment (places * f + p)).side))
        ≡ accessor_in b.geo.words o
    unfolding side_of place_of accessor_in
    place-named h b e k none i =
        rw (eq-eqb (place_at m.segment (places * f + p)).side 0 (side-is m.segment (places * f + p) none ((shown S f h b e).rows p k ∙ ap place_words i)))
    place-named h b e k (some a) i =
        let side : (place_at m.segment (places * f + p)).side ≡ side_of (some a) = side-is m.segment (places * f + p) (some a) ((shown S f h b e).rows p k ∙ ap place_words i) in
        rw (ne_eqb (place_at m.segment (places * f + p)).side 0 (λ u. omega (arith, side))) (place-open h b a e k i)

    file-named : f < files → (x : File) → file_of d f ≡ x → accessor_at m.segment f p ≡ accessor_on x p
    unfolding accessor_at accessor_on accessor_in
    file-named h unbuilt e = rw (eq-eqb (words_at m.segment f) 0 (words-none h e))
    file-named h (built b) e =
        let w = words-some h b e in
        rw (ne_eqb (words_at m.segment f) 0 (λ u. omega (arith, w.0, w.1))) (go (dec_lt p places))
      where
        go : Dec (p < places)
            → cond (leb places p) (Err refusal.Accessor) (cond (eqb (place_at m.segment (places * f + p)).side 0) (Err refusal.Accessor)
            (Open (words_at m.segment f) (place_at m.segment (places * f + p)).side (outstanding_at m.segment f p (place_at m.segment (places * f + p)).side)))
            ≡ accessor_in b.geo.words (acc_at b p)
        go (yes k) = rw (lt-leb places p k) (place-named h b e k (acc_at b p) refl)
        go (no k) = let n = acc_at-high b p (shown S f h b e).eight (omega arith) in rw (le-leb places p (omega arith), n)

    pub accessor-is : accessor_at m.segment f p ≡ accessor_of d f p
    unfolding accessor_at accessor_of
    accessor-is = go (dec_lt f files)
      where
        go : Dec (f < files) → accessor_at m.segment f p ≡ elim (ltb f files) as (λ (b : Bool). Result Accessor Refusal) [ true ↦ accessor_on (file_of d f) p | false ↦ Err refusal.File ]
        go (yes h) = file-named h (file_of d f) refl ∙ sym (pick_true (ltb f files) _ _ (lt-ltb f files h))
        go (no h) = rw (eq-eqb (words_at m.segment f) 0 (words-high (omega arith))) (sym (pick-false (ltb f files) _ _ (le-ltb f files (omega arith))))

-- a file is built exactly when its R is not 0
module _ {m : Memories} {d : Desk} {s : Alloc} (S : StandsFor m d s) (f w : ℕ) (e : w ≡ words_at m.segment f) where
  pub is-built : (w ≡ 0 → ⊥) → (b : Built) × (file_of d f ≡ built b)
  is-built h = go (file_of d f) refl
    where
      go : (x : File) → file_of d f ≡ x → (b : Built) × (file_of d f ≡ built b)
      go unbuilt k = absurd (h (e ∙ words-none S f (words-low m.segment f w e h) k))
      go (built b) k = (b, k)

  pub not-built : f < files → w ≡ 0 → file_of d f ≡ unbuilt
  not-built h z = go (file_of d f) refl
    where
      go : (x : File) → file_of d f ≡ x → file_of d f ≡ unbuilt
      go unbuilt k = k
      go (built b) k = let n = words-some S f h b k in absurd (omega (arith, n.0, n.1, e, z))

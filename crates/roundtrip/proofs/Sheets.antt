-- A sheet that is written and read says what was written.
use Prim.Native.Nat.{ℕ, ◌+◌, ◌*◌, ◌<◌, ◌≤◌}
use mathlib.Core.Bool.{true, ◌&&◌}
use mathlib.Core.Path.{◌≡◌, refl, ap, ◌∙◌}
use mathlib.Core.List.{List, [], ◌∷◌, map}
use mathlib.Core.Option.{none, some}
use native.Mathlib.Omega.{arith}
use native.Mathlib.Nat.{mul-add}
use lib.Dec.{eqb}
use lib.ListN.{length, length-map}
use Rattle.words.specs.Word.{word_at, Bytes}
use Rattle.rules.specs.Limits.{sheet_line_bytes}
use Rattle.rules.specs.Geometry.{capacity}
use Rattle.rules.specs.State.{Rec, Geo}
use Rattle.rules.specs.Open.{geo_of}
use Rattle.rules.specs.Line.{digits_of, bytes_of, Lines, lines_from, lines_of}
use Rattle.rules.specs.Sheet.{head_frame, rec_frame, rec_lines, sheet, all_lines, good_head, good_recs, frames_sheet, read_sheet}
use Rattle.rules.proofs.Split.{true-and, pick_true}
use Rattle.rules.proofs.Fits.{words-said}
use Rattle.shares.specs.Groups.{All}
use Rattle.laws.specs.Changes.{GoodGeo, GoodRecs}
use Rattle.hexadecimal.proofs.Trip.{bytes-digits, line-digits}
use Rattle.roundtrip.specs.Trip.{Plain, Written}
use Rattle.roundtrip.proofs.Room.{share-words}
use Rattle.roundtrip.proofs.Lines.{lines-line}
use Rattle.roundtrip.proofs.Frames.{bytes-head, length-head, head-words, head-factor, head-blocks, head-good, bytes-rec, length-rec, recs-good, recs-back}

-- lines of bytes, each frame no longer than a line
unfoldable Framed : List (List ℕ) → Type 0
Framed [] = Unit {0}
Framed (f ∷ fs) = Bytes f × (length f ≤ sheet_line_bytes) × Framed fs

lines-framed : (fs : List (List ℕ)) → Framed fs → all_lines (map digits_of fs) ≡ true
unfolding Framed all_lines Bytes
lines-framed [] h = refl
lines-framed (f ∷ fs) h = true-and _ _ (line-digits sheet_line_bytes f h.0 h.1) (lines-framed fs h.2)

frames-back : (fs : List (List ℕ)) → Framed fs → map bytes_of (map digits_of fs) ≡ fs
unfolding Framed Bytes
frames-back [] h = refl
frames-back (f ∷ fs) h = rw (bytes-digits f h.0, frames-back fs h.2)

-- what is read from a text whose lines are known
read-lines : (t : List ℕ) (l : Lines) → lines_of t ≡ l → eqb (length l.rest) 0 && all_lines l.whole ≡ true → read_sheet t ≡ frames_sheet (map bytes_of l.whole)
unfolding read_sheet
read-lines t l e h = pick_true (eqb (length (lines_of t).rest) 0 && all_lines (lines_of t).whole) _ none (rw e h) ∙ ap (λ (x : Lines). frames_sheet (map bytes_of x.whole)) e

-- the frames of a sheet
frames : Geo → List Rec → List (List ℕ)
frames g rs = head_frame g (length rs) ∷ map rec_frame rs

lines-recs : (rs : List Rec) → lines_of (rec_lines rs) ≡ record { whole = map digits_of (map rec_frame rs); rest = [] }
unfolding rec_lines lines_of lines_from
lines-recs [] = refl
lines-recs (r ∷ rs) = lines-line (rec_frame r) (rec_lines rs) ∙ ap (λ (l : Lines). record { whole = digits_of (rec_frame r) ∷ l.whole; rest = l.rest }) (lines-recs rs)

lines-sheet : (g : Geo) (rs : List Rec) → lines_of (sheet g rs) ≡ record { whole = map digits_of (frames g rs); rest = [] }
unfolding sheet frames
lines-sheet g rs = lines-line (head_frame g (length rs)) (rec_lines rs) ∙ ap (λ (l : Lines). record { whole = digits_of (head_frame g (length rs)) ∷ l.whole; rest = l.rest }) (lines-recs rs)

-- the numbers of the first frame are words

capacity-word : (g : Geo) → GoodGeo g → capacity g.factor g.blocks < 65536
capacity-word g k = omega (arith, share-words g k, mul-add (capacity g.factor g.blocks) g.words 3)

blocks-word : (g : Geo) → GoodGeo g → g.blocks < 65536
blocks-word g k = omega (arith, share-words g k)

module _ (g : Geo) (rs : List Rec) (h : Written (record { geo = g; recs = rs })) where
  recs-framed : (words : ℕ) (l : List Rec) → 4 + 2 * words ≤ sheet_line_bytes → GoodRecs words l → All Plain l → Framed (map rec_frame l)
  unfolding Framed GoodRecs All
  recs-framed words [] m k p = tt
  recs-framed words (r ∷ l) m k p = (bytes-rec r k.0.0 p.0, omega (arith, length-rec r, k.0.1), recs-framed words l m k.1 p.1)

  framed : Framed (frames g rs)
  unfolding Framed frames
  framed =
      let k = h.good.geo in (
        bytes-head g (length rs) (omega (arith, k.words-high)) (omega (arith, k.factor-high)) (omega (arith, blocks-word g k)) (omega (arith, capacity-word g k, h.good.few)),
        omega (arith, length-head g (length rs)),
        recs-framed g.words rs (omega (arith, k.words-high, words-said)) h.good.recs h.plain,
      )

  frames-pass : good_head (head_frame g (length rs)) (length (map rec_frame rs)) && good_recs (word_at (head_frame g (length rs)) 1) (map rec_frame rs) ≡ true
  frames-pass =
      rw (length-map rs rec_frame, head-words g (length rs))
      (true-and _ _ (head-good g (length rs) h.good.geo h.good.few) (recs-good rs g.words h.good.recs))

  frames-say : frames_sheet (frames g rs) ≡ some (record { geo = g; recs = rs })
  unfolding frames_sheet frames geo_of
  frames-say = pick_true _ _ none frames-pass ∙ rw (head-words g (length rs), head-factor g (length rs), head-blocks g (length rs), recs-back rs)

  pub sheet-back : read_sheet (sheet g rs) ≡ some (record { geo = g; recs = rs })
  sheet-back =
      read-lines (sheet g rs) _ (lines-sheet g rs) (true-and _ _ refl (lines-framed (frames g rs) framed))
      ∙ (ap frames_sheet (frames-back (frames g rs) framed) ∙ frames-say)

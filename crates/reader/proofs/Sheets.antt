-- A text is a sheet exactly when its first frame is good and as many good records as it says follow, to the end; and these it says.
use Prim.Native.Nat.{ℕ, ◌≤◌, ◌<◌}
use mathlib.Core.Bool.{Bool, true, false, ◌&&◌, true≢false}
use mathlib.Core.List.{List, [], ◌∷◌, map}
use mathlib.Core.Option as maths
use mathlib.Core.Option.{none, some}
use mathlib.Core.Path.{◌≡◌, refl, sym, ap, ◌∙◌, subst}
use native.Mathlib.Omega.{arith}
use lib.Dec.{ltb, eqb}
use lib.ListN.{length, get_or, take, drop, length-map}
use borrow.Author.Tests.{ltb-true, ltb-false, eqb-true, eq-eqb}
use Rattle.words.specs.Word.{word_at}
use Rattle.rules.specs.Limits.{sheet_line_bytes}
use Rattle.rules.specs.Line.{is_line, bytes_of, Lines, lines_of}
use Rattle.rules.specs.Open.{geo_of}
use Rattle.rules.specs.Sheet.{Sheet, all_lines, good_head, good_recs, rec_of, frames_sheet, read_sheet}
use Rattle.rules.proofs.Split.{by_cases, pick_true, and-true, true-and}
use Rattle.hexadecimal.proofs.Lines as hex
use Rattle.reader.specs.Frames.{line_length, frame_at, next_at}
use Rattle.std.specs.Prelude.{Option, Some, None, MatchOption}
use Rattle.reader.specs.declared.Head.{Head}
use Rattle.reader.specs.Sheets.{head_of, recs_from, good_from, is_some}
use Rattle.reader.proofs.Frames.{frame-line, behind-within}
use Rattle.reader.proofs.Lines.{onto, lines_none}
use Rattle.reader.proofs.Heads.{head-held, head-length, head-words, text-good, text-bad}
use Rattle.reader.proofs.Records.{length-recs}
use Rattle.reader.proofs.Lined.{frame-there, lines_at, Lined, recs_of, lined, unlined}

-- reading lines

picked : {A : Type 0} (t : Bool) (x : maths.Option A) (a : A) → elim t as (λ (b : Bool). maths.Option A) [ true ↦ x | false ↦ none ] ≡ some a → (t ≡ true) × (x ≡ some a)
picked true x a e = (refl, e)
picked false x a e = let z : ◌≡◌ {A = ℕ} 0 1 = cc in absurd (omega arith)

unfoldable pub said : List ℕ → List (List ℕ) → Sheet
said h fs = record { geo = geo_of (word_at h 1) (get_or h 3 0) (word_at h 4); recs = map rec_of fs }

pub frames-good : (h : List ℕ) (fs : List (List ℕ)) → good_head h (length fs) ≡ true → good_recs (word_at h 1) fs ≡ true → frames_sheet (h ∷ fs) ≡ some (said h fs)
unfolding frames_sheet said
frames-good h fs e g = pick_true (good_head h (length fs) && good_recs (word_at h 1) fs) _ _ (true-and _ _ e g)

pub frames-read : (h : List ℕ) (fs : List (List ℕ)) (s : Sheet) → frames_sheet (h ∷ fs) ≡ some s → (good_head h (length fs) ≡ true) × (good_recs (word_at h 1) fs ≡ true)
unfolding frames_sheet
frames-read h fs s e = and-true (good_head h (length fs)) (good_recs (word_at h 1) fs) (picked (good_head h (length fs) && good_recs (word_at h 1) fs) _ s e).0

pub frames-none : (s : Sheet) → frames_sheet [] ≡ some s → ⊥
unfolding frames_sheet
frames-none s e = let z : ◌≡◌ {A = ℕ} 0 1 = cc in omega arith

lines-good : (t : List ℕ) → length (lines_of t).rest ≡ 0 → all_lines (lines_of t).whole ≡ true → read_sheet t ≡ frames_sheet (map bytes_of (lines_of t).whole)
unfolding read_sheet
lines-good t e k = pick_true (eqb (length (lines_of t).rest) 0 && all_lines (lines_of t).whole) _ _ (true-and _ _ (eq-eqb (length (lines_of t).rest) 0 e) k)

pub lines-read : (t : List ℕ) (s : Sheet) → read_sheet t ≡ some s → (length (lines_of t).rest ≡ 0) × (all_lines (lines_of t).whole ≡ true) × (frames_sheet (map bytes_of (lines_of t).whole) ≡ some s)
unfolding read_sheet
lines-read t s e =
    let p = picked (eqb (length (lines_of t).rest) 0 && all_lines (lines_of t).whole) (frames_sheet (map bytes_of (lines_of t).whole)) s e in
    let q = and-true (eqb (length (lines_of t).rest) 0) (all_lines (lines_of t).whole) p.0 in
    (eqb-true (length (lines_of t).rest) 0 q.0, q.1, p.1)

-- the first line of a sheet, and those after it
first-line : (line : List ℕ) (l all : Lines) (s : Sheet) → all ≡ onto line l → length all.rest ≡ 0 → all_lines all.whole ≡ true → frames_sheet (map bytes_of all.whole) ≡ some s
    → (is_line sheet_line_bytes line ≡ true) × (good_head (bytes_of line) (length l.whole) ≡ true) × Lined (word_at (bytes_of line) 1) l (length l.whole)
unfolding all_lines
first-line line l all s e r w f =
    let p = and-true (is_line sheet_line_bytes line) (all_lines l.whole) (rw e at w) in
    let q = frames-read (bytes_of line) (map bytes_of l.whole) s (rw e at f) in
    (p.0, rw (length-map l.whole bytes_of) at q.0, record { whole = p.1; rest = rw e at r; count = refl; good = q.1 })

-- what the frames of a text say
sheet_of : List ℕ → Sheet
sheet_of t = record {
  geo = geo_of (word_at (frame_at t 0) 1) (get_or (frame_at t 0) 3 0) (word_at (frame_at t 0) 4);
  recs = recs_from t (next_at t 0) (word_at (frame_at t 0) 6);
}

abbrev Good : List ℕ → Type 0
Good t = (good_head (frame_at t 0) (word_at (frame_at t 0) 6) ≡ true) × (good_from (word_at (frame_at t 0) 1) t (next_at t 0) (word_at (frame_at t 0) 6) ≡ true)

frames-said : (t line : List ℕ) (l : Lines) (n : ℕ) → frame_at t 0 ≡ bytes_of line → good_head (frame_at t 0) n ≡ true → Lined (word_at (frame_at t 0) 1) l n → recs_of l ≡ recs_from t (next_at t 0) n
    → word_at (frame_at t 0) 6 ≡ n → frames_sheet (bytes_of line ∷ map bytes_of l.whole) ≡ some (sheet_of t)
unfolding said sheet_of recs_of
frames-said t line l n e g L r k =
    let c : length (map bytes_of l.whole) ≡ n = length-map l.whole bytes_of ∙ L.count in
    rw (← e) (frames-good (frame_at t 0) (map bytes_of l.whole) (rw c g) L.good ∙ (rw (r, k)))

good-sheet : (t : List ℕ) → Good t → read_sheet t ≡ some (sheet_of t)
unfolding all_lines
good-sheet t G =
    let w = frame-there t 0 (omega (arith, head-length (frame_at t 0) (word_at (frame_at t 0) 6) G.0)) in
    let e = lines_at t 0 w.0 in
    let L = lined (word_at (frame_at t 0) 1) t (word_at (frame_at t 0) 6) (next_at t 0) (behind-within t 0 (omega arith)) G.1 in
    lines-good t (rw e L.0.rest) (rw e (true-and _ _ w.1 L.0.whole))
    ∙ ap (λ (x : Lines). frames_sheet (map bytes_of x.whole)) e
    ∙ frames-said t (take (line_length t) t) (lines_of (drop (next_at t 0) t)) (word_at (frame_at t 0) 6) w.2 G.0 L.0 L.1 refl

sheet-good : (t : List ℕ) (s : Sheet) → read_sheet t ≡ some s → Good t
sheet-good t s e =
    let p = lines-read t s e in
    by_cases (ltb (line_length t) (length t))
    (λ k. on (ltb-true (line_length t) (length t) k) (first-line (take (line_length t) t) (lines_of (drop (next_at t 0) t)) (lines_of t) s (lines_at t 0 (ltb-true (line_length t) (length t) k)) p.0 p.1 p.2))
    (λ k. absurd (frames-none s (rw (lines_none t (ltb-false (line_length t) (length t) k)) at p.2)))
  where
    l : Lines
    l = lines_of (drop (next_at t 0) t)

    line : List ℕ
    line = take (line_length t) t

    on : line_length t < length t → (is_line sheet_line_bytes line ≡ true) × (good_head (bytes_of line) (length l.whole) ≡ true) × Lined (word_at (bytes_of line) 1) l (length l.whole) → Good t
    on k q =
        let g : frame_at t 0 ≡ bytes_of line = unfold frame_at in frame-line t k ∙ hex.frame-line sheet_line_bytes line q.0 in
        let o : good_head (frame_at t 0) (length l.whole) ≡ true = rw g q.1 in
        let h = head-held (frame_at t 0) (length l.whole) o in
        let L : Lined (word_at (frame_at t 0) 1) l (length l.whole) = rw g q.2 in
        (h.1, ap (λ (n : ℕ). good_from (word_at (frame_at t 0) 1) t (next_at t 0) n) h.0 ∙ unlined (word_at (frame_at t 0) 1) t (length l.whole) (next_at t 0) (behind-within t 0 (omega arith)) L)

-- what a sheet says is what its frames say, the head h first and then record after record
pub record Reads (t : List ℕ) (s : Sheet) (h : Head) : Type 0 where
  pub words : 1 ≤ h.words
  pub geo : s.geo ≡ record { words = h.words; factor = h.factor; blocks = h.blocks }
  pub held : length s.recs ≡ h.held
  pub next : h.at ≡ next_at t 0
  pub at : h.at ≤ length t
  pub recs : s.recs ≡ recs_from t h.at h.held
  pub good : good_from h.words t h.at h.held ≡ true

-- what the first frame of a text says
abbrev head_in : List ℕ → Head
head_in t = record { words = word_at (frame_at t 0) 1; factor = get_or (frame_at t 0) 3 0; blocks = word_at (frame_at t 0) 4; held = word_at (frame_at t 0) 6; at = next_at t 0 }

reads : (t : List ℕ) → Good t → Reads t (sheet_of t) (head_in t)
unfolding sheet_of geo_of
reads t G =
    record {
      words = head-words (frame_at t 0) (word_at (frame_at t 0) 6) G.0;
      geo = refl;
      held = length-recs t (word_at (frame_at t 0) 6) (next_at t 0);
      next = refl;
      at = behind-within t 0 (omega arith);
      recs = refl;
      good = G.1;
    }

-- a sheet has a head
pub sheet-head : (t : List ℕ) (s : Sheet) → read_sheet t ≡ some s → (h : Head) × (head_of t ≡ Some h)
sheet-head t s e = (head_in t, text-good t (sheet-good t s e).0)

-- what the head says is read of the sheet
pub sheet-reads : (t : List ℕ) (s : Sheet) → read_sheet t ≡ some s → (h : Head) → head_of t ≡ Some h → Reads t s h
sheet-reads t s e h k =
    let G = sheet-good t s e in
    let o = good-sheet t G in
    let i : sheet_of t ≡ s = cc in
    let j : head_in t ≡ h = cc (text-good t G.0) in
    subst (λ (x : Sheet). Reads t x h) i (subst (λ (x : Head). Reads t (sheet_of t) x) j (reads t G))

-- whether it is one

pub some_is : {A : Type 0} (o : maths.Option A) → is_some o ≡ true → (a : A) × (o ≡ some a)
unfolding is_some
some_is none e = absurd (true≢false (sym e))
some_is (some a) e = (a, refl)

sheet-none : (t : List ℕ) → head_of t ≡ None → is_some (read_sheet t) ≡ false
sheet-none t h =
    by_cases (is_some (read_sheet t))
    (λ e. let p = some_is (read_sheet t) e in let q = sheet-head t p.0 p.1 in absurd (cc))
    (λ e. e)

sheet-some : (t : List ℕ) (h : Head) → head_of t ≡ Some h → is_some (read_sheet t) ≡ good_from h.words t h.at h.held
unfolding is_some
sheet-some t h k =
    by_cases (good_head (frame_at t 0) (word_at (frame_at t 0) 6))
    (λ g. by_cases (is_some (read_sheet t))
    (λ e. let p = some_is (read_sheet t) e in e ∙ sym (sheet-reads t p.0 p.1 h k).good)
    (λ e. by_cases (good_from h.words t h.at h.held)
    (λ d. let j : h ≡ head_in t = cc (text-good t g) in
    absurd (true≢false (ap is_some (sym (good-sheet t (g, subst (λ (x : Head). good_from x.words t x.at x.held ≡ true) j d))) ∙ e)))
    (λ d. e ∙ sym d)))
    (λ g. absurd (cc (text-bad t g)))

-- a text is a sheet if it has a head, and good records follow it
pub sheet-is : (t : List ℕ) (o : Option Head) (b : Bool) → o ≡ head_of t → MatchOption o (b ≡ false) (λ h. b ≡ good_from h.words t h.at h.held) → b ≡ is_some (read_sheet t)
sheet-is t None b e f = f ∙ sym (sheet-none t (sym e))
sheet-is t (Some h) b e f = f ∙ sym (sheet-some t h (sym e))

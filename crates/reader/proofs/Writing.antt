-- A sheet has one writing: its text is the one that is written for what it says. So two texts that say the same are the same.
use Prim.Native.Nat.{ℕ, zero, suc, ◌*◌, ◌+◌, ◌/◌, ◌%◌, ◌<◌, ◌≤◌}
use mathlib.Core.Bool.{true}
use mathlib.Core.List.{List, [], ◌∷◌, ◌++◌, map, append_assoc, append-nil}
use mathlib.Core.Option.{some}
use mathlib.Core.Path.{◌≡◌, refl, sym, ap, ◌∙◌}
use native.Mathlib.Omega.{arith}
use native.Mathlib.Numerals.{add-one}
use lib.Dec.{eqb}
use lib.ListN.{length, get_or, drop, length-map, drop_of_length-le}
use lib.Seq.{drop-cons}
use borrow.Author.Tests.{eqb-true}
use Rattle.words.specs.Word.{word, word_at, Bytes}
use Rattle.words.proofs.Parts.{length-zero}
use Rattle.rules.specs.Limits.{sheet_line_bytes}
use Rattle.rules.specs.Line.{all_digits, bytes_of, is_line, line_of, lines_from, lines_of}
use Rattle.rules.specs.Open.{geo_of}
use Rattle.rules.specs.Sheet.{Sheet, head_frame, rec_frame, rec_lines, sheet, all_lines, good_head, good_rec, good_recs, rec_of, frames_sheet, read_sheet}
use Rattle.rules.proofs.Split.{by_cases, and-true}
use Rattle.hexadecimal.proofs.Lines.{digits-cons, line-is}
use Rattle.hexadecimal.proofs.Trip.{digits-line}
use Rattle.reader.proofs.Lines.{from-lf, from_on}
use Rattle.reader.proofs.Heads.{head-length, head-kind, head-held}
use Rattle.reader.proofs.Records.{rec-good}
use Rattle.reader.proofs.Sheets.{said, frames-good, frames-read, frames-none, lines-read}

-- a text is its lines, each ended by LF, and the rest after the last LF

unfoldable text_of : List (List ℕ) → List ℕ
text_of [] = []
text_of (line ∷ ls) = line ++ (10 ∷ text_of ls)

text-from : (t line : List ℕ) → text_of (lines_from line t).whole ++ (lines_from line t).rest ≡ line ++ t
unfolding text_of lines_from
text-from [] line = sym (append-nil line)
text-from (x ∷ t) line =
    by_cases (eqb x 10)
    (λ e. rw (from-lf line x t e, eqb-true x 10 e) (append_assoc line (10 ∷ text_of (lines_from [] t).whole) (lines_from [] t).rest ∙ ap (λ (u : List ℕ). line ++ (10 ∷ u)) (text-from t [])))
    (λ e. rw (from_on line x t e) (text-from t (line ++ (x ∷ [])) ∙ append_assoc line (x ∷ []) t))

-- what digits say are bytes

bytes-bytes : (s : List ℕ) → all_digits s ≡ true → Bytes (bytes_of s)
unfolding Bytes bytes_of
bytes-bytes [] e i = omega arith
bytes-bytes (a ∷ []) e i = omega arith
bytes-bytes (a ∷ b ∷ s) e zero = let p = digits-cons a (b ∷ s) e in let q = digits-cons b s p.1 in omega arith
bytes-bytes (a ∷ b ∷ s) e (suc i) = bytes-bytes s (digits-cons b s (digits-cons a (b ∷ s) e).1).1 i

line-bytes : (s : List ℕ) → is_line sheet_line_bytes s ≡ true → Bytes (bytes_of s)
line-bytes s e = bytes-bytes s (line-is sheet_line_bytes s e).2

-- a frame that was read is written as it stands

word-drop : (h : List ℕ) (i : ℕ) → Bytes h → suc i < length h → drop i h ≡ word (word_at h i) ++ drop (suc (suc i)) h
unfolding Bytes
word-drop h i b k =
    let high : (get_or h i 0 * 256 + get_or h (suc i) 0) / 256 ≡ get_or h i 0 = omega (arith, b (suc i)) in
    let low : (get_or h i 0 * 256 + get_or h (suc i) 0) % 256 ≡ get_or h (suc i) 0 = omega (arith, b (suc i)) in
    rw (add-one i, high, low) (drop-cons h i 0 (omega arith) ∙ ap (λ (t : List ℕ). get_or h i 0 ∷ t) (drop-cons h (suc i) 0 k))

rec-back : (fr : List ℕ) → Bytes fr → 4 ≤ length fr → rec_frame (rec_of fr) ≡ fr
unfolding rec_frame rec_of
rec-back fr b h = sym (word-drop fr 0 b (omega arith) ∙ ap (λ (t : List ℕ). word (word_at fr 0) ++ t) (word-drop fr 2 b (omega arith)))

head-back : (h : List ℕ) (n : ℕ) → Bytes h → good_head h n ≡ true → head_frame (geo_of (word_at h 1) (get_or h 3 0) (word_at h 4)) n ≡ h
unfolding head_frame geo_of
head-back h n b g =
    let l = head-length h n g in
    let o : length h ≤ 8 = omega arith in
    let end : drop 8 h ≡ [] = drop_of_length-le h o in
    let held : drop 6 h ≡ word n = word-drop h 6 b (omega arith) ∙ rw ((head-held h n g).0, end) in
    let blocks : drop 4 h ≡ word (word_at h 4) ++ word n = word-drop h 4 b (omega arith) ∙ ap (λ (t : List ℕ). word (word_at h 4) ++ t) held in
    let factor : drop 3 h ≡ get_or h 3 0 ∷ word (word_at h 4) ++ word n = drop-cons h 3 0 (omega arith) ∙ ap (λ (t : List ℕ). get_or h 3 0 ∷ t) blocks in
    let words : drop 1 h ≡ word (word_at h 1) ++ (get_or h 3 0 ∷ word (word_at h 4) ++ word n) = word-drop h 1 b (omega arith) ∙ ap (λ (t : List ℕ). word (word_at h 1) ++ t) factor in
    sym (drop-cons h 0 0 (omega arith) ∙ rw (head-kind h n g, words))

-- the lines of a sheet are those that are written for it

line-written : (line frame t : List ℕ) → is_line sheet_line_bytes line ≡ true → frame ≡ bytes_of line → line ++ (10 ∷ t) ≡ line_of frame ++ t
unfolding line_of
line-written line frame t e k = rw (k, digits-line sheet_line_bytes line e) (sym (append_assoc line (10 ∷ []) t))

recs-written : (words : ℕ) (ls : List (List ℕ)) → all_lines ls ≡ true → good_recs words (map bytes_of ls) ≡ true → text_of ls ≡ rec_lines (map rec_of (map bytes_of ls))
unfolding text_of rec_lines all_lines good_recs
recs-written words [] e g = refl
recs-written words (line ∷ ls) e g =
    let p = and-true (is_line sheet_line_bytes line) (all_lines ls) e in
    let q = and-true (good_rec words (bytes_of line)) (good_recs words (map bytes_of ls)) g in
    ap (λ (t : List ℕ). line ++ (10 ∷ t)) (recs-written words ls p.1 q.1)
    ∙ line-written line (rec_frame (rec_of (bytes_of line))) _ p.0 (rec-back (bytes_of line) (line-bytes line p.0) (rec-good words (bytes_of line) q.0).0)

lines-written : (ls : List (List ℕ)) (s : Sheet) → all_lines ls ≡ true → frames_sheet (map bytes_of ls) ≡ some s → text_of ls ≡ sheet s.geo s.recs
unfolding text_of all_lines said sheet
lines-written [] s e f = absurd (frames-none s f)
lines-written (line ∷ ls) s e f =
    let h = bytes_of line in
    let fs = map bytes_of ls in
    let p = and-true (is_line sheet_line_bytes line) (all_lines ls) e in
    let q = frames-read h fs s f in
    let k = frames-good h fs q.0 q.1 in
    let i : said h fs ≡ s = cc in
    rw (← i, length-map fs rec_of)
    (ap (λ (t : List ℕ). line ++ (10 ∷ t)) (recs-written (word_at h 1) ls p.1 q.1)
    ∙ line-written line _ _ p.0 (head-back h (length fs) (line-bytes line p.0) q.0))

pub one-writing : (t : List ℕ) (s : Sheet) → read_sheet t ≡ some s → t ≡ sheet s.geo s.recs
unfolding lines_of
one-writing t s e =
    let p = lines-read t s e in
    let whole : text_of (lines_of t).whole ≡ t = sym (append-nil _) ∙ ap (λ (l : List ℕ). text_of (lines_of t).whole ++ l) (sym (length-zero (lines_of t).rest p.0)) ∙ text-from t [] in
    sym whole ∙ lines-written (lines_of t).whole s p.1 p.2

-- Good records from a cursor on are lines to the end of the text, and say what these lines say.
use Prim.Native.Nat.{ℕ, zero, suc, ◌≤◌, ◌<◌}
use mathlib.Core.Bool.{true}
use mathlib.Core.List.{List, [], map}
use mathlib.Core.Path.{◌≡◌, refl, sym, ap, ◌∙◌}
use native.Mathlib.Omega.{arith}
use lib.Dec.{ltb}
use lib.ListN.{length, take, drop, length-drop, drop_of_length-le}
use lib.Seq.{drop-drop}
use borrow.Author.Tests.{ltb-true, ltb-false, eqb-true, eq-eqb}
use Rattle.rules.specs.Limits.{sheet_line_bytes}
use Rattle.rules.specs.Line.{is_line, bytes_of, Lines, lines_from, lines_of}
use Rattle.rules.specs.State.{Rec}
use Rattle.rules.specs.Sheet.{all_lines, good_rec, good_recs, rec_of}
use Rattle.rules.proofs.Split.{by_cases, and-true, true-and}
use Rattle.hexadecimal.proofs.Lines as hex
use Rattle.reader.specs.Frames.{line_length, frame_at, next_at}
use Rattle.reader.specs.Sheets.{recs_from, good_from}
use Rattle.reader.proofs.Frames.{frame-line, frame-none, span-line, behind-within}
use Rattle.reader.proofs.Lines.{onto, lines-line, lines_none}
use Rattle.reader.proofs.Records.{rec-good, from_on, from_cons, from_end}

-- a frame that says something is a line's, and LF ends it
pub frame-there : (t : List ℕ) (at : ℕ) → 1 ≤ length (frame_at t at)
    → (line_length (drop at t) < length (drop at t)) × (is_line sheet_line_bytes (take (line_length (drop at t)) (drop at t)) ≡ true) × (frame_at t at ≡ bytes_of (take (line_length (drop at t)) (drop at t)))
unfolding frame_at
frame-there t at h =
    let u = drop at t in
    by_cases (ltb (line_length u) (length u))
    (λ e. by_cases (is_line sheet_line_bytes (take (line_length u) u))
    (λ k. (ltb-true (line_length u) (length u) e, k, frame-line u (ltb-true (line_length u) (length u) e) ∙ hex.frame-line sheet_line_bytes (take (line_length u) u) k))
    (λ k. absurd (omega (arith, ap length (frame-line u (ltb-true (line_length u) (length u) e) ∙ hex.frame-none sheet_line_bytes (take (line_length u) u) k)))))
    (λ e. absurd (omega (arith, ap length (frame-none u (ltb-false (line_length u) (length u) e)))))

behind-line : (t : List ℕ) (at : ℕ) → line_length (drop at t) < length (drop at t) → drop (suc (line_length (drop at t))) (drop at t) ≡ drop (next_at t at) t
unfolding next_at
behind-line t at h = rw (span-line (drop at t) h) (drop-drop (suc (line_length (drop at t))) at t)

pub lines_at : (t : List ℕ) (at : ℕ) → line_length (drop at t) < length (drop at t) → lines_of (drop at t) ≡ onto (take (line_length (drop at t)) (drop at t)) (lines_of (drop (next_at t at) t))
lines_at t at h = lines-line (drop at t) h ∙ ap (λ (x : List ℕ). onto (take (line_length (drop at t)) (drop at t)) (lines_of x)) (behind-line t at h)

-- n lines that are good records, and nothing after them
pub record Lined (r : ℕ) (l : Lines) (n : ℕ) : Type 0 where
  pub whole : all_lines l.whole ≡ true
  pub rest : length l.rest ≡ 0
  pub count : length l.whole ≡ n
  pub good : good_recs r (map bytes_of l.whole) ≡ true

lined_on : (r n : ℕ) (line : List ℕ) (l : Lines) → is_line sheet_line_bytes line ≡ true → good_rec r (bytes_of line) ≡ true → Lined r l n → Lined r (onto line l) (suc n)
unfolding all_lines good_recs
lined_on r n line l e g L = record { whole = true-and _ _ e L.whole; rest = L.rest; count = ap suc L.count; good = true-and _ _ g L.good }

lined-off : (r n : ℕ) (line : List ℕ) (l : Lines) → Lined r (onto line l) (suc n) → (is_line sheet_line_bytes line ≡ true) × (good_rec r (bytes_of line) ≡ true) × Lined r l n
unfolding all_lines good_recs
lined-off r n line l L =
    let p = and-true (is_line sheet_line_bytes line) (all_lines l.whole) L.whole in
    let q = and-true (good_rec r (bytes_of line)) (good_recs r (map bytes_of l.whole)) L.good in
    let c = L.count in
    (p.0, q.0, record { whole = p.1; rest = L.rest; count = omega arith; good = q.1 })

lined-none : (r : ℕ) → Lined r (lines_of []) 0
unfolding lines_of lines_from all_lines good_recs
lined-none r = record { whole = refl; rest = refl; count = refl; good = refl }

-- the records that lines say
unfoldable pub recs_of : Lines → List Rec
recs_of l = map rec_of (map bytes_of l.whole)

recs-on : (t line : List ℕ) (at n : ℕ) (l : Lines) → frame_at t at ≡ bytes_of line → recs_of l ≡ recs_from t (next_at t at) n → recs_of (onto line l) ≡ recs_from t at (suc n)
unfolding recs_of recs_from
recs-on t line at n l e k = rw (e, k)

pub lined : (r : ℕ) (t : List ℕ) (n at : ℕ) → at ≤ length t → good_from r t at n ≡ true → Lined r (lines_of (drop at t)) n × (recs_of (lines_of (drop at t)) ≡ recs_from t at n)
unfolding recs_of recs_from lines_of lines_from
lined r t zero at h e =
    let k : at ≡ length t = eqb-true at (length t) (sym (from_end r t at 0 (omega arith)) ∙ e) in
    let o : length t ≤ at = omega arith in
    let d : drop at t ≡ [] = drop_of_length-le t o in
    rw d (lined-none r, refl)
lined r t (suc n) at h e =
    let p = from_cons r t at n e in
    let w = frame-there t at (omega (arith, (rec-good r (frame_at t at) p.0).0)) in
    let i = lined r t n (next_at t at) (behind-within t at h) p.1 in
    rw (lines_at t at w.0) (lined_on r n _ _ w.1 (rw w.2 at p.0) i.0, recs-on t _ at n (lines_of (drop (next_at t at) t)) w.2 i.1)

pub unlined : (r : ℕ) (t : List ℕ) (n at : ℕ) → at ≤ length t → Lined r (lines_of (drop at t)) n → good_from r t at n ≡ true
unlined r t zero at h L =
    by_cases (ltb (line_length (drop at t)) (length (drop at t)))
    (λ e. let c = rw (lines_at t at (ltb-true _ _ e)) at L.count in absurd (omega arith))
    (λ e. let c = rw (lines_none (drop at t) (ltb-false _ _ e)) at L.rest in
    from_end r t at 0 (omega arith) ∙ eq-eqb at (length t) (omega (arith, length-drop at t)))
unlined r t (suc n) at h L =
    by_cases (ltb (line_length (drop at t)) (length (drop at t)))
    (λ e. on (ltb-true _ _ e) (lined-off r n _ _ (rw (lines_at t at (ltb-true _ _ e)) at L)) (unlined r t n (next_at t at) (behind-within t at h)))
    (λ e. let c = rw (lines_none (drop at t) (ltb-false _ _ e)) at L.count in absurd (omega arith))
  where
    on : (k : line_length (drop at t) < length (drop at t)) → (is_line sheet_line_bytes (take (line_length (drop at t)) (drop at t)) ≡ true) × (good_rec r (bytes_of (take (line_length (drop at t)) (drop at t))) ≡ true) × Lined r (lines_of (drop (next_at t at) t)) n → (Lined r (lines_of (drop (next_at t at) t)) n → good_from r t (next_at t at) n ≡ true) → good_from r t at (suc n) ≡ true
    on k p i =
        let g : frame_at t at ≡ bytes_of (take (line_length (drop at t)) (drop at t)) = unfold frame_at in frame-line (drop at t) k ∙ hex.frame-line sheet_line_bytes _ p.0 in
        from_on r t at n (rw g p.1) ∙ i p.2

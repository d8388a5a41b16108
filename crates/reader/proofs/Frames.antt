-- Laws of the line and the frame at a cursor.
use Prim.Native.Nat.{ℕ, suc, ◌+◌, ◌-◌, ◌≤◌, ◌<◌}
use mathlib.Core.Bool.{true, false}
use mathlib.Core.List.{List, [], ◌∷◌}
use mathlib.Core.Path.{◌≡◌, refl}
use native.Mathlib.Omega.{arith}
use lib.Dec.{ltb, eqb}
use Rattle.std.specs.Prelude.{Some, None}
use Rattle.std.specs.List.{position, position_or_len}
use Rattle.std.proofs.lemmas.List.Recursion.{is_position_or_len}
use Rattle.std.proofs.lemmas.List.{take_rest}
use lib.ListN.{length, take, drop, length-drop}
use lib.Seq.{sets, sets-eq, take_at}
use borrow.Author.Tests.{ltb-true, ltb-false, lt-ltb, le-ltb}
use Rattle.rules.specs.Limits.{sheet_line_bytes}
use Rattle.rules.specs.Line.{frame_in}
use Rattle.rules.proofs.Split.{by_cases, pick_true, pick-false}
use Rattle.reader.specs.Frames.{line_length, first_frame, line_span, frame_at, next_at}

-- the line in front

pub length-lf : (x : ℕ) (t : List ℕ) → eqb x 10 ≡ true → line_length (x ∷ t) ≡ 0
unfolding line_length
length-lf x t e = pick_true (eqb x 10) 0 (suc (line_length t)) e

pub length-on : (x : ℕ) (t : List ℕ) → eqb x 10 ≡ false → line_length (x ∷ t) ≡ suc (line_length t)
unfolding line_length
length-on x t e = pick-false (eqb x 10) 0 (suc (line_length t)) e

pub length-line : (t : List ℕ) → line_length t ≤ length t
unfolding line_length
length-line [] = omega arith
length-line (x ∷ t) = let h = length-line t in by_cases (eqb x 10) (λ e. omega (arith, length-lf x t e)) (λ e. omega (arith, length-on x t e))

-- the frame in front, by whether LF ends the line

pub frame-line : (u : List ℕ) → line_length u < length u → first_frame u ≡ frame_in sheet_line_bytes (take (line_length u) u)
unfolding first_frame
frame-line u h = pick_true (ltb (line_length u) (length u)) _ _ (lt-ltb (line_length u) (length u) h)

pub frame-none : (u : List ℕ) → length u ≤ line_length u → first_frame u ≡ []
unfolding first_frame
frame-none u h = pick-false (ltb (line_length u) (length u)) _ _ (le-ltb (line_length u) (length u) h)

pub span-line : (u : List ℕ) → line_length u < length u → line_span u ≡ suc (line_length u)
unfolding line_span
span-line u h = pick_true (ltb (line_length u) (length u)) _ _ (lt-ltb (line_length u) (length u) h)

pub span_none : (u : List ℕ) → length u ≤ line_length u → line_span u ≡ line_length u
unfolding line_span
span_none u h = pick-false (ltb (line_length u) (length u)) _ _ (le-ltb (line_length u) (length u) h)

-- where a search for LF ends

length-is : (t : List ℕ) → line_length t ≡ position_or_len (λ x. eqb x 10) t
length-is t = is_position_or_len line_length (λ x. eqb x 10) (unfold line_length in refl) (λ x xs. by_cases (eqb x 10) (λ e. rw (length-lf x xs e, e)) (λ e. rw (length-on x xs e, e) (omega arith))) t

length-found : (t : List ℕ) (n : ℕ) → position (λ x. eqb x 10) t ≡ Some n → (line_length t ≡ n) × (n < length t)
length-found t n e =
    by_cases (ltb (line_length t) (length t))
    (λ k. let l : line_length t ≡ n = cc (length-is t) in (l, omega (arith, ltb-true (line_length t) (length t) k)))
    (λ k. absurd (cc (length-is t)))

length-all : (t : List ℕ) → position (λ x. eqb x 10) t ≡ None → length t ≤ line_length t
length-all t e =
    by_cases (ltb (line_length t) (length t))
    (λ k. absurd (cc (length-is t)))
    (λ k. ltb-false (line_length t) (length t) k)

-- and at the cursor

pub next_ended : (t : List ℕ) (at n : ℕ) → position (λ x. eqb x 10) (take (length t - at) (drop at t)) ≡ Some n
    → (frame_at t at ≡ frame_in sheet_line_bytes (take n (take (length t - at) (drop at t)))) × (next_at t at ≡ at + (n + 1))
unfolding frame_at next_at
next_ended t at n e =
    let p = length-found (drop at t) n (rw take_rest at e) in
    let m : line_length (drop at t) < length (drop at t) = omega arith in
    (rw (take_rest, ← p.0) (frame-line (drop at t) m), omega (arith, span-line (drop at t) m))

pub frame_unended : (t : List ℕ) (at : ℕ) → position (λ x. eqb x 10) (take (length t - at) (drop at t)) ≡ None → frame_at t at ≡ []
unfolding frame_at
frame_unended t at e = frame-none (drop at t) (length-all (drop at t) (rw take_rest at e))

pub next_unended : (t : List ℕ) (at : ℕ) → at ≤ length t → position (λ x. eqb x 10) (take (length t - at) (drop at t)) ≡ None → next_at t at ≡ length t
unfolding next_at
next_unended t at h e =
    let m = length-all (drop at t) (rw take_rest at e) in
    omega (arith, length-drop at t, span_none (drop at t) m, length-line (drop at t))

pub behind-within : (t : List ℕ) (at : ℕ) → at ≤ length t → next_at t at ≤ length t
unfolding next_at
behind-within t at h =
    let u = drop at t in
    let l = length-drop at t in
    by_cases (ltb (line_length u) (length u))
    (λ e. omega (arith, span-line u (ltb-true (line_length u) (length u) e), ltb-true (line_length u) (length u) e))
    (λ e. omega (arith, span_none u (ltb-false (line_length u) (length u) e), length-line u))

-- what stands from the first byte on is what was put there
put_first : (xs vs : List ℕ) → length vs ≤ length xs → take (length vs) (sets xs 0 vs) ≡ vs
put_first xs vs h = rw (sets-eq vs xs 0 (omega arith)) (take_at vs (drop (0 + length vs) xs) (length vs) refl)

-- the part of the memory that was read is the frame
pub frame-read : (t zs frame : List ℕ) (at n : ℕ) → n ≡ length (frame_at t at) → frame ≡ sets zs 0 (frame_at t at) → n ≤ length zs → take n frame ≡ frame_at t at
frame-read t zs frame at n s f h = rw (s, f) (put_first zs (frame_at t at) (omega arith))

-- Laws of lines: what one more digit or byte does in the loops, and what a line is.
use Prim.Native.Nat.{ℕ, zero, suc, ◌+◌, ◌*◌, ◌/◌, ◌%◌, ◌<◌, ◌≤◌}
use mathlib.Core.Bool.{Bool, true, false, cond, ◌&&◌}
use mathlib.Core.List.{List, [], ◌∷◌}
use mathlib.Core.Path.{◌≡◌, refl, sym}
use native.Mathlib.Omega.{arith}
use native.Mathlib.Numerals.{add-one}
use lib.ListN.{length, get_or, set, take, drop, drop_of_length-le, length-drop}
use lib.Seq.{sets, drop-cons}
use lib.Dec.{ltb, leb, eqb}
use borrow.Author.Tests.{ltb-true, leb-true, eqb-true}
use Rattle.rules.specs.Line.{value_of, digit_of, all_digits, bytes_of, digits_of, is_line, frame_in}

pub both : (a b : Bool) → cond a b false ≡ true → (a ≡ true) × (b ≡ true)
both true b e = (refl, e)
both false b e = let z : ◌≡◌ {A = ℕ} 0 1 = cc in absurd (omega arith)

-- all digits

pub digits-cons : (b : ℕ) (s : List ℕ) → all_digits (b ∷ s) ≡ true → (value_of b < 16) × (all_digits s ≡ true)
unfolding all_digits
digits-cons b s e = let p = both (ltb (value_of b) 16) (all_digits s) e in (ltb-true _ _ p.0, p.1)

pub digits-at : (s : List ℕ) (i : ℕ) → all_digits s ≡ true → i < length s → value_of (get_or s i 0) < 16
digits-at [] i e h = absurd (omega arith)
digits-at (b ∷ s) zero e h = (digits-cons b s e).0
digits-at (b ∷ s) (suc i) e h = digits-at s i (digits-cons b s e).1 (omega arith)

last-and : (t : Bool) → cond t true false ≡ t
last-and true = refl
last-and false = refl

cond-and : (t a u : Bool) → cond t (a && u) false ≡ (cond t a false && u)
cond-and true a u = refl
cond-and false a u = refl

digits-suc : (s : List ℕ) (i : ℕ) → i < length s → all_digits (take (suc i) s) ≡ (all_digits (take i s) && ltb (value_of (get_or s i 0)) 16)
unfolding all_digits
digits-suc [] i h = absurd (omega arith)
digits-suc (b ∷ s) zero h = last-and (ltb (value_of b) 16)
digits-suc (b ∷ s) (suc i) h =
    rw (digits-suc s i (omega arith)) (cond-and (ltb (value_of b) 16) (all_digits (take i s)) (ltb (value_of (get_or s i 0)) 16))

pub digits_none : true ≡ all_digits []
unfolding all_digits
digits_none = refl

pub digits_more : (s : List ℕ) (i : ℕ) (all d : Bool) → i < length s → all ≡ all_digits (take i s) → d ≡ ltb (value_of (get_or s i 0)) 16
    → (all && d) ≡ all_digits (take (i + 1) s)
digits_more s i all d h e f = rw (e, f, add-one i) (sym (digits-suc s i h))

-- digits to bytes

pub bytes-short : (s : List ℕ) → length s ≤ 1 → bytes_of s ≡ []
unfolding bytes_of
bytes-short [] h = refl
bytes-short (a ∷ []) h = refl
bytes-short (a ∷ b ∷ s) h = absurd (omega arith)

pub length-bytes : (s : List ℕ) → length (bytes_of s) ≡ length s / 2
unfolding bytes_of
length-bytes [] = refl
length-bytes (a ∷ []) = refl
length-bytes (a ∷ b ∷ s) = omega (arith, length-bytes s)

pub fill_step : (s out : List ℕ) (i : ℕ) → 2 * i + 1 < length s → sets out i (bytes_of (drop (2 * i) s)) ≡ sets (set out i (value_of (get_or s (2 * i) 0) * 16 + value_of (get_or s (2 * i + 1) 0))) (i + 1) (bytes_of (drop (2 * (i + 1)) s))
unfolding bytes_of
fill_step s out i h =
    let e : 2 * (i + 1) ≡ suc (suc (2 * i)) = omega arith in
    rw (e, add-one i, add-one (2 * i), drop-cons s (2 * i) 0 (omega arith), drop-cons s (suc (2 * i)) 0 (omega arith))

pub fill_end : (s out : List ℕ) (i : ℕ) → length s ≤ 2 * i + 1 → sets out i (bytes_of (drop (2 * i) s)) ≡ out
fill_end s out i h = rw (bytes-short (drop (2 * i) s) (rw length-drop (omega arith)))

-- bytes to digits

pub encode-step : (s out : List ℕ) (i : ℕ) → i < length s → sets out (2 * i) (digits_of (drop i s)) ≡ sets (set (set out (2 * i) (digit_of (get_or s i 0 / 16))) (2 * i + 1) (digit_of (get_or s i 0 % 16))) (2 * (i + 1)) (digits_of (drop (i + 1) s))
unfolding digits_of
encode-step s out i h =
    let e : 2 * (i + 1) ≡ suc (suc (2 * i)) = omega arith in
    rw (e, add-one i, add-one (2 * i), drop-cons s i 0 h)

pub encode-end : (s out : List ℕ) (i : ℕ) → length s ≤ i → sets out (2 * i) (digits_of (drop i s)) ≡ out
unfolding digits_of
encode-end s out i h = rw (drop_of_length-le s h)

-- lines

pub line-is : (n : ℕ) (s : List ℕ) → is_line n s ≡ true → (length s ≤ 2 * n) × (length s % 2 ≡ 0) × (all_digits s ≡ true)
unfolding is_line
line-is n s e =
    let p = both (leb (length s) (2 * n)) (cond (eqb (length s % 2) 0) (all_digits s) false) e in
    let q = both (eqb (length s % 2) 0) (all_digits s) p.1 in
    (leb-true _ _ p.0, eqb-true _ _ q.0, q.1)

pub frame-line : (n : ℕ) (s : List ℕ) → is_line n s ≡ true → frame_in n s ≡ bytes_of s
unfolding frame_in
frame-line n s e = rw e

pub frame-none : (n : ℕ) (s : List ℕ) → is_line n s ≡ false → frame_in n s ≡ []
unfolding frame_in
frame-none n s e = rw e

-- what `decode` rests on
pub ruleset decoding = (line-is, length-bytes, frame-line, frame-none)

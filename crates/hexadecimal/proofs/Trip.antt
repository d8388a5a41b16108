-- The round trip: what is encoded is a line and says what was encoded, and a line's frame encodes to the line.
use Prim.Native.Nat.{ℕ, suc, ◌+◌, ◌*◌, ◌/◌, ◌%◌, ◌<◌, ◌≤◌}
use mathlib.Core.Bool.{true}
use mathlib.Core.List.{List, [], ◌∷◌}
use mathlib.Core.Path.{◌≡◌, refl, ◌∙◌}
use native.Mathlib.Omega.{arith}
use lib.ListN.{length, length-append}
use borrow.Author.Tests.{lt-ltb, le-leb, eq-eqb}
use Rattle.rules.specs.Line.{value_of, digit_of, digits_of, all_digits, bytes_of, is_line, frame_in, line_of}
use Rattle.hexadecimal.proofs.Digits.{value-digit, digit_value}
use Rattle.hexadecimal.proofs.Lines.{digits-cons, line-is, frame-line}
use Rattle.words.specs.Word.{Bytes}

pub length_digits : (xs : List ℕ) → length (digits_of xs) ≡ 2 * length xs
unfolding digits_of
length_digits [] = refl
length_digits (x ∷ xs) = omega (arith, length_digits xs)

pub length-line : (xs : List ℕ) → length (line_of xs) ≡ 2 * length xs + 1
unfolding line_of
length-line xs = omega (arith, length-append (digits_of xs) (10 ∷ []), length_digits xs)

-- the two digits of a byte
pub value-high : (x : ℕ) → x < 256 → value_of (digit_of (x / 16)) ≡ x / 16
value-high x h = value-digit (x / 16) (omega arith)

pub value_low : (x : ℕ) → value_of (digit_of (x % 16)) ≡ x % 16
value_low x = value-digit (x % 16) (omega arith)

pub digits-digits : (xs : List ℕ) → Bytes xs → all_digits (digits_of xs) ≡ true
unfolding digits_of all_digits Bytes
digits-digits [] h = refl
digits-digits (x ∷ xs) h =
    let b : x < 256 = h 0 in
    rw (value-high x b, value_low x, lt-ltb (x / 16) 16 (omega arith), lt-ltb (x % 16) 16 (omega arith), digits-digits xs (λ i. h (suc i)))

pub bytes-digits : (xs : List ℕ) → Bytes xs → bytes_of (digits_of xs) ≡ xs
unfolding digits_of bytes_of Bytes
bytes-digits [] h = refl
bytes-digits (x ∷ xs) h =
    let e : x / 16 * 16 + x % 16 ≡ x = omega arith in
    rw (value-high x (h 0), value_low x, e, bytes-digits xs (λ i. h (suc i)))

pub line-digits : (n : ℕ) (xs : List ℕ) → Bytes xs → length xs ≤ n → is_line n (digits_of xs) ≡ true
unfolding is_line
line-digits n xs h k =
    let l = length_digits xs in
    rw (le-leb (length (digits_of xs)) (2 * n) (omega arith), eq-eqb (length (digits_of xs) % 2) 0 (omega arith), digits-digits xs h)

-- a frame, written and read
pub frame-digits : (n : ℕ) (xs : List ℕ) → Bytes xs → length xs ≤ n → frame_in n (digits_of xs) ≡ xs
frame-digits n xs h k = frame-line n (digits_of xs) (line-digits n xs h k) ∙ bytes-digits xs h

pub digits-bytes : (s : List ℕ) → length s % 2 ≡ 0 → all_digits s ≡ true → digits_of (bytes_of s) ≡ s
unfolding digits_of bytes_of
digits-bytes [] k e = refl
digits-bytes (a ∷ []) k e = absurd (omega arith)
digits-bytes (a ∷ b ∷ s) k e =
    let p = digits-cons a (b ∷ s) e in
    let q = digits-cons b s p.1 in
    let h : (value_of a * 16 + value_of b) / 16 ≡ value_of a = omega arith in
    let l : (value_of a * 16 + value_of b) % 16 ≡ value_of b = omega arith in
    rw (h, l, digit_value a p.0, digit_value b q.0, digits-bytes s (omega arith) q.1)

-- a line, read and written
pub digits-line : (n : ℕ) (s : List ℕ) → is_line n s ≡ true → digits_of (bytes_of s) ≡ s
digits-line n s e = let l = line-is n s e in digits-bytes s l.1 l.2

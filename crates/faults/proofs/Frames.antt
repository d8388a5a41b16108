-- A line has no fault exactly when it says a frame of one byte or more. So a line with a fault is taken as an empty frame, and no other line is.
use Prim.Native.Nat.{ℕ, zero, suc, ◌+◌, ◌*◌, ◌%◌, ◌<◌, ◌≤◌}
use mathlib.Core.Bool.{true}
use mathlib.Core.Path.{◌≡◌, refl, ap, sym, ◌∙◌}
use mathlib.Core.List.{List, [], ◌∷◌, ◌++◌}
use native.Mathlib.Omega.{arith}
use lib.Dec.{ltb, eqb}
use lib.ListN.{length, take}
use borrow.Author.Tests.{lt-ltb, ltb-true, ltb-false, eqb-true, eqb-false, le-leb, eq-eqb, ne_eqb}
use Rattle.std.specs.Prelude.{Some, None}
use Rattle.words.specs.Word.{Bytes}
use Rattle.rules.specs.Limits.{line_bytes}
use Rattle.rules.specs.Line.{value_of, digits_of, all_digits, is_line, line_frame, line_of}
use Rattle.rules.proofs.Split.{by_cases}
use Rattle.hexadecimal.proofs.Lines.{digits-cons, bytes-short, length-bytes, line-is, frame-line, frame-none}
use Rattle.hexadecimal.proofs.Trip.{length_digits, digits-line, line-digits}
use Rattle.faults.specs.declared.reading.Fault.{Fault}
use Rattle.faults.specs.declared.reading.Fault.TheVariants.{Blank, Long, Odd}
use Rattle.faults.specs.Faults.{most_digits, strange, digits_alone, fault_after, fault_of}
use Rattle.faults.proofs.Steps.{after-digit, after-long, after-strange}

some : (f : Fault) → Some f ≡ None → ⊥
some f e = cc

-- a line of digits alone

digits-none : (n : ℕ) → 0 < n → n % 2 ≡ 0 → digits_alone n ≡ None
unfolding digits_alone
digits-none n h e = rw (ne_eqb n 0 (λ z. omega arith), eq-eqb (n % 2) 0 e)

none-digits : (n : ℕ) → digits_alone n ≡ None → (0 < n) × (n % 2 ≡ 0)
unfolding digits_alone
none-digits n e =
    by_cases (eqb n 0)
    (λ z. absurd (some Blank (rw z at e)))
    (λ z. by_cases (eqb (n % 2) 0)
    (λ k. let x = eqb-false n 0 z in (omega (arith, x), eqb-true _ _ k))
    (λ k. absurd (some Odd (rw (z, k) at e))))

-- what follows n digits in a line without fault, and back
pub record Rest (n : ℕ) (s : List ℕ) : Type 0 where
  pub digits : all_digits s ≡ true
  pub most : n + length s ≤ most_digits
  pub even : (n + length s) % 2 ≡ 0
  pub some : 0 < n + length s

rest_of : (n : ℕ) (s : List ℕ) → n ≤ most_digits → fault_after n s ≡ None → Rest n s
unfolding fault_after all_digits
rest_of n [] h e = let a = none-digits n e in record { digits = refl; most = omega arith; even = omega (arith, a.1); some = omega (arith, a.0) }
rest_of n (b ∷ s) h e =
    by_cases (ltb (value_of b) 16)
    (λ d. by_cases (ltb n most_digits)
    (λ k.
    let r = rest_of (suc n) s (omega (arith, ltb-true n most_digits k)) (sym (after-digit n b s d (ltb-true _ _ k)) ∙ e) in
    record { digits = rw d r.digits; most = omega (arith, r.most); even = omega (arith, r.even); some = omega arith })
    (λ k. absurd (some Long (sym (after-long n b s d (ltb-false _ _ k)) ∙ e))))
    (λ d. absurd (some (strange b) (sym (after-strange n b s d) ∙ e)))

of-rest : (n : ℕ) (s : List ℕ) → Rest n s → fault_after n s ≡ None
unfolding fault_after
of-rest n [] r = digits-none n (omega (arith, r.some)) (omega (arith, r.even))
of-rest n (b ∷ s) r =
    let d = digits-cons b s r.digits in
    after-digit n b s (lt-ltb _ 16 d.0) (omega (arith, r.most))
    ∙ of-rest (suc n) s (record { digits = d.1; most = omega (arith, r.most); even = omega (arith, r.even); some = omega arith })

-- a line without fault is one that the rules take for a frame, and not empty
pub faultless-line : (s : List ℕ) → fault_of s ≡ None → (is_line line_bytes s ≡ true) × (0 < length s)
unfolding fault_of is_line
faultless-line s e =
    let r = rest_of 0 s (omega arith) e in
    (rw (le-leb (length s) (2 * line_bytes) (omega (arith, r.most)), eq-eqb (length s % 2) 0 (omega (arith, r.even))) r.digits, omega (arith, r.some))

pub line-faultless : (s : List ℕ) → is_line line_bytes s ≡ true → 0 < length s → fault_of s ≡ None
unfolding fault_of
line-faultless s e h =
    let l = line-is line_bytes s e in
    of-rest 0 s (record { digits = l.2; most = omega (arith, l.0); even = omega (arith, l.1); some = omega arith })

-- a line without fault is the line of its frame, of 1 to 261 bytes; the line of every such frame is without fault; any other line is taken as an empty frame

pub faultless-frame : (s : List ℕ) → fault_of s ≡ None → (0 < length (line_frame s)) × (line_of (line_frame s) ≡ s ++ (10 ∷ []))
unfolding line_of
faultless-frame s e =
    let (l, h) = faultless-line s e in
    let f = frame-line line_bytes s l in
    (omega (arith, ap length f, length-bytes s, (line-is line_bytes s l).1), ap (λ (x : List ℕ). digits_of x ++ (10 ∷ [])) f ∙ ap (λ (x : List ℕ). x ++ (10 ∷ [])) (digits-line line_bytes s l))

pub frame-faultless : (xs : List ℕ) → Bytes xs → 0 < length xs → length xs ≤ line_bytes → fault_of (digits_of xs) ≡ None
frame-faultless xs b h k = line-faultless (digits_of xs) (line-digits line_bytes xs b k) (omega (arith, length_digits xs))

pub fault-empty : (s : List ℕ) → (fault_of s ≡ None → ⊥) → line_frame s ≡ []
fault-empty s h =
    by_cases (is_line line_bytes s)
    (λ l. by_cases (eqb (length s) 0)
    (λ z. frame-line line_bytes s l ∙ bytes-short s (omega (arith, eqb-true (length s) 0 z)))
    (λ z. absurd (h (line-faultless s l (omega (arith, eqb-false (length s) 0 z))))))
    (λ l. frame-none line_bytes s l)

-- the first 523 bytes of a line have its fault
fault-within : (n k : ℕ) (s : List ℕ) → n + k ≡ most_digits → fault_after n (take (suc k) s) ≡ fault_after n s
fault-within n k [] e = refl
fault-within n zero (b ∷ s) e =
    by_cases (ltb (value_of b) 16)
    (λ d. after-long n b [] d (omega arith) ∙ sym (after-long n b s d (omega arith)))
    (λ d. after-strange n b [] d ∙ sym (after-strange n b s d))
fault-within n (suc k) (b ∷ s) e =
    by_cases (ltb (value_of b) 16)
    (λ d. after-digit n b (take (suc k) s) d (omega arith) ∙ fault-within (suc n) k s (omega arith) ∙ sym (after-digit n b s d (omega arith)))
    (λ d. after-strange n b (take (suc k) s) d ∙ sym (after-strange n b s d))

pub fault-kept : (s : List ℕ) → fault_of (take (most_digits + 1) s) ≡ fault_of s
unfolding fault_of
fault-kept s = fault-within 0 most_digits s refl

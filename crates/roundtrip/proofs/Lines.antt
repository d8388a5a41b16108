-- The lines of a text that is written line by line.
use Prim.Native.Nat.{ℕ, ◌/◌, ◌%◌, ◌≤◌}
use mathlib.Core.Path.{◌≡◌, ap, ◌∙◌}
use mathlib.Core.List.{List, [], ◌∷◌, ◌++◌, append-nil, append_assoc}
use native.Mathlib.Omega.{arith}
use lib.Dec.{ltb, eqb}
use borrow.Author.Tests.{ne_eqb}
use Rattle.rules.specs.Line.{digit_of, digits_of, line_of, lines_from, lines_of}
use Rattle.rules.proofs.Split.{bothc, pick-false}

-- a digit is no LF
digit-high : (n : ℕ) → 48 ≤ digit_of n
unfolding digit_of
digit-high n = bothc (λ (m : ℕ). 48 ≤ m) (ltb n 10) (λ _. omega arith) (λ _. omega arith)

digit-stays : (line t : List ℕ) (n : ℕ) → lines_from line (digit_of n ∷ t) ≡ lines_from (line ++ (digit_of n ∷ [])) t
unfolding lines_from
digit-stays line t n = pick-false (eqb (digit_of n) 10) _ _ (ne_eqb (digit_of n) 10 (λ e. omega (arith, digit-high n)))

digits-stay : (xs line t : List ℕ) → lines_from line (digits_of xs ++ t) ≡ lines_from (line ++ digits_of xs) t
unfolding digits_of
digits-stay [] line t = rw append-nil
digits-stay (x ∷ xs) line t =
    digit-stays line _ (x / 16)
    ∙ (digit-stays _ _ (x % 16) ∙ (digits-stay xs _ t ∙ ap (λ (l : List ℕ). lines_from l t) (simp append_assoc)))

-- the first line of a text is that of the bytes written first
pub lines-line : (xs t : List ℕ) → lines_of (line_of xs ++ t) ≡ record { whole = digits_of xs ∷ (lines_of t).whole; rest = (lines_of t).rest }
unfolding lines_of line_of lines_from
lines-line xs t = rw (append_assoc (digits_of xs) (10 ∷ []) t) (digits-stay xs [] (10 ∷ t))

-- Events, "a hexadecimal frame a line": upper-case digits, two a byte.
use Rattle.std.specs.Prelude.{Bool, true, false, cond, List, [], ◌∷◌, ◌++◌, ℕ, ◌+◌, ◌-◌, ◌*◌, ◌/◌, ◌%◌, ltb, leb, eqb, length}
use Rattle.rules.specs.Limits.{line_bytes}

-- the digit of a number below 16; `value_of` is the number of a digit, and 16 for any other byte
unfoldable pub digit_of : ℕ → ℕ
digit_of n = cond (ltb n 10) (48 + n) (55 + n)

unfoldable pub value_of : ℕ → ℕ
value_of b = cond (ltb b 48) 16 (cond (ltb b 58) (b - 48) (cond (ltb b 65) 16 (cond (ltb b 71) (b - 55) 16)))

unfoldable pub digits_of : List ℕ → List ℕ
digits_of [] = []
digits_of (x ∷ xs) = digit_of (x / 16) ∷ digit_of (x % 16) ∷ digits_of xs

unfoldable pub all_digits : List ℕ → Bool
all_digits [] = true
all_digits (b ∷ s) = cond (ltb (value_of b) 16) (all_digits s) false

-- the bytes that an even number of digits says
unfoldable pub bytes_of : List ℕ → List ℕ
bytes_of [] = []
bytes_of (a ∷ []) = []
bytes_of (a ∷ b ∷ s) = (value_of a * 16 + value_of b) ∷ bytes_of s

-- whether s is a line of at most n bytes
unfoldable pub is_line : ℕ → List ℕ → Bool
is_line n s = cond (leb (length s) (2 * n)) (cond (eqb (length s % 2) 0) (all_digits s) false) false

-- the frame that a line of at most n bytes says; any other line says an empty one
unfoldable pub frame_in : ℕ → List ℕ → List ℕ
frame_in n s = cond (is_line n s) (bytes_of s) []

-- "The event program takes any other line as an empty frame."
abbrev pub line_frame : List ℕ → List ℕ
line_frame s = frame_in line_bytes s

-- "each ended by LF"
unfoldable pub line_of : List ℕ → List ℕ
line_of xs = digits_of xs ++ (10 ∷ [])

-- the lines of a text, and the rest after its last LF
pub record Lines : Type 0 where
  pub whole : List (List ℕ)
  pub rest : List ℕ

unfoldable pub lines_from : List ℕ → List ℕ → Lines
lines_from line [] = record { whole = []; rest = line }
lines_from line (x ∷ t) =
    elim (eqb x 10) [
      | true ↦ let l : Lines = lines_from [] t in record { whole = line ∷ l.whole; rest = l.rest }
      | false ↦ lines_from (line ++ (x ∷ [])) t
    ]

unfoldable pub lines_of : List ℕ → Lines
lines_of t = lines_from [] t

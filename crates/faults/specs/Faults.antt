-- Why a line is no frame. The line is read from its first byte, and the first byte that shows it decides.
use Rattle.std.specs.Prelude.{ℕ, suc, ◌*◌, ◌%◌, cond, List, [], ◌∷◌, Option, Some, None, ltb, eqb}
use Rattle.rules.specs.Limits.{line_bytes}
use Rattle.rules.specs.Line.{value_of}
use Rattle.faults.specs.declared.reading.Fault.{Fault}
use Rattle.faults.specs.declared.reading.Fault.TheVariants.{Blank, Lower, Return, Strange, Long, Odd}

-- the most digits of a frame's line
abbrev pub most_digits : ℕ
most_digits = 2 * line_bytes

-- the fault of a line whose first byte that is no upper-case digit is b: 13 is a carriage return, and 97 to 102 are the digits a to f
unfoldable pub strange : ℕ → Fault
strange b = cond (eqb b 13) Return (cond (ltb b 97) Strange (cond (ltb b 103) Lower Strange))

-- the fault of a line that is n digits and nothing else, n at most `most_digits`
unfoldable pub digits_alone : ℕ → Option Fault
digits_alone n = cond (eqb n 0) (Some Blank) (cond (eqb (n % 2) 0) None (Some Odd))

-- the fault of a line that begins with n digits, from the bytes after them
unfoldable pub fault_after : ℕ → List ℕ → Option Fault
fault_after n [] = digits_alone n
fault_after n (b ∷ s) = cond (ltb (value_of b) 16) (cond (ltb n most_digits) (fault_after (suc n) s) (Some Long)) (Some (strange b))

unfoldable pub fault_of : List ℕ → Option Fault
fault_of line = fault_after 0 line

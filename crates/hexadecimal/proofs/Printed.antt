-- What is printed: a line after what the output holds.
use Prim.Native.Nat.{ℕ, ◌+◌, ◌*◌, ◌-◌, ◌≤◌}
use mathlib.Core.Path.{◌≡◌}
use mathlib.Core.List.{List, [], ◌∷◌, ◌++◌}
use native.Mathlib.Omega.{arith}
use lib.ListN.{length, set, take, drop}
use lib.Seq.{sets}
use Rattle.words.proofs.Runs.{sets-at, sets-part}
use Rattle.rules.specs.Line.{digits_of, line_of}
use Rattle.hexadecimal.proofs.Trip.{length_digits}

-- the digits and LF; `back` is the part of the output that was lent on
pub line-printed : (bytes out back : List ℕ) (used r : ℕ) → r ≡ 2 * length bytes → used + (2 * length bytes + 1) ≤ length out
    → back ≡ sets (take (length out - used) (drop used out)) 0 (digits_of bytes)
    → set (take used out ++ (back ++ drop (length out - used) (drop used out))) (used + r) 10 ≡ sets out used (line_of bytes)
unfolding line_of
line-printed bytes out back used r e h q =
    let l = length_digits bytes in
    rw (q, sets-part (digits_of bytes) out used (length out - used) (omega arith) (omega arith))
    (sets-at (digits_of bytes) (10 ∷ []) out used (used + r) (omega arith))

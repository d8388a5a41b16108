-- The lines of a text, the first one taken off.
use Prim.Native.Nat.{ℕ, suc, ◌≤◌, ◌<◌}
use mathlib.Core.Bool.{true, false}
use mathlib.Core.List.{List, [], ◌∷◌, ◌++◌, append_assoc, append-nil}
use mathlib.Core.Path.{◌≡◌, ap, ◌∙◌}
use native.Mathlib.Omega.{arith}
use lib.Dec.{eqb}
use lib.ListN.{length, take, drop}
use Rattle.rules.specs.Line.{Lines, lines_from, lines_of}
use Rattle.rules.proofs.Split.{by_cases, pick_true, pick-false}
use Rattle.reader.specs.Frames.{line_length}
use Rattle.reader.proofs.Frames.{length-lf, length-on}

-- a line before the others
abbrev pub onto : List ℕ → Lines → Lines
onto line l = record { whole = line ∷ l.whole; rest = l.rest }

pub from-lf : (line : List ℕ) (x : ℕ) (t : List ℕ) → eqb x 10 ≡ true → lines_from line (x ∷ t) ≡ onto line (lines_from [] t)
unfolding lines_from
from-lf line x t e = pick_true (eqb x 10) (onto line (lines_from [] t)) (lines_from (line ++ (x ∷ [])) t) e

pub from_on : (line : List ℕ) (x : ℕ) (t : List ℕ) → eqb x 10 ≡ false → lines_from line (x ∷ t) ≡ lines_from (line ++ (x ∷ [])) t
unfolding lines_from
from_on line x t e = pick-false (eqb x 10) (onto line (lines_from [] t)) (lines_from (line ++ (x ∷ [])) t) e

from-line : (u line : List ℕ) → line_length u < length u → lines_from line u ≡ onto (line ++ take (line_length u) u) (lines_from [] (drop (suc (line_length u)) u))
from-line [] line h = absurd (omega arith)
from-line (x ∷ u) line h =
    by_cases (eqb x 10)
    (λ e. rw (length-lf x u e, append-nil line) (from-lf line x u e))
    (λ e. rw (length-on x u e) (from_on line x u e ∙ from-line u (line ++ (x ∷ [])) (omega (arith, length-on x u e)) ∙ ap (λ (l : List ℕ). onto l (lines_from [] (drop (suc (line_length u)) u))) (append_assoc line (x ∷ []) (take (line_length u) u))))

from-none : (u line : List ℕ) → length u ≤ line_length u → lines_from line u ≡ record { whole = []; rest = line ++ u }
unfolding lines_from
from-none [] line h = rw (append-nil line)
from-none (x ∷ u) line h =
    by_cases (eqb x 10)
    (λ e. absurd (omega (arith, length-lf x u e)))
    (λ e. from_on line x u e ∙ from-none u (line ++ (x ∷ [])) (omega (arith, length-on x u e)) ∙ ap (λ (l : List ℕ). record { whole = []; rest = l }) (append_assoc line (x ∷ []) u))

-- LF ends the first line
pub lines-line : (u : List ℕ) → line_length u < length u → lines_of u ≡ onto (take (line_length u) u) (lines_of (drop (suc (line_length u)) u))
unfolding lines_of
lines-line u h = from-line u [] h

-- there is no LF
pub lines_none : (u : List ℕ) → length u ≤ line_length u → lines_of u ≡ record { whole = []; rest = u }
unfolding lines_of
lines_none u h = from-none u [] h

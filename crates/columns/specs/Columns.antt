-- A text of lines of at most 80 columns, each ended by LF.
use Rattle.std.specs.Prelude.{ℕ, suc, Bool, false, cond, List, [], ◌∷◌, ltb, eqb}

abbrev pub most_columns : ℕ
most_columns = 80

-- whether the text is narrow, if n columns of a line come before it
unfoldable pub narrow : ℕ → List ℕ → Bool
narrow n [] = eqb n 0
narrow n (x ∷ t) = cond (eqb x 10) (narrow 0 t) (cond (ltb n most_columns) (narrow (suc n) t) false)

-- How often a number occurs in a list. That a number occurs exactly once is a count: disjoint, without doubles and complete are then sums.
use Rattle.std.specs.Prelude.{Bool, cond, List, [], ◌∷◌, ℕ, ◌+◌, eqb}

abbrev pub bit : Bool → ℕ
bit t = cond t 1 0

unfoldable pub count : ℕ → List ℕ → ℕ
count x [] = 0
count x (y ∷ l) = bit (eqb y x) + count x l

-- how often a number occurs in all the lists
unfoldable pub total : ℕ → List (List ℕ) → ℕ
total x [] = 0
total x (l ∷ ls) = count x l + total x ls

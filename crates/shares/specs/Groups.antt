-- The records that were put into the held blocks, a group for each block.
use Rattle.std.specs.Prelude.{ℕ, ◌≤◌, ◌<◌, true, false, ◌≡◌, List, [], ◌∷◌, ◌++◌, ltb, length}
use Rattle.rules.specs.State.{Rec}
use Rattle.rules.specs.Store.{record_words}

unfoldable pub All : (Rec → Type 0) → List Rec → Type 0
All P [] = Unit {0}
All P (r ∷ rs) = P r × All P rs

-- each record has at most m words
abbrev pub Small : ℕ → List Rec → Type 0
Small m rs = All (λ (r : Rec). record_words r ≤ m) rs

unfoldable pub flat : List (List Rec) → List Rec
flat [] = []
flat (q ∷ qs) = q ++ flat qs

-- no group is empty, none has more than b records, and only the last may have fewer
unfoldable pub Shape : ℕ → List (List Rec) → Type 0
Shape b [] = Unit {0}
Shape b (q ∷ qs) = (1 ≤ length q) × (length q ≤ b) × (length q < b → qs ≡ []) × Shape b qs

-- the first group has a record after those that are spent
unfoldable pub Begun : ℕ → List (List Rec) → Type 0
Begun spent [] = spent ≡ 0
Begun spent (q ∷ qs) = spent < length q

-- the groups with one record more
unfoldable pub add_to : ℕ → List (List Rec) → Rec → List (List Rec)
add_to b [] r = (r ∷ []) ∷ []
add_to b (q ∷ qs) r = elim (ltb (length q) b) [ true ↦ (q ++ (r ∷ [])) ∷ qs | false ↦ q ∷ add_to b qs r ]

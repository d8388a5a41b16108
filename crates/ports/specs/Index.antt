-- Lists of anything, by index.
use Rattle.std.specs.Prelude.{ℕ, suc, Bool, cond, List, [], ◌∷◌, ◌++◌, take, drop}

-- the list without its element i; `put_in`: with x put in as its element i
unfoldable pub cut : {A : Type 0} → ℕ → List A → List A
cut i xs = take i xs ++ drop (suc i) xs

unfoldable pub put_in : {A : Type 0} → ℕ → A → List A → List A
put_in i x xs = take i xs ++ x ∷ drop i xs

-- the index of the first element that passes the test; the length, if none does
unfoldable pub index : {A : Type 0} → (A → Bool) → List A → ℕ
index t [] = 0
index t (x ∷ xs) = cond (t x) 0 (suc (index t xs))

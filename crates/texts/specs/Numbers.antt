-- Numbers in decimal digits, and with a noun.
use Rattle.std.specs.Prelude.{ℕ, ◌+◌, ◌-◌, ◌*◌, ◌/◌, ◌%◌, cond, List, [], ◌∷◌, ◌++◌, ltb, eqb, drop}

-- the most digits of a word
abbrev pub most_digits : ℕ
most_digits = 5

unfoldable pub five_digits : ℕ → List ℕ
five_digits n = (48 + n / 10000 % 10) ∷ (48 + n / 1000 % 10) ∷ (48 + n / 100 % 10) ∷ (48 + n / 10 % 10) ∷ (48 + n % 10) ∷ []

-- how many of a number's five digits are leading zeros
unfoldable pub leading : ℕ → ℕ
leading n = cond (ltb n 10) 4 (cond (ltb n 100) 3 (cond (ltb n 1000) 2 (cond (ltb n 10000) 1 0)))

unfoldable pub decimal : ℕ → List ℕ
decimal n = drop (leading n) (five_digits n)

-- the number that digits say, after digits that say n
unfoldable pub said : ℕ → List ℕ → ℕ
said n [] = n
said n (d ∷ t) = said (10 * n + (d - 48)) t

-- the digit of a number below 10
unfoldable pub one_digit : ℕ → List ℕ
one_digit n = (48 + n) ∷ []

-- `1 record`, `2 records`: the noun has an s unless there is one
unfoldable pub ending : ℕ → List ℕ
ending n = cond (eqb n 1) [] (115 ∷ [])

unfoldable pub counted : ℕ → List ℕ → List ℕ
counted n noun = decimal n ++ (noun ++ ending n)

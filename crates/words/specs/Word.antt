-- Words of 16 bits in lists of bytes: "Words are stored high byte first."
use Rattle.std.specs.Prelude.{ℕ, zero, suc, ◌+◌, ◌*◌, ◌/◌, ◌%◌, ◌<◌, Bool, true, false, List, [], ◌∷◌, eqb, get_or, take, drop, replicate}

-- the two bytes of a word
abbrev pub word : ℕ → List ℕ
word w = w / 256 ∷ w % 256 ∷ []

-- the word whose high byte lies at `at`
abbrev pub word_at : List ℕ → ℕ → ℕ
word_at xs at = get_or xs at 0 * 256 + get_or xs (at + 1) 0

-- n zero bytes
unfoldable pub zeros : ℕ → List ℕ
zeros n = replicate n 0

-- whether n bytes starting at p are zero
unfoldable pub quiet : List ℕ → ℕ → ℕ → Bool
quiet xs p zero = true
quiet xs p (suc n) = elim (eqb (get_or xs p 0) 0) [ true ↦ quiet xs (suc p) n | false ↦ false ]

-- the i-th of the parts, k bytes each, that a memory consists of
abbrev pub part : ℕ → ℕ → List ℕ → List ℕ
part k i xs = take k (drop (k * i) xs)

-- each element is a byte
unfoldable pub Bytes : List ℕ → Type 0
Bytes xs = (i : ℕ) → get_or xs i 0 < 256

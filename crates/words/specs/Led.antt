-- A word below 256 among zero bytes.
use Rattle.std.specs.Prelude.{ℕ, ◌+◌, ◌≡◌, true, List, get_or}
use Rattle.words.specs.Word.{quiet}

-- the word n, below 256, lies at p, and the m bytes after it are zero
unfoldable pub Led : List ℕ → ℕ → ℕ → ℕ → Type 0
Led xs p n m = (get_or xs p 0 ≡ 0) × (get_or xs (p + 1) 0 ≡ n) × (quiet xs (p + 2) m ≡ true)

-- the k bytes at p are zero, then comes the word n, below 256, and the m bytes after it are zero
unfoldable pub Lone : List ℕ → ℕ → ℕ → ℕ → ℕ → Type 0
Lone xs p k n m = (quiet xs p k ≡ true) × Led xs (p + k) n m

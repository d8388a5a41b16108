-- A file's queues are never both non-empty.
use Rattle.std.specs.Prelude.{◌≡◌, List, [], ◌∷◌, ℕ}
use Rattle.rules.specs.State.{Built}

-- no writer waits where a reader waits
abbrev pub Apart : Built → Type 0
Apart b = (p : ℕ) (l : List ℕ) → b.rq ≡ p ∷ l → b.wq ≡ []

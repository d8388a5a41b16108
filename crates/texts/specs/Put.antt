-- A text put into lent memory.
use Rattle.std.specs.Prelude.{ℕ, ◌+◌, ◌≤◌, ◌≡◌, List, length}
use Rattle.std.proofs.lemmas.List.Edits.{sets}

-- the text, of at most `most` bytes, lies in `out`, which was `before`, from place `at` to place `end`
pub record Put (most : ℕ) (before : List ℕ) (at : ℕ) (text out : List ℕ) (end : ℕ) : Type 0 where
  pub bytes : out ≡ sets before at text
  pub size : end ≡ at + length text
  pub low : end ≤ at + most
  pub long : length out ≡ length before

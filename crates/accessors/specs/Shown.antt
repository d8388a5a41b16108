-- What the rows of a segment show of file f.
use Rattle.std.specs.Prelude.{ℕ, ◌<◌, ◌≡◌, List, length}
use Rattle.rules.specs.Limits.{places}
use Rattle.rules.specs.State.{Built, built}
use Rattle.rules.specs.Requests.{acc_at}
use Rattle.rules.specs.Allocation.{place_of}
use Rattle.segment.specs.Layout.{file_width, place_width, file_row_at, place_row_at}
use Rattle.segment.specs.Table.{row}
use Rattle.memory.specs.Image.{file_words, place_words}

-- the rows of file f and of its eight places are those of b
pub record Shown (xs : List ℕ) (f : ℕ) (b : Built) : Type 0 where
  pub file : row xs (file_row_at f) file_width ≡ file_words (built b)
  pub rows : (p : ℕ) → p < places → row xs (place_row_at (place_of f p)) place_width ≡ place_words (acc_at b p)
  pub eight : length b.accs ≡ places

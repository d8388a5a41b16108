-- The file in hand: its row's numbers by value.
use Rattle.std.specs.Prelude.{◌≡◌, List, [], ◌∷◌, ℕ}
use Rattle.segment.specs.declared.FileRow.{FileRow}
use Rattle.segment.specs.Layout.{file_row_at, file_width}
use Rattle.segment.specs.Table.{row}
use Rattle.ring.specs.Ring.{ring_of}
use Rattle.rules.specs.State.{Built}
use Rattle.midst.specs.declared.File.{File}

abbrev pub file_of_row : FileRow → File
file_of_row r =
    record {
      words = r.words;
      ring = record { factor = r.factor; blocks = r.blocks; block = r.block; spent = r.spent; held = r.held };
    }

unfoldable pub file_row_words : File → List ℕ
file_row_words x = x.words ∷ x.ring.factor ∷ x.ring.blocks ∷ x.ring.block ∷ x.ring.spent ∷ x.ring.held ∷ 0 ∷ 0 ∷ []

-- a file of the rules in hand
abbrev pub in_hand : Built → File
in_hand b = record { words = b.geo.words; ring = ring_of b.geo b.store }

-- the row of file f holds x, except for its ring's block, spent and held
pub record RowStands (xs : List ℕ) (f : ℕ) (x : File) : Type 0 where
  pub file : File
  pub row : row xs (file_row_at f) file_width ≡ file_row_words file
  pub words : file.words ≡ x.words
  pub factor : file.ring.factor ≡ x.ring.factor
  pub blocks : file.ring.blocks ≡ x.ring.blocks

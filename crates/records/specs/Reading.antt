-- Records read back from a share.
use Rattle.std.specs.Prelude.{ℕ, ◌+◌, ◌≤◌, List, length}
use Rattle.words.specs.Word.{word_at}
use Rattle.rules.specs.State.{Rec}
use Rattle.records.specs.declared.reading.Record.{Record}

-- the record at p can be read: its first word counts 4 bytes or more, which all lie in xs
pub record Readable (xs : List ℕ) (p : ℕ) : Type 0 where
  pub low : 4 ≤ word_at xs p
  pub inside : p + 2 + word_at xs p ≤ length xs

abbrev pub header_of : Rec → Record
header_of r = record { typ = r.typ; wid = r.wid; size = length r.body }

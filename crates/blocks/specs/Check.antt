-- The test of a block, at its bytes in the share.
use Rattle.std.specs.Prelude.{ℕ, ◌+◌, ◌*◌, ◌/◌, ◌%◌, Bool, List}
use Rattle.words.specs.Word.{word_at}
use Rattle.shares.specs.Laid.{walk}
use Rattle.ring.specs.declared.layout.Span.{Span}

unfoldable pub laid_at : ℕ → List ℕ → Span → Bool
laid_at words xs b = walk words xs (b.at + b.size) (b.at + 2 * word_at xs (b.at + 2)) (b.at + 4) (word_at xs b.at)

-- a word with its bytes in the other order
abbrev pub turned : ℕ → ℕ
turned w = w / 256 + w % 256 * 256

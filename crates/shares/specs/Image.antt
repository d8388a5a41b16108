-- The bytes of a block that holds records.
use Rattle.std.specs.Prelude.{ℕ, ◌+◌, List, [], ◌∷◌, ◌++◌, length}
use Rattle.words.specs.Word.{word}
use Rattle.rules.specs.State.{Rec}
use Rattle.rules.specs.Store.{record_bytes, record_words}

-- the bytes of records, one right after another
unfoldable pub bytes_of : List Rec → List ℕ
bytes_of [] = []
bytes_of (r ∷ rs) = record_bytes r ++ bytes_of rs

unfoldable pub words_of : List Rec → ℕ
words_of [] = 0
words_of (r ∷ rs) = record_words r + words_of rs

-- a block with the records rs, up to the last of them: "word 0 records put, word 1 words used with these two", and the records. No call reads the bytes of the block after these.
unfoldable pub image : List Rec → List ℕ
image rs = word (length rs) ++ (word (2 + words_of rs) ++ bytes_of rs)

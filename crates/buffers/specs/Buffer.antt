-- How many record buffers there are, how many bytes they have, and one of them emptied.
use Rattle.std.specs.Prelude.{ℕ, ◌*◌, List}
use Rattle.std.proofs.lemmas.List.Edits.{sets}
use Rattle.words.specs.Word.{zeros}
use Rattle.rules.specs.Limits.{files, places, buffer_bytes}

-- "one an accessor place"
abbrev pub buffer_count : ℕ
buffer_count = files * places

abbrev pub buffers_bytes : ℕ
buffers_bytes = buffer_bytes * buffer_count

-- the record buffers after that of place i is emptied
abbrev pub emptied : ℕ → List ℕ → List ℕ
emptied i ys = sets ys (buffer_bytes * i) (zeros buffer_bytes)

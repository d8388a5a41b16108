-- Words of the segment by their number, and runs of them.
use Rattle.std.specs.Prelude.{ℕ, zero, suc, ◌*◌, List, [], ◌∷◌}
use Rattle.std.proofs.lemmas.List.Edits.{sets}
use Rattle.words.specs.Word.{word, word_at}
use Rattle.segment.specs.Layout.{data_at, data_words}

-- word k; `put_nth`: the segment with v as its word k
unfoldable pub nth : List ℕ → ℕ → ℕ
nth s k = word_at s (2 * k)

unfoldable pub put_nth : List ℕ → ℕ → ℕ → List ℕ
put_nth s k v = sets s (2 * k) (word v)

-- the n words starting at word k; `fill`: the segment with vs written there
unfoldable pub row : List ℕ → ℕ → ℕ → List ℕ
row s k zero = []
row s k (suc n) = nth s k ∷ row s (suc k) n

unfoldable pub fill : List ℕ → ℕ → List ℕ → List ℕ
fill s k [] = s
fill s k (v ∷ vs) = fill (put_nth s k v) (suc k) vs

-- the data of entry e; `put_data`: the segment with m as its data
unfoldable pub data_of : List ℕ → ℕ → List ℕ
data_of s e = row s (data_at e) data_words

unfoldable pub put_data : List ℕ → ℕ → List ℕ → List ℕ
put_data s e m = fill s (data_at e) m

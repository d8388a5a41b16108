-- What a sheet's frames say, one after another.
use Rattle.std.specs.Prelude.{ℕ, zero, suc, ◌+◌, ◌*◌, Bool, true, false, cond, ◌&&◌, List, [], ◌∷◌, leb, eqb, length, get_or, Option, Some, None}
use Rattle.std.proofs.Math.Option as maths
use Rattle.std.proofs.Math.Option.{none, some}
use Rattle.words.specs.Word.{word_at}
use Rattle.rules.specs.Limits.{most_words, most_factor, least_capacity}
use Rattle.rules.specs.Geometry.{capacity, within, fits_share}
use Rattle.rules.specs.State.{Rec}
use Rattle.rules.specs.Sheet.{good_head, good_rec, rec_of}
use Rattle.reader.specs.declared.Head.{Head}
use Rattle.reader.specs.Frames.{frame_at, next_at}

-- "R and B in range, C ≥ 3, D × block size ≤ 2,048, records ≤ C"
unfoldable pub good_numbers : ℕ → ℕ → ℕ → ℕ → Bool
good_numbers r b d n = within 1 most_words r && within 1 most_factor b && leb least_capacity (capacity b d) && fits_share r b d && leb n (capacity b d)

-- what a frame says as the first of a sheet, with the cursor after it
unfoldable pub says_head : List ℕ → ℕ → Option Head
says_head h at =
    elim (good_head h (word_at h 6)) [
      | true ↦ Some (record { words = word_at h 1; factor = get_or h 3 0; blocks = word_at h 4; held = word_at h 6; at = at })
      | false ↦ None
    ]

unfoldable pub head_of : List ℕ → Option Head
head_of t = says_head (frame_at t 0) (next_at t 0)

-- "data of at most 2R bytes, none in open and close records"
unfoldable pub most_size : ℕ → ℕ → ℕ
most_size r typ = cond (eqb typ 0) (4 + 2 * r) 4

-- the n records starting at a cursor
unfoldable pub recs_from : List ℕ → ℕ → ℕ → List Rec
recs_from t at zero = []
recs_from t at (suc n) = rec_of (frame_at t at) ∷ recs_from t (next_at t at) n

-- whether the n records starting at a cursor are good, and the text ends after the last
unfoldable pub good_from : ℕ → List ℕ → ℕ → ℕ → Bool
good_from r t at zero = eqb at (length t)
good_from r t at (suc n) = elim (good_rec r (frame_at t at)) [ true ↦ good_from r t (next_at t at) n | false ↦ false ]

unfoldable pub is_some : {A : Type 0} → maths.Option A → Bool
is_some none = false
is_some (some x) = true

-- Frame after frame of a text, starting at a cursor.
use Rattle.std.specs.Prelude.{ℕ, suc, ◌+◌, ◌-◌, true, false, List, [], ◌∷◌, ltb, eqb, length, take, drop}
use Rattle.words.specs.Word.{word_at}
use Rattle.rules.specs.State.{Rec}
use Rattle.rules.specs.Limits.{sheet_line_bytes}
use Rattle.rules.specs.Line.{frame_in}

-- the number of bytes before a text's first LF; of all its bytes, if it has none
unfoldable pub line_length : List ℕ → ℕ
line_length [] = 0
line_length (x ∷ t) = elim (eqb x 10) [ true ↦ 0 | false ↦ suc (line_length t) ]

-- the frame of the text's first line, which LF has to end
unfoldable pub first_frame : List ℕ → List ℕ
first_frame t = elim (ltb (line_length t) (length t)) [ true ↦ frame_in sheet_line_bytes (take (line_length t) t) | false ↦ [] ]

-- the number of bytes of the text's first line and its LF
unfoldable pub line_span : List ℕ → ℕ
line_span t = elim (ltb (line_length t) (length t)) [ true ↦ suc (line_length t) | false ↦ line_length t ]

-- the frame of the line that starts at a cursor, and the cursor after it
unfoldable pub frame_at : List ℕ → ℕ → List ℕ
frame_at t at = first_frame (drop at t)

unfoldable pub next_at : List ℕ → ℕ → ℕ
next_at t at = at + line_span (drop at t)

-- the record in the first bytes of a memory
abbrev pub rec_in : List ℕ → ℕ → Rec
rec_in frame size = record { typ = word_at frame 0; wid = word_at frame 2; body = take (size - 4) (drop 4 frame) }

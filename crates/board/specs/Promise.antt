-- What the board promises of any three memories and any output.
use Rattle.std.specs.Prelude.{ℕ, ◌≡◌, true, false, List, ltb, length}
use Rattle.std.proofs.Math.Option.{Option, none, some}
use Rattle.std.proofs.lemmas.List.Edits.{sets}
use Rattle.rules.specs.Desk.{Desk}
use Rattle.memory.specs.Memories.{Memories}
use Rattle.promises.specs.Promise.{Given, written, Standing, Seen}
use Rattle.texts.specs.Put.{Put}
use Rattle.board.specs.Board.{files_room, board_room, or_nothing, whole_text}

-- status 44, with nothing written, if the output is shorter than `board_room`; else the board's text from the first byte of the output, whose rest stays
unfoldable pub shown_on : Desk → Memories → List ℕ → Given
shown_on d m out = elim (ltb (length out) board_room) [ true ↦ written 44 0 out | false ↦ written 0 (length (whole_text d m)) (sets out 0 (whole_text d m)) ]

-- status 29, with nothing written, if the memories are seen as no desk
unfoldable pub shown_of : Option Standing → Memories → List ℕ → Given
shown_of none m out = written 29 0 out
shown_of (some v) m out = shown_on v.desk m out

-- the promise of the board, whatever the memories are seen as
abbrev pub Board : Memories → List ℕ → Given → Type 0
Board m out g = (v : Option Standing) → Seen m v → g ≡ shown_of v m out

-- the end of the files' lines: the text put so far stays, or a line says that no file is built, if that text is empty
unfoldable pub Ends : List ℕ → ℕ → List ℕ → ℕ → Type 0
Ends before at out end = (t before₀ : List ℕ) → Put files_room before₀ 0 t before at → Put files_room before₀ 0 (or_nothing t) out end

-- The event program's lines, and the limits of a frame's length.
use mathlib.Core.Path.{◌≡◌, refl}
use mathlib.Core.List.{[], ◌∷◌}
use Rattle.words.specs.Word.{zeros}
use Rattle.kinds.specs.declared.Answer.TheVariants.{Status}
use Rattle.rules.specs.Line.{digits_of, line_frame}
use Rattle.rules.specs.Reply.{answers}
use Rattle.rules.specs.Desk.{event, respond, program}
use Rattle.rules.proofs.All.{All}
use Rattle.rules.proofs.Vocabulary.{text, builds, opens, built, opened}
use Rattle.rules.proofs.Script.{lines, ◌⇒◌, played, Plays}

-- "lines ended by LF (the last may lack it)": no line follows the last LF, and an empty line is an empty frame
pub last_line : (program (text "0900\n08") ≡ lines ("091F" ∷ "001E" ∷ []))
    × (program (text "0900\n\n") ≡ lines ("091F" ∷ "001E" ∷ []))
    × (program (text "\n080001") ≡ lines ("001E" ∷ "0800" ∷ []))
    × (program [] ≡ [])
unfolding All Plays
last_line = (refl, refl, refl, refl)

-- "any other line": a carriage return, a space, two frames on a line
pub other-lines : program (text "080001\r\n080001 \n 080001\n080001,080001\n080001\n") ≡ lines ("001E" ∷ "001E" ∷ "001E" ∷ "001E" ∷ "0800" ∷ [])
unfolding All Plays
other-lines = refl

-- "at most 261 bytes"
pub longest-line : (line_frame (digits_of (zeros 261)) ≡ zeros 261) × (line_frame (digits_of (zeros 262)) ≡ [])
unfolding All
longest-line = (refl, refl)

-- the event call takes a frame of any length by its shape: −32768 is 32,768 bytes, above 2R (35)
pub largest-count : (respond (played (builds 0 4 1 1 1 ⇒ built 3 ∷ opens 0 3 1 0 ⇒ opened 0 1 ∷ [])) (event (4 ∷ 0 ∷ 0 ∷ 128 ∷ 0 ∷ zeros 32768))).reply ≡ answers (Status 4 35) []
unfolding All Plays
largest-count = refl

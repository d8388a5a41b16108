-- The worked session of document 01, and the sheet after its third line.
use mathlib.Core.Path.{◌≡◌, refl}
use mathlib.Core.List.{[], ◌∷◌}
use Rattle.rules.specs.Desk.{program}
use Rattle.rules.proofs.All.{All}
use Rattle.rules.proofs.Vocabulary.{line, prints}
use Rattle.rules.proofs.Script.{lines, ◌⇒◌, saves, AsWritten, Plays}

-- the event program, given on standard input .. prints ..
pub worked : program (lines (
    "0100000401000101"
    ∷ "0200030100"
    ∷ "040000000241424344"
    ∷ "040000FFFD454647"
    ∷ "0200000100"
    ∷ "040000FFFD454647"
    ∷ "0300010004"
    ∷ "030001FFF8"
    ∷ "060000"
    ∷ "070000"
    ∷ "0300010004"
    ∷ "0300"
    ∷ [])) ≡ lines (
    "01000003"
    ∷ "0200000001"
    ∷ "04000002"
    ∷ "0402"
    ∷ "0200010000"
    ∷ "0401"
    ∷ "0300000241424344"
    ∷ "03000003454647"
    ∷ "06000003"
    ∷ "0700"
    ∷ "0302"
    ∷ "001E"
    ∷ [])
unfolding All Plays
worked = refl

-- "After the third line the sheet is"
pub sheet-after-third : AsWritten (
    line "0100000401000101" ⇒ prints "01000003"
    ∷ line "0200030100" ⇒ prints "0200000001"
    ∷ line "040000000241424344" ⇒ prints "04000002"
    ∷ saves 0 43 0 ("0100040100030002" ∷ "00010001" ∷ "0000000141424344" ∷ [])
    ∷ [])
unfolding All Plays
sheet-after-third = refl

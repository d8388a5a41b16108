-- Save and load.
use mathlib.Core.Path.{refl}
use mathlib.Core.List.{[], ◌∷◌}
use Rattle.rules.proofs.All.{All}
use Rattle.rules.proofs.Vocabulary.{builds, opens, reads, writes, closes, counts, built, opened, got, wrote, counted, done, refused}
use Rattle.rules.proofs.Script.{◌⇒◌, saves, loads, AsWritten, Plays}

-- exactly enough output is enough; one byte short: 44; not built: 31; load of a built file: 31
pub save-and-its-room : AsWritten (
    builds 0 4 1 1 1 ⇒ built 3
    ∷ opens 0 3 1 0 ⇒ opened 0 1
    ∷ writes 0 0 2 "41424344" ⇒ wrote 2
    ∷ saves 0 43 0 ("0100040100030002" ∷ "00010001" ∷ "0000000141424344" ∷ [])
    ∷ saves 0 42 44 []
    ∷ saves 1 100 31 []
    ∷ saves 8 100 31 []
    ∷ loads 0 ("0100040100030002" ∷ "00010001" ∷ "0000000141424344" ∷ []) "" 31
    ∷ loads 8 ("0100040100030002" ∷ "00010001" ∷ "0000000141424344" ∷ []) "" 31
    ∷ counts 0 ⇒ counted 1 2 1 0
    ∷ [])
unfolding All Plays
save-and-its-room = refl

-- loaded with no accessor; saving gives the same sheet; the records are read in their order
pub load-and-its-sheet : AsWritten (
    loads 3 ("0100040100030002" ∷ "00010001" ∷ "0000000141424344" ∷ []) "" 0
    ∷ saves 3 43 0 ("0100040100030002" ∷ "00010001" ∷ "0000000141424344" ∷ [])
    ∷ counts 3 ⇒ counted 1 2 0 0
    ∷ opens 3 0 1 0 ⇒ opened 0 0
    ∷ reads 3 0 4 ⇒ got 2 "41424344"
    ∷ counts 3 ⇒ counted 0 0 0 1
    ∷ [])
unfolding All Plays
load-and-its-sheet = refl

-- used = records held: a loaded file may be full, and then takes a writer only after a purge
pub loaded-full : AsWritten (
    loads 0 ("0100040100030003" ∷ "00010001" ∷ "0000000141424344" ∷ "00020001" ∷ []) "" 0
    ∷ opens 0 3 1 0 ⇒ refused 42
    ∷ opens 0 0 1 0 ⇒ opened 0 0
    ∷ opens 0 3 1 0 ⇒ refused 42
    ∷ closes 0 0 ⇒ done
    ∷ opens 0 1 1 0 ⇒ opened 0 1
    ∷ counts 0 ⇒ counted 0 1 1 0
    ∷ [])
unfolding All Plays
loaded-full = refl

-- each number out of its range, a frame too many or too few, a line that is invalid, text after the last LF: 43, and nothing is built
pub not-a-sheet : AsWritten (
    loads 0 [] "" 43
    ∷ loads 0 [] "0100040100030000" 43
    ∷ loads 0 ("0100040100030000" ∷ []) "00" 43
    ∷ loads 0 ("0200040100030000" ∷ []) "" 43
    ∷ loads 0 ("010004010003000000" ∷ []) "" 43
    ∷ loads 0 ("01000401000300" ∷ []) "" 43
    ∷ loads 0 ("0100000100030000" ∷ []) "" 43
    ∷ loads 0 ("0100810100030000" ∷ []) "" 43
    ∷ loads 0 ("0100040000030000" ∷ []) "" 43
    ∷ loads 0 ("0100041100030000" ∷ []) "" 43
    ∷ loads 0 ("0100040100020000" ∷ []) "" 43
    ∷ loads 0 ("0100800100100000" ∷ []) "" 43
    ∷ loads 0 ("0100040100030001" ∷ []) "" 43
    ∷ loads 0 ("0100040100030000" ∷ "00010001" ∷ []) "" 43
    ∷ loads 0 ("0100040100030004" ∷ "00010001" ∷ "00010001" ∷ "00010001" ∷ "00010001" ∷ []) "" 43
    ∷ loads 0 ("0100040100030001" ∷ "00030001" ∷ []) "" 43
    ∷ loads 0 ("0100040100030001" ∷ "00010000" ∷ []) "" 43
    ∷ loads 0 ("0100040100030001" ∷ "0001000141" ∷ []) "" 43
    ∷ loads 0 ("0100040100030001" ∷ "00000001414243444546474849" ∷ []) "" 43
    ∷ loads 0 ("0100040100030001" ∷ "000000" ∷ []) "" 43
    ∷ loads 0 ("0100040100030001" ∷ "0000000141a2" ∷ []) "" 43
    ∷ loads 0 ("0100040100030001" ∷ "000000014" ∷ []) "" 43
    ∷ loads 0 ("0100040100030000" ∷ "-" ∷ []) "" 43
    ∷ counts 0 ⇒ refused 31
    ∷ loads 0 ("0100040100030001" ∷ "00020001" ∷ []) "" 0
    ∷ [])
unfolding All Plays
not-a-sheet = refl

-- Frames: the nine shapes, the refusals 30 to 32, and what is no line.
use mathlib.Core.Path.{refl}
use mathlib.Core.List.{[], ◌∷◌}
use Rattle.rules.proofs.All.{All}
use Rattle.rules.proofs.Vocabulary.{builds, opens, reads, writes, controls, collects, closes, passes, counts, shorter, longer, line, bytes, built, refused, malformed}
use Rattle.rules.proofs.Script.{◌⇒◌, AsWritten, Plays}

-- a frame of none of the nine shapes, or write data not as long as its count: 30, whatever its first byte
pub shapes : AsWritten (
    line "" ⇒ malformed
    ∷ line "00" ⇒ malformed
    ∷ line "0A00" ⇒ malformed
    ∷ shorter (builds 0 4 1 1 1) ⇒ malformed
    ∷ longer (builds 0 4 1 1 1) ⇒ malformed
    ∷ shorter (opens 0 3 1 0) ⇒ malformed
    ∷ longer (opens 0 3 1 0) ⇒ malformed
    ∷ shorter (reads 0 0 0) ⇒ malformed
    ∷ longer (reads 0 0 0) ⇒ malformed
    ∷ shorter (writes 0 0 0 "") ⇒ malformed
    ∷ line "0400000001" ⇒ malformed
    ∷ shorter (writes 0 0 1 "4100") ⇒ malformed
    ∷ line "0400000001414243" ⇒ malformed
    ∷ shorter (writes 0 0 (bytes 1) "00") ⇒ malformed
    ∷ line "0400008000" ⇒ malformed
    ∷ shorter (controls 0 0 4 0) ⇒ malformed
    ∷ longer (controls 0 0 4 0) ⇒ malformed
    ∷ shorter (collects 0 0) ⇒ malformed
    ∷ longer (collects 0 0) ⇒ malformed
    ∷ shorter (closes 0 0) ⇒ malformed
    ∷ longer (closes 0 0) ⇒ malformed
    ∷ shorter (passes 0) ⇒ malformed
    ∷ longer (passes 0) ⇒ malformed
    ∷ shorter (counts 0) ⇒ malformed
    ∷ longer (counts 0) ⇒ malformed
    ∷ [])
unfolding All Plays
shapes = refl

-- lower case, an odd number of digits, other characters: an empty frame
pub no_lines : AsWritten (
    line "0100000401000a01" ⇒ malformed
    ∷ line "090" ⇒ malformed
    ∷ line "09OO" ⇒ malformed
    ∷ line "09:0" ⇒ malformed
    ∷ line "0900/" ⇒ malformed
    ∷ [])
unfolding All Plays
no_lines = refl

-- 30 before 31, 31 before 32, 32 before 33 to 35
pub lowest-first : AsWritten (
    line "0408000001" ⇒ malformed
    ∷ writes 0 0 0 "" ⇒ refused 31
    ∷ reads 8 9 131 ⇒ refused 31
    ∷ reads 0 9 131 ⇒ refused 31
    ∷ shorter (collects 7 0) ⇒ malformed
    ∷ collects 7 0 ⇒ refused 31
    ∷ closes 7 0 ⇒ refused 31
    ∷ counts 7 ⇒ refused 31
    ∷ counts 8 ⇒ refused 31
    ∷ builds 0 4 1 1 1 ⇒ built 3
    ∷ reads 0 9 131 ⇒ refused 32
    ∷ writes 0 255 0 "" ⇒ refused 32
    ∷ collects 0 0 ⇒ refused 32
    ∷ collects 0 8 ⇒ refused 32
    ∷ closes 0 7 ⇒ refused 32
    ∷ controls 0 0 48 65535 ⇒ refused 32
    ∷ [])
unfolding All Plays
lowest-first = refl

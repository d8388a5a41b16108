-- Sentences of document 000 on which document 01 is silent, and its worked example.
use mathlib.Core.Path.{refl}
use mathlib.Core.List.{[], ◌∷◌}
use Rattle.rules.proofs.All.{All}
use Rattle.rules.proofs.Vocabulary.{builds, built, bytes, closes, collects, controls, counted, counts, done, end-of-file, got, opened, opens, passes, reads, refused, timed-out, waiting, writes, wrote}
use Rattle.rules.proofs.Script.{◌⇒◌, AsWritten, Plays}

-- document 000, FCONTROL 45: it stays in effect until it is switched off (here for writes; for reads see `every-reader-ends`)
pub lasts-until-off : AsWritten (
    builds 0 4 1 2 1 ⇒ built 4
    ∷ opens 0 3 3 0 ⇒ opened 0 1
    ∷ opens 0 3 3 0 ⇒ opened 1 2
    ∷ writes 0 0 1 "4141" ⇒ waiting
    ∷ controls 0 0 43 0 ⇒ done
    ∷ controls 0 0 45 1 ⇒ done
    ∷ writes 0 0 1 "4141" ⇒ waiting
    ∷ controls 0 0 43 0 ⇒ done
    ∷ writes 0 0 1 "4141" ⇒ waiting
    ∷ controls 0 0 43 0 ⇒ done
    ∷ controls 0 0 45 0 ⇒ done
    ∷ writes 0 0 1 "4141" ⇒ end-of-file
    ∷ [])
unfolding All Plays
lasts-until-off = refl

-- FCONTROL 47 with FALSE: the next read deletes its record
pub off-before-its-read : AsWritten (
    builds 0 4 1 4 1 ⇒ built 6
    ∷ opens 0 3 1 0 ⇒ opened 0 1
    ∷ writes 0 0 1 "4141" ⇒ wrote 1
    ∷ opens 0 0 1 0 ⇒ opened 1 0
    ∷ controls 0 1 47 1 ⇒ done
    ∷ controls 0 1 47 0 ⇒ done
    ∷ reads 0 1 1 ⇒ got 1 "4141"
    ∷ counts 0 ⇒ counted 0 0 1 1
    ∷ [])
unfolding All Plays
off-before-its-read = refl

-- FCONTROL 4: it stays until it is canceled, for reads and for writes; 43 keeps a request that timed out
pub a-timeout-stays : AsWritten (
    builds 0 4 1 1 1 ⇒ built 3
    ∷ opens 0 0 1 0 ⇒ opened 0 0
    ∷ opens 0 3 1 0 ⇒ opened 1 1
    ∷ controls 0 0 4 5 ⇒ done
    ∷ controls 0 1 4 7 ⇒ done
    ∷ reads 0 0 1 ⇒ waiting
    ∷ passes 5 ⇒ done
    ∷ collects 0 0 ⇒ timed-out
    ∷ reads 0 0 1 ⇒ waiting
    ∷ passes 4 ⇒ done
    ∷ collects 0 0 ⇒ waiting
    ∷ passes 1 ⇒ done
    ∷ controls 0 0 43 0 ⇒ end-of-file
    ∷ collects 0 0 ⇒ timed-out
    ∷ writes 0 1 1 "4141" ⇒ wrote 1
    ∷ writes 0 1 1 "4242" ⇒ wrote 1
    ∷ writes 0 1 1 "4343" ⇒ waiting
    ∷ passes 7 ⇒ done
    ∷ collects 0 1 ⇒ timed-out
    ∷ writes 0 1 1 "4343" ⇒ waiting
    ∷ passes 6 ⇒ done
    ∷ collects 0 1 ⇒ waiting
    ∷ passes 1 ⇒ done
    ∷ collects 0 1 ⇒ timed-out
    ∷ [])
unfolding All Plays
a-timeout-stays = refl

-- FCONTROL 46 is the reader's own, though a table of document 000 has it among a file's global flags
pub typed-is-the-readers-own : AsWritten (
    builds 0 4 1 8 1 ⇒ built 10
    ∷ opens 0 3 3 0 ⇒ opened 0 1
    ∷ opens 0 0 3 0 ⇒ opened 1 0
    ∷ opens 0 0 3 0 ⇒ opened 2 0
    ∷ writes 0 0 1 "4141" ⇒ wrote 1
    ∷ writes 0 0 1 "4242" ⇒ wrote 1
    ∷ writes 0 0 1 "4343" ⇒ wrote 1
    ∷ controls 0 1 46 1 ⇒ done
    ∷ reads 0 2 4 ⇒ got 1 "4141"
    ∷ reads 0 1 4 ⇒ got 3 "000000014242"
    ∷ controls 0 2 46 0 ⇒ done
    ∷ reads 0 1 4 ⇒ got 3 "000000014343"
    ∷ [])
unfolding All Plays
typed-is-the-readers-own = refl

-- FCONTROL 6 by a reader: no end of file is written
pub verified-by-a-reader : AsWritten (
    builds 0 4 1 4 1 ⇒ built 6
    ∷ opens 0 3 1 0 ⇒ opened 0 1
    ∷ writes 0 0 1 "4141" ⇒ wrote 1
    ∷ opens 0 0 1 0 ⇒ opened 1 0
    ∷ controls 0 1 6 0 ⇒ done
    ∷ counts 0 ⇒ counted 1 2 1 1
    ∷ reads 0 1 1 ⇒ got 1 "4141"
    ∷ reads 0 1 1 ⇒ waiting
    ∷ [])
unfolding All Plays
verified-by-a-reader = refl

-- document 000, the worked example: process one writes file 0 and reads file 1, process two the other way round. Its FCONTROL %45 is octal, and 37 is no code
pub two-processes : AsWritten (
    builds 0 40 1 10 1 ⇒ built 12
    ∷ builds 1 40 1 10 1 ⇒ built 12
    ∷ opens 1 0 1 1 ⇒ opened 0 0
    ∷ controls 1 0 45 1 ⇒ done
    ∷ opens 0 1 1 1 ⇒ opened 0 1
    ∷ controls 0 0 45 1 ⇒ done
    ∷ opens 0 0 1 1 ⇒ opened 1 0
    ∷ controls 0 1 37 1 ⇒ refused 35
    ∷ opens 1 1 1 1 ⇒ opened 1 1
    ∷ reads 0 1 (bytes 80) ⇒ waiting
    ∷ writes 0 0 (bytes 80) "4C494E4520312020202020202020202020202020202020202020202020202020202020202020202020202020202020202020202020202020202020202020202020202020202020202020202020202020" ⇒ wrote 80
    ∷ collects 0 1 ⇒ got 80 "4C494E4520312020202020202020202020202020202020202020202020202020202020202020202020202020202020202020202020202020202020202020202020202020202020202020202020202020"
    ∷ writes 0 0 (bytes 80) "4C494E4520322020202020202020202020202020202020202020202020202020202020202020202020202020202020202020202020202020202020202020202020202020202020202020202020202020" ⇒ wrote 80
    ∷ reads 0 1 (bytes 80) ⇒ got 80 "4C494E4520322020202020202020202020202020202020202020202020202020202020202020202020202020202020202020202020202020202020202020202020202020202020202020202020202020"
    ∷ writes 0 0 (bytes 80) "464F554E4420454F4620494E20444154412046494C4520202020202020202020202020202020202020202020202020202020202020202020202020202020202020202020202020202020202020202020" ⇒ wrote 80
    ∷ closes 0 0 ⇒ done
    ∷ reads 1 0 1 ⇒ waiting
    ∷ reads 0 1 (bytes 80) ⇒ got 80 "464F554E4420454F4620494E20444154412046494C4520202020202020202020202020202020202020202020202020202020202020202020202020202020202020202020202020202020202020202020"
    ∷ reads 0 1 (bytes 80) ⇒ end-of-file
    ∷ writes 1 1 (bytes 20) "494E464F524D4154494F4E205245434549564544" ⇒ wrote 20
    ∷ closes 1 1 ⇒ done
    ∷ closes 0 1 ⇒ done
    ∷ collects 1 0 ⇒ got 1 "494E"
    ∷ closes 1 0 ⇒ done
    ∷ [])
unfolding All Plays
two-processes = refl

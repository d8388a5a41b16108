-- Closing.
use mathlib.Core.Path.{refl}
use mathlib.Core.List.{[], ◌∷◌}
use Rattle.rules.proofs.All.{All}
use Rattle.rules.proofs.Vocabulary.{builds, opens, reads, writes, controls, collects, closes, counts, built, opened, got, wrote, counted, done, waiting, end-of-file, refused}
use Rattle.rules.proofs.Script.{◌⇒◌, AsWritten, Plays}

-- the waiting reader ends with status 2 before the close record is put: with 46 it would get it
pub close-record-last : AsWritten (
    builds 0 4 1 1 1 ⇒ built 3
    ∷ opens 0 1 3 0 ⇒ opened 0 1
    ∷ opens 0 0 3 0 ⇒ opened 1 0
    ∷ controls 0 1 46 1 ⇒ done
    ∷ reads 0 1 130 ⇒ got 2 "00010001"
    ∷ reads 0 1 130 ⇒ waiting
    ∷ closes 0 0 ⇒ done
    ∷ collects 0 1 ⇒ end-of-file
    ∷ counts 0 ⇒ counted 0 1 0 1
    ∷ reads 0 1 130 ⇒ got 2 "00020001"
    ∷ [])
unfolding All Plays
close-record-last = refl

-- every waiting reader without extended wait ends, also one that waits after an extended one; an extended one waits on
pub every-reader-ends : AsWritten (
    builds 0 4 1 10 1 ⇒ built 12
    ∷ opens 0 0 3 0 ⇒ opened 0 0
    ∷ opens 0 0 3 0 ⇒ opened 1 0
    ∷ opens 0 3 3 0 ⇒ opened 2 1
    ∷ controls 0 0 45 1 ⇒ done
    ∷ reads 0 0 1 ⇒ waiting
    ∷ reads 0 1 1 ⇒ waiting
    ∷ closes 0 2 ⇒ done
    ∷ collects 0 0 ⇒ waiting
    ∷ collects 0 1 ⇒ end-of-file
    ∷ counts 0 ⇒ counted 0 0 0 2
    ∷ opens 0 3 3 0 ⇒ opened 2 1
    ∷ writes 0 2 1 "4142" ⇒ wrote 1
    ∷ collects 0 0 ⇒ got 1 "4142"
    ∷ [])
unfolding All Plays
every-reader-ends = refl

-- readers end for the last writer only, also one that waits by its first read
pub last-writer-only : AsWritten (
    builds 0 4 1 10 1 ⇒ built 12
    ∷ opens 0 0 3 0 ⇒ opened 0 0
    ∷ reads 0 0 1 ⇒ waiting
    ∷ opens 0 3 3 0 ⇒ opened 1 1
    ∷ opens 0 3 3 0 ⇒ opened 2 2
    ∷ closes 0 1 ⇒ done
    ∷ collects 0 0 ⇒ waiting
    ∷ closes 0 2 ⇒ done
    ∷ collects 0 0 ⇒ end-of-file
    ∷ [])
unfolding All Plays
last-writer-only = refl

-- a waiting request is cancelled; a completed one has to be collected first (33)
pub waiting-is-cancelled : AsWritten (
    builds 0 4 1 1 1 ⇒ built 3
    ∷ opens 0 0 3 0 ⇒ opened 0 0
    ∷ reads 0 0 1 ⇒ waiting
    ∷ closes 0 0 ⇒ done
    ∷ counts 0 ⇒ counted 0 0 0 0
    ∷ opens 0 0 3 0 ⇒ opened 0 0
    ∷ reads 0 0 1 ⇒ waiting
    ∷ opens 0 3 3 0 ⇒ opened 1 1
    ∷ writes 0 1 1 "4142" ⇒ wrote 1
    ∷ closes 0 0 ⇒ refused 33
    ∷ collects 0 0 ⇒ got 1 "4142"
    ∷ closes 0 0 ⇒ done
    ∷ closes 0 0 ⇒ refused 32
    ∷ [])
unfolding All Plays
waiting-is-cancelled = refl

-- waiting writers stay when the last reader goes; the last writer's own waiting write is lost
pub writers-stay : AsWritten (
    builds 0 4 1 1 1 ⇒ built 3
    ∷ opens 0 3 3 0 ⇒ opened 0 1
    ∷ opens 0 0 3 0 ⇒ opened 1 0
    ∷ writes 0 0 1 "4141" ⇒ wrote 1
    ∷ writes 0 0 1 "4242" ⇒ waiting
    ∷ closes 0 1 ⇒ done
    ∷ collects 0 0 ⇒ waiting
    ∷ closes 0 0 ⇒ done
    ∷ counts 0 ⇒ counted 1 3 0 0
    ∷ [])
unfolding All Plays
writers-stay = refl

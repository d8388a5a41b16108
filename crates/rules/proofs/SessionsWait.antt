-- Waiting: who waits, who ends with status 2, and in which order they are served.
use mathlib.Core.Path.{refl}
use mathlib.Core.List.{[], ◌∷◌}
use Rattle.rules.proofs.All.{All}
use Rattle.rules.proofs.Vocabulary.{builds, opens, reads, writes, controls, collects, closes, built, opened, got, wrote, done, waiting, end-of-file, refused}
use Rattle.rules.proofs.Script.{◌⇒◌, AsWritten, Plays}

-- a first write waits with nobody to read; the next ends with status 2, unless 45 is on
pub first-write : AsWritten (
    builds 0 4 1 2 1 ⇒ built 4
    ∷ opens 0 3 3 0 ⇒ opened 0 1
    ∷ opens 0 3 3 0 ⇒ opened 1 2
    ∷ writes 0 0 1 "4141" ⇒ waiting
    ∷ collects 0 0 ⇒ waiting
    ∷ controls 0 0 43 0 ⇒ done
    ∷ writes 0 0 1 "4141" ⇒ end-of-file
    ∷ controls 0 0 45 1 ⇒ done
    ∷ writes 0 0 1 "4141" ⇒ waiting
    ∷ [])
unfolding All Plays
first-write = refl

-- a first read waits with nobody to write; a refused one does not spend that, an abort does not give it back; 45 makes the next wait
pub first_read : AsWritten (
    builds 0 4 1 1 1 ⇒ built 3
    ∷ opens 0 0 1 0 ⇒ opened 0 0
    ∷ reads 0 0 131 ⇒ refused 35
    ∷ reads 0 0 1 ⇒ waiting
    ∷ controls 0 0 43 0 ⇒ done
    ∷ reads 0 0 1 ⇒ end-of-file
    ∷ controls 0 0 45 1 ⇒ done
    ∷ reads 0 0 1 ⇒ waiting
    ∷ [])
unfolding All Plays
first_read = refl

-- a first read that is served at once is spent too
pub first-served : AsWritten (
    builds 0 4 1 1 1 ⇒ built 3
    ∷ opens 0 3 3 0 ⇒ opened 0 1
    ∷ writes 0 0 1 "4142" ⇒ wrote 1
    ∷ opens 0 0 3 0 ⇒ opened 1 0
    ∷ reads 0 1 1 ⇒ got 1 "4142"
    ∷ closes 0 0 ⇒ done
    ∷ reads 0 1 1 ⇒ end-of-file
    ∷ [])
unfolding All Plays
first-served = refl

-- a read waits while a writer is open, a write while a reader is
pub other-side : AsWritten (
    builds 0 4 1 1 1 ⇒ built 3
    ∷ opens 0 0 1 0 ⇒ opened 0 0
    ∷ reads 0 0 1 ⇒ waiting
    ∷ controls 0 0 43 0 ⇒ done
    ∷ opens 0 3 1 0 ⇒ opened 1 1
    ∷ reads 0 0 1 ⇒ waiting
    ∷ writes 0 1 1 "4141" ⇒ wrote 1
    ∷ collects 0 0 ⇒ got 1 "4141"
    ∷ writes 0 1 1 "4242" ⇒ wrote 1
    ∷ writes 0 1 1 "4343" ⇒ wrote 1
    ∷ writes 0 1 1 "4444" ⇒ waiting
    ∷ [])
unfolding All Plays
other-side = refl

-- waiting readers are served in the order of coming
pub readers-in-order : AsWritten (
    builds 0 4 1 4 1 ⇒ built 6
    ∷ opens 0 0 3 0 ⇒ opened 0 0
    ∷ opens 0 0 3 0 ⇒ opened 1 0
    ∷ reads 0 1 1 ⇒ waiting
    ∷ reads 0 0 1 ⇒ waiting
    ∷ opens 0 3 3 0 ⇒ opened 2 1
    ∷ writes 0 2 1 "4141" ⇒ wrote 1
    ∷ writes 0 2 1 "4242" ⇒ wrote 1
    ∷ collects 0 0 ⇒ got 1 "4242"
    ∷ collects 0 1 ⇒ got 1 "4141"
    ∷ [])
unfolding All Plays
readers-in-order = refl

-- a read that discards two open records waits (1), and is served by the write that then fits; the second writer is served after it
pub served-while-settling : AsWritten (
    builds 0 4 1 2 1 ⇒ built 4
    ∷ opens 0 3 3 0 ⇒ opened 0 1
    ∷ opens 0 3 3 0 ⇒ opened 1 2
    ∷ writes 0 0 1 "4141" ⇒ waiting
    ∷ writes 0 1 1 "4242" ⇒ waiting
    ∷ opens 0 0 3 0 ⇒ opened 2 0
    ∷ reads 0 2 1 ⇒ waiting
    ∷ collects 0 2 ⇒ got 1 "4141"
    ∷ collects 0 0 ⇒ wrote 1
    ∷ collects 0 1 ⇒ wrote 1
    ∷ reads 0 2 1 ⇒ got 1 "4242"
    ∷ [])
unfolding All Plays
served-while-settling = refl

-- one outstanding request an accessor, until collected: 33 for read, write and control, and 39 once it is collected
pub one-outstanding : AsWritten (
    builds 0 4 1 1 1 ⇒ built 3
    ∷ opens 0 0 3 0 ⇒ opened 0 0
    ∷ reads 0 0 1 ⇒ waiting
    ∷ reads 0 0 1 ⇒ refused 33
    ∷ collects 0 0 ⇒ waiting
    ∷ opens 0 3 3 0 ⇒ opened 1 1
    ∷ writes 0 1 1 "4142" ⇒ wrote 1
    ∷ reads 0 0 1 ⇒ refused 33
    ∷ controls 0 0 4 1 ⇒ refused 33
    ∷ collects 0 0 ⇒ got 1 "4142"
    ∷ collects 0 0 ⇒ refused 39
    ∷ writes 0 0 1 "4142" ⇒ refused 34
    ∷ reads 0 1 1 ⇒ refused 34
    ∷ [])
unfolding All Plays
one-outstanding = refl

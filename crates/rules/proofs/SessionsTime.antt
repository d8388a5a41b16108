-- Timeouts and the passing of time.
use mathlib.Core.Path.{refl}
use mathlib.Core.List.{[], ◌∷◌}
use Rattle.rules.proofs.All.{All}
use Rattle.rules.proofs.Vocabulary.{builds, opens, reads, writes, controls, collects, passes, built, opened, got, wrote, done, waiting, end-of-file, timed-out, refused}
use Rattle.rules.proofs.Script.{◌⇒◌, AsWritten, Plays}

-- timeout 5: time 4 completes nothing, then 1 completes it
pub timeout-five : AsWritten (
    builds 0 4 1 1 1 ⇒ built 3
    ∷ opens 0 0 1 0 ⇒ opened 0 0
    ∷ controls 0 0 4 5 ⇒ done
    ∷ reads 0 0 1 ⇒ waiting
    ∷ passes 4 ⇒ done
    ∷ collects 0 0 ⇒ waiting
    ∷ passes 1 ⇒ done
    ∷ collects 0 0 ⇒ timed-out
    ∷ collects 0 0 ⇒ refused 39
    ∷ reads 0 0 1 ⇒ end-of-file
    ∷ [])
unfolding All Plays
timeout-five = refl

-- every request whose remaining timeout is at most e completes, the others lose e; the timer starts when the request waits
pub each-its-own : AsWritten (
    builds 0 4 1 10 1 ⇒ built 12
    ∷ opens 0 0 3 0 ⇒ opened 0 0
    ∷ opens 0 0 3 0 ⇒ opened 1 0
    ∷ opens 0 0 3 0 ⇒ opened 2 0
    ∷ controls 0 0 4 5 ⇒ done
    ∷ controls 0 1 4 9 ⇒ done
    ∷ reads 0 0 1 ⇒ waiting
    ∷ passes 2 ⇒ done
    ∷ reads 0 1 1 ⇒ waiting
    ∷ reads 0 2 1 ⇒ waiting
    ∷ passes 3 ⇒ done
    ∷ collects 0 0 ⇒ timed-out
    ∷ collects 0 1 ⇒ waiting
    ∷ collects 0 2 ⇒ waiting
    ∷ passes 5 ⇒ done
    ∷ collects 0 1 ⇒ waiting
    ∷ passes 1 ⇒ done
    ∷ collects 0 1 ⇒ timed-out
    ∷ collects 0 2 ⇒ waiting
    ∷ [])
unfolding All Plays
each-its-own = refl

-- the timer goes when the request completes, and when it is aborted
pub goes-with-its-request : AsWritten (
    builds 0 4 1 1 1 ⇒ built 3
    ∷ opens 0 0 3 0 ⇒ opened 0 0
    ∷ controls 0 0 4 5 ⇒ done
    ∷ reads 0 0 1 ⇒ waiting
    ∷ controls 0 0 43 0 ⇒ done
    ∷ passes 4 ⇒ done
    ∷ opens 0 3 3 0 ⇒ opened 1 1
    ∷ reads 0 0 1 ⇒ waiting
    ∷ passes 4 ⇒ done
    ∷ collects 0 0 ⇒ waiting
    ∷ writes 0 1 1 "4142" ⇒ wrote 1
    ∷ passes 9 ⇒ done
    ∷ collects 0 0 ⇒ got 1 "4142"
    ∷ [])
unfolding All Plays
goes-with-its-request = refl

-- a timeout of 0 disables; FFFF is 65,535 seconds
pub zero-disables : AsWritten (
    builds 0 4 1 1 1 ⇒ built 3
    ∷ opens 0 0 1 0 ⇒ opened 0 0
    ∷ controls 0 0 4 5 ⇒ done
    ∷ controls 0 0 4 0 ⇒ done
    ∷ reads 0 0 1 ⇒ waiting
    ∷ passes 65535 ⇒ done
    ∷ collects 0 0 ⇒ waiting
    ∷ controls 0 0 43 0 ⇒ done
    ∷ controls 0 0 4 65535 ⇒ done
    ∷ controls 0 0 45 1 ⇒ done
    ∷ reads 0 0 1 ⇒ waiting
    ∷ passes 65534 ⇒ done
    ∷ collects 0 0 ⇒ waiting
    ∷ passes 1 ⇒ done
    ∷ collects 0 0 ⇒ timed-out
    ∷ [])
unfolding All Plays
zero-disables = refl

-- a waiting write times out too, and the one after it is served later
pub a-write-times-out : AsWritten (
    builds 0 4 1 2 1 ⇒ built 4
    ∷ opens 0 3 3 0 ⇒ opened 0 1
    ∷ opens 0 3 3 0 ⇒ opened 1 2
    ∷ controls 0 0 4 3 ⇒ done
    ∷ writes 0 0 1 "4141" ⇒ waiting
    ∷ writes 0 1 1 "4242" ⇒ waiting
    ∷ passes 255 ⇒ done
    ∷ collects 0 0 ⇒ timed-out
    ∷ opens 0 0 3 0 ⇒ opened 2 0
    ∷ reads 0 2 1 ⇒ waiting
    ∷ collects 0 2 ⇒ got 1 "4242"
    ∷ collects 0 1 ⇒ wrote 1
    ∷ [])
unfolding All Plays
a-write-times-out = refl

-- time needs no file
pub no-file : AsWritten (
    passes 0 ⇒ done
    ∷ passes 65535 ⇒ done
    ∷ [])
unfolding All Plays
no-file = refl

-- Room: used, the kept places, and where room returns.
use mathlib.Core.Path.{refl}
use mathlib.Core.List.{[], ◌∷◌}
use Rattle.rules.proofs.All.{All}
use Rattle.rules.proofs.Vocabulary.{builds, opens, reads, writes, collects, closes, counts, built, opened, got, wrote, counted, done, waiting, end-of-file, refused}
use Rattle.rules.proofs.Script.{◌⇒◌, AsWritten, Plays}

-- room returns by the block: with three records a block, the second read makes room for the waiting write
pub by-the-block : AsWritten (
    builds 0 4 3 4 1 ⇒ built 6
    ∷ opens 0 3 1 0 ⇒ opened 0 1
    ∷ writes 0 0 1 "4141" ⇒ wrote 1
    ∷ writes 0 0 1 "4242" ⇒ wrote 1
    ∷ writes 0 0 1 "4343" ⇒ wrote 1
    ∷ writes 0 0 1 "4444" ⇒ wrote 1
    ∷ opens 0 0 1 0 ⇒ opened 1 0
    ∷ writes 0 0 1 "4545" ⇒ waiting
    ∷ reads 0 1 1 ⇒ got 1 "4141"
    ∷ collects 0 0 ⇒ waiting
    ∷ reads 0 1 1 ⇒ got 1 "4242"
    ∷ collects 0 0 ⇒ wrote 1
    ∷ counts 0 ⇒ counted 3 3 1 1
    ∷ [])
unfolding All Plays
by-the-block = refl

-- "A file that becomes empty has used = 0": its one block of three has all its room again
pub empty-has-room : AsWritten (
    builds 0 4 3 1 1 ⇒ built 3
    ∷ opens 0 3 1 0 ⇒ opened 0 1
    ∷ writes 0 0 1 "4141" ⇒ wrote 1
    ∷ writes 0 0 1 "4242" ⇒ end-of-file
    ∷ opens 0 0 1 0 ⇒ opened 1 0
    ∷ reads 0 1 1 ⇒ got 1 "4141"
    ∷ writes 0 0 1 "4242" ⇒ wrote 1
    ∷ reads 0 1 1 ⇒ got 1 "4242"
    ∷ [])
unfolding All Plays
empty-has-room = refl

-- "one place is kept for each close record": with two writers two of the four places; a close record takes the place kept for it
pub kept-places : AsWritten (
    builds 0 4 1 2 1 ⇒ built 4
    ∷ opens 0 3 3 0 ⇒ opened 0 1
    ∷ opens 0 3 3 0 ⇒ opened 1 2
    ∷ writes 0 0 1 "4141" ⇒ waiting
    ∷ closes 0 1 ⇒ done
    ∷ counts 0 ⇒ counted 0 3 1 0
    ∷ [])
unfolding All Plays
kept-places = refl

-- "needs used + W + 2 ≤ C": a second writer finds 1 + 1 + 2 above 3
pub open-needs-two : AsWritten (
    builds 0 4 1 1 1 ⇒ built 3
    ∷ opens 0 3 3 0 ⇒ opened 0 1
    ∷ opens 0 3 3 0 ⇒ refused 42
    ∷ counts 0 ⇒ counted 0 1 1 0
    ∷ [])
unfolding All Plays
open-needs-two = refl

-- first in, first out, round the ring of three blocks
pub round-the-ring : AsWritten (
    builds 0 4 1 1 1 ⇒ built 3
    ∷ opens 0 3 3 0 ⇒ opened 0 1
    ∷ opens 0 0 3 0 ⇒ opened 1 0
    ∷ writes 0 0 1 "4141" ⇒ wrote 1
    ∷ reads 0 1 1 ⇒ got 1 "4141"
    ∷ writes 0 0 1 "4242" ⇒ wrote 1
    ∷ writes 0 0 1 "4343" ⇒ wrote 1
    ∷ reads 0 1 1 ⇒ got 1 "4242"
    ∷ writes 0 0 1 "4444" ⇒ wrote 1
    ∷ reads 0 1 1 ⇒ got 1 "4343"
    ∷ reads 0 1 1 ⇒ got 1 "4444"
    ∷ [])
unfolding All Plays
round-the-ring = refl

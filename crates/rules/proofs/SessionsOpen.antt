-- Opening: access, shares, multiaccess, places and IDs, purges.
use mathlib.Core.Path.{refl}
use mathlib.Core.List.{[], ◌∷◌}
use Rattle.rules.proofs.All.{All}
use Rattle.rules.proofs.Vocabulary.{builds, opens, reads, writes, controls, collects, closes, passes, counts, built, opened, got, wrote, counted, done, waiting, end-of-file, refused}
use Rattle.rules.proofs.Script.{◌⇒◌, AsWritten, Plays}

-- access, share and multiaccess from 0 to 3: 35; multiaccess 3: 40, after 35
pub modes : AsWritten (
    builds 0 4 1 10 1 ⇒ built 12
    ∷ opens 0 4 1 0 ⇒ refused 35
    ∷ opens 0 0 4 0 ⇒ refused 35
    ∷ opens 0 0 1 4 ⇒ refused 35
    ∷ opens 0 0 1 3 ⇒ refused 40
    ∷ opens 0 4 1 3 ⇒ refused 35
    ∷ opens 8 0 1 0 ⇒ refused 31
    ∷ opens 1 0 1 0 ⇒ refused 31
    ∷ opens 0 0 1 2 ⇒ opened 0 0
    ∷ [])
unfolding All Plays
modes = refl

-- share 0 counts as 1: one reader, one writer; all give the same share
pub share-one : AsWritten (
    builds 0 4 1 10 1 ⇒ built 12
    ∷ opens 0 0 0 0 ⇒ opened 0 0
    ∷ opens 0 0 1 0 ⇒ refused 40
    ∷ opens 0 3 2 0 ⇒ refused 40
    ∷ opens 0 3 1 0 ⇒ opened 1 1
    ∷ opens 0 3 0 0 ⇒ refused 40
    ∷ closes 0 0 ⇒ done
    ∷ closes 0 1 ⇒ done
    ∷ opens 0 3 3 0 ⇒ opened 0 1
    ∷ [])
unfolding All Plays
share-one = refl

-- share 2: one reader, many writers
pub share-two : AsWritten (
    builds 0 4 1 10 1 ⇒ built 12
    ∷ opens 0 0 2 0 ⇒ opened 0 0
    ∷ opens 0 0 2 0 ⇒ refused 40
    ∷ opens 0 3 2 0 ⇒ opened 1 1
    ∷ opens 0 2 2 0 ⇒ opened 2 2
    ∷ opens 0 0 3 0 ⇒ refused 40
    ∷ [])
unfolding All Plays
share-two = refl

-- share 3: many of both, eight in all; 40 comes before 41
pub eight-accessors : AsWritten (
    builds 0 4 1 10 1 ⇒ built 12
    ∷ opens 0 0 3 0 ⇒ opened 0 0
    ∷ opens 0 0 3 0 ⇒ opened 1 0
    ∷ opens 0 0 3 0 ⇒ opened 2 0
    ∷ opens 0 0 3 0 ⇒ opened 3 0
    ∷ opens 0 0 3 0 ⇒ opened 4 0
    ∷ opens 0 0 3 0 ⇒ opened 5 0
    ∷ opens 0 0 3 0 ⇒ opened 6 0
    ∷ opens 0 3 3 0 ⇒ opened 7 1
    ∷ opens 0 0 3 0 ⇒ refused 41
    ∷ opens 0 0 2 0 ⇒ refused 40
    ∷ closes 0 3 ⇒ done
    ∷ opens 0 0 3 0 ⇒ opened 3 0
    ∷ [])
unfolding All Plays
eight-accessors = refl

-- "the smallest number from 1 that no open writer of the file holds", and the smallest free place
pub smallest-id : AsWritten (
    builds 0 4 1 10 1 ⇒ built 12
    ∷ opens 0 3 3 0 ⇒ opened 0 1
    ∷ opens 0 3 3 0 ⇒ opened 1 2
    ∷ opens 0 3 3 1 ⇒ opened 2 3
    ∷ closes 0 1 ⇒ done
    ∷ opens 0 3 3 0 ⇒ opened 1 2
    ∷ closes 0 0 ⇒ done
    ∷ opens 0 0 3 0 ⇒ opened 0 0
    ∷ opens 0 3 3 0 ⇒ opened 3 1
    ∷ [])
unfolding All Plays
smallest-id = refl

-- access 1 purges with nobody open, and room is counted after it; 2 and 3 never do
pub purges : AsWritten (
    builds 0 4 1 1 1 ⇒ built 3
    ∷ opens 0 1 3 0 ⇒ opened 0 1
    ∷ writes 0 0 1 "4142" ⇒ wrote 1
    ∷ closes 0 0 ⇒ done
    ∷ counts 0 ⇒ counted 1 3 0 0
    ∷ opens 0 3 3 0 ⇒ refused 42
    ∷ opens 0 2 3 0 ⇒ refused 42
    ∷ counts 0 ⇒ counted 1 3 0 0
    ∷ opens 0 1 3 0 ⇒ opened 0 1
    ∷ counts 0 ⇒ counted 0 1 1 0
    ∷ [])
unfolding All Plays
purges = refl

-- access 1 with an accessor open appends
pub appends-beside-others : AsWritten (
    builds 0 4 1 10 1 ⇒ built 12
    ∷ opens 0 2 3 0 ⇒ opened 0 1
    ∷ writes 0 0 1 "4142" ⇒ wrote 1
    ∷ closes 0 0 ⇒ done
    ∷ opens 0 0 3 0 ⇒ opened 0 0
    ∷ opens 0 1 3 0 ⇒ opened 1 1
    ∷ counts 0 ⇒ counted 1 4 1 1
    ∷ [])
unfolding All Plays
appends-beside-others = refl

-- settings start anew at each open
pub settings-anew : AsWritten (
    builds 0 4 1 10 1 ⇒ built 12
    ∷ opens 0 0 3 0 ⇒ opened 0 0
    ∷ controls 0 0 46 1 ⇒ done
    ∷ controls 0 0 45 1 ⇒ done
    ∷ controls 0 0 47 1 ⇒ done
    ∷ controls 0 0 4 5 ⇒ done
    ∷ closes 0 0 ⇒ done
    ∷ opens 0 0 3 0 ⇒ opened 0 0
    ∷ opens 0 3 3 0 ⇒ opened 1 1
    ∷ writes 0 1 1 "4142" ⇒ wrote 1
    ∷ reads 0 0 1 ⇒ got 1 "4142"
    ∷ counts 0 ⇒ counted 0 0 1 1
    ∷ reads 0 0 1 ⇒ waiting
    ∷ passes 5 ⇒ done
    ∷ collects 0 0 ⇒ waiting
    ∷ closes 0 1 ⇒ done
    ∷ collects 0 0 ⇒ end-of-file
    ∷ [])
unfolding All Plays
settings-anew = refl

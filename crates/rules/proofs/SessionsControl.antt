-- Controls.
use mathlib.Core.Path.{refl}
use mathlib.Core.List.{[], ◌∷◌}
use Rattle.rules.proofs.All.{All}
use Rattle.rules.proofs.Vocabulary.{builds, opens, reads, writes, controls, collects, built, opened, got, wrote, done, waiting, end-of-file, refused}
use Rattle.rules.proofs.Script.{◌⇒◌, AsWritten, Plays}

-- 4, 6, 43, 45, 46, 47; any other code, 48 too: 35; 45, 46, 47 with 0 or 1; 46 and 47 by a writer: 34, before 35
pub codes : AsWritten (
    builds 0 4 1 1 1 ⇒ built 3
    ∷ opens 0 3 3 0 ⇒ opened 0 1
    ∷ opens 0 0 3 0 ⇒ opened 1 0
    ∷ controls 0 0 4 5 ⇒ done
    ∷ controls 0 0 6 65535 ⇒ done
    ∷ controls 0 0 45 2 ⇒ refused 35
    ∷ controls 0 0 45 1 ⇒ done
    ∷ controls 0 0 46 1 ⇒ refused 34
    ∷ controls 0 0 47 2 ⇒ refused 34
    ∷ controls 0 1 46 2 ⇒ refused 35
    ∷ controls 0 1 47 256 ⇒ refused 35
    ∷ controls 0 1 48 0 ⇒ refused 35
    ∷ controls 0 0 48 1 ⇒ refused 35
    ∷ controls 0 1 0 0 ⇒ refused 35
    ∷ controls 0 1 43 0 ⇒ refused 39
    ∷ controls 0 9 4 0 ⇒ refused 32
    ∷ controls 8 9 4 0 ⇒ refused 31
    ∷ [])
unfolding All Plays
codes = refl

-- 33 while a request is outstanding, also for an unknown code, but not for 43
pub while-outstanding : AsWritten (
    builds 0 4 1 1 1 ⇒ built 3
    ∷ opens 0 3 3 0 ⇒ opened 0 1
    ∷ opens 0 0 3 0 ⇒ opened 1 0
    ∷ reads 0 1 1 ⇒ waiting
    ∷ controls 0 1 48 0 ⇒ refused 33
    ∷ controls 0 1 4 5 ⇒ refused 33
    ∷ controls 0 1 6 0 ⇒ refused 33
    ∷ controls 0 1 46 2 ⇒ refused 33
    ∷ controls 0 1 43 65535 ⇒ done
    ∷ collects 0 1 ⇒ refused 39
    ∷ [])
unfolding All Plays
while-outstanding = refl

-- 43 on a completed request answers status 2 and leaves it for collection
pub abort-of-a-completed : AsWritten (
    builds 0 4 1 1 1 ⇒ built 3
    ∷ opens 0 3 3 0 ⇒ opened 0 1
    ∷ opens 0 0 3 0 ⇒ opened 1 0
    ∷ reads 0 1 1 ⇒ waiting
    ∷ writes 0 0 1 "4142" ⇒ wrote 1
    ∷ controls 0 1 43 0 ⇒ end-of-file
    ∷ collects 0 1 ⇒ got 1 "4142"
    ∷ [])
unfolding All Plays
abort-of-a-completed = refl

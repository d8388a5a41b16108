-- Look.
use mathlib.Core.Path.{refl}
use mathlib.Core.List.{[], ◌∷◌}
use Rattle.rules.proofs.All.{All}
use Rattle.rules.proofs.Vocabulary.{builds, opens, reads, writes, controls, collects, passes, counts, built, opened, got, wrote, counted, done, waiting, timed-out}
use Rattle.rules.proofs.Script.{◌⇒◌, looks, AsWritten, Plays}

-- 31, 32, 34, 39; a reader of a file without a data record: 39
pub statuses : AsWritten (
    looks 0 0 31 ""
    ∷ looks 8 0 31 ""
    ∷ builds 0 4 1 1 1 ⇒ built 3
    ∷ looks 0 0 32 ""
    ∷ looks 0 8 32 ""
    ∷ opens 0 3 3 0 ⇒ opened 0 1
    ∷ looks 0 0 34 ""
    ∷ opens 0 0 3 0 ⇒ opened 1 0
    ∷ looks 0 1 39 ""
    ∷ writes 0 0 1 "4142" ⇒ wrote 1
    ∷ looks 0 1 0 "4142"
    ∷ looks 0 0 34 ""
    ∷ counts 0 ⇒ counted 1 2 1 1
    ∷ [])
unfolding All Plays
statuses = refl

-- the record in the reader's buffer as it will be answered, else the data bytes of the oldest data record, also under 46
pub as-it-will-be-answered : AsWritten (
    builds 0 4 1 10 1 ⇒ built 12
    ∷ opens 0 0 3 0 ⇒ opened 0 0
    ∷ opens 0 0 3 0 ⇒ opened 1 0
    ∷ controls 0 0 46 1 ⇒ done
    ∷ reads 0 0 130 ⇒ waiting
    ∷ reads 0 1 1 ⇒ waiting
    ∷ opens 0 3 3 0 ⇒ opened 2 1
    ∷ looks 0 0 0 "00010001"
    ∷ looks 0 1 39 ""
    ∷ writes 0 2 2 "41424344" ⇒ wrote 2
    ∷ looks 0 1 0 "4142"
    ∷ writes 0 2 1 "4546" ⇒ wrote 1
    ∷ collects 0 0 ⇒ got 2 "00010001"
    ∷ looks 0 0 0 "4546"
    ∷ collects 0 1 ⇒ got 1 "4142"
    ∷ looks 0 1 0 "4546"
    ∷ [])
unfolding All Plays
as-it-will-be-answered = refl

-- a completed read that brought nothing shows the file's record; a zero-byte record is shown as nothing, with status 0
pub of-a-failed-read : AsWritten (
    builds 0 4 1 10 1 ⇒ built 12
    ∷ opens 0 0 3 0 ⇒ opened 0 0
    ∷ controls 0 0 4 1 ⇒ done
    ∷ reads 0 0 1 ⇒ waiting
    ∷ passes 1 ⇒ done
    ∷ looks 0 0 39 ""
    ∷ opens 0 3 3 0 ⇒ opened 1 1
    ∷ writes 0 1 0 "" ⇒ wrote 0
    ∷ looks 0 0 0 ""
    ∷ collects 0 0 ⇒ timed-out
    ∷ [])
unfolding All Plays
of-a-failed-read = refl

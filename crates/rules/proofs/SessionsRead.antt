-- Reading: what goes at the head, controls 46 and 47, counts and logs.
use mathlib.Core.Path.{refl}
use mathlib.Core.List.{[], ◌∷◌}
use Rattle.rules.proofs.All.{All}
use Rattle.rules.proofs.Vocabulary.{builds, opens, reads, writes, controls, collects, closes, counts, bytes, built, opened, got, wrote, counted, done, waiting, end-of-file, refused}
use Rattle.rules.proofs.Script.{◌⇒◌, AsWritten, Plays}

-- open and close records at the head go also where the read then waits
pub discards-and-waits : AsWritten (
    builds 0 4 1 1 1 ⇒ built 3
    ∷ opens 0 3 3 0 ⇒ opened 0 1
    ∷ opens 0 0 3 0 ⇒ opened 1 0
    ∷ reads 0 1 1 ⇒ waiting
    ∷ counts 0 ⇒ counted 0 0 1 1
    ∷ [])
unfolding All Plays
discards-and-waits = refl

-- a read discards open and close records also where it ends with status 2
pub discards-and-ends : AsWritten (
    builds 0 4 1 1 1 ⇒ built 3
    ∷ opens 0 0 3 0 ⇒ opened 0 0
    ∷ reads 0 0 1 ⇒ waiting
    ∷ controls 0 0 43 0 ⇒ done
    ∷ opens 0 3 3 0 ⇒ opened 1 1
    ∷ closes 0 1 ⇒ done
    ∷ counts 0 ⇒ counted 0 2 0 1
    ∷ reads 0 0 1 ⇒ end-of-file
    ∷ counts 0 ⇒ counted 0 0 0 1
    ∷ [])
unfolding All Plays
discards-and-ends = refl

-- open and close records after the record taken stay
pub leaves-those-behind : AsWritten (
    builds 0 4 1 1 1 ⇒ built 3
    ∷ opens 0 3 3 0 ⇒ opened 0 1
    ∷ writes 0 0 1 "4142" ⇒ wrote 1
    ∷ closes 0 0 ⇒ done
    ∷ opens 0 0 3 0 ⇒ opened 0 0
    ∷ reads 0 0 1 ⇒ got 1 "4142"
    ∷ counts 0 ⇒ counted 0 1 0 1
    ∷ [])
unfolding All Plays
leaves-those-behind = refl

-- control 46: the head record of any type, type and ID words before the data; count and log cover them
pub typed : AsWritten (
    builds 0 4 1 1 1 ⇒ built 3
    ∷ opens 0 3 3 0 ⇒ opened 0 1
    ∷ writes 0 0 1 "4142" ⇒ wrote 1
    ∷ opens 0 0 3 0 ⇒ opened 1 0
    ∷ controls 0 1 46 1 ⇒ done
    ∷ reads 0 1 130 ⇒ got 2 "00010001"
    ∷ reads 0 1 (bytes 5) ⇒ got 5 "0000000141"
    ∷ counts 0 ⇒ counted 0 0 1 1
    ∷ [])
unfolding All Plays
typed = refl

-- control 47: the next read leaves its record at the head, the open record before it goes; the one after takes it
pub keeps-the-record : AsWritten (
    builds 0 4 1 1 1 ⇒ built 3
    ∷ opens 0 3 3 0 ⇒ opened 0 1
    ∷ writes 0 0 1 "4142" ⇒ wrote 1
    ∷ opens 0 0 3 0 ⇒ opened 1 0
    ∷ controls 0 1 47 1 ⇒ done
    ∷ reads 0 1 1 ⇒ got 1 "4142"
    ∷ counts 0 ⇒ counted 1 1 1 1
    ∷ reads 0 1 1 ⇒ got 1 "4142"
    ∷ counts 0 ⇒ counted 0 0 1 1
    ∷ [])
unfolding All Plays
keeps-the-record = refl

-- with 46 and 47 the head record itself is left, of any type
pub keeps-the-head-typed : AsWritten (
    builds 0 4 1 1 1 ⇒ built 3
    ∷ opens 0 3 3 0 ⇒ opened 0 1
    ∷ writes 0 0 1 "4142" ⇒ wrote 1
    ∷ opens 0 0 3 0 ⇒ opened 1 0
    ∷ controls 0 1 46 1 ⇒ done
    ∷ controls 0 1 47 1 ⇒ done
    ∷ reads 0 1 130 ⇒ got 2 "00010001"
    ∷ counts 0 ⇒ counted 1 2 1 1
    ∷ reads 0 1 130 ⇒ got 2 "00010001"
    ∷ counts 0 ⇒ counted 1 1 1 1
    ∷ [])
unfolding All Plays
keeps-the-head-typed = refl

-- 47 is spent by a read that ends with status 2, and not by a refused one
pub keep-is-spent : AsWritten (
    builds 0 4 1 1 1 ⇒ built 3
    ∷ opens 0 0 3 0 ⇒ opened 0 0
    ∷ reads 0 0 1 ⇒ waiting
    ∷ controls 0 0 43 0 ⇒ done
    ∷ controls 0 0 47 1 ⇒ done
    ∷ reads 0 0 1 ⇒ end-of-file
    ∷ opens 0 2 3 0 ⇒ opened 1 1
    ∷ writes 0 1 1 "4142" ⇒ wrote 1
    ∷ reads 0 0 1 ⇒ got 1 "4142"
    ∷ counts 0 ⇒ counted 0 0 1 1
    ∷ writes 0 1 1 "4344" ⇒ wrote 1
    ∷ controls 0 0 47 1 ⇒ done
    ∷ reads 0 0 131 ⇒ refused 35
    ∷ reads 0 0 1 ⇒ got 1 "4344"
    ∷ counts 0 ⇒ counted 1 1 1 1
    ∷ [])
unfolding All Plays
keep-is-spent = refl

-- a waiting read carries 47; the record that it leaves serves the next waiting reader too
pub keep-waits-along : AsWritten (
    builds 0 4 1 1 1 ⇒ built 3
    ∷ opens 0 0 3 0 ⇒ opened 0 0
    ∷ opens 0 0 3 0 ⇒ opened 1 0
    ∷ controls 0 0 47 1 ⇒ done
    ∷ reads 0 0 1 ⇒ waiting
    ∷ reads 0 1 1 ⇒ waiting
    ∷ opens 0 3 3 0 ⇒ opened 2 1
    ∷ writes 0 2 1 "4142" ⇒ wrote 1
    ∷ collects 0 0 ⇒ got 1 "4142"
    ∷ collects 0 1 ⇒ got 1 "4142"
    ∷ counts 0 ⇒ counted 0 0 1 2
    ∷ [])
unfolding All Plays
keep-waits-along = refl

-- "A longer record is cut to the count and the rest is lost."
pub cut-and-lost : AsWritten (
    builds 0 4 1 1 1 ⇒ built 3
    ∷ opens 0 3 3 0 ⇒ opened 0 1
    ∷ writes 0 0 2 "41424344" ⇒ wrote 2
    ∷ opens 0 0 3 0 ⇒ opened 1 0
    ∷ reads 0 1 (bytes 1) ⇒ got 1 "41"
    ∷ counts 0 ⇒ counted 0 0 1 1
    ∷ [])
unfolding All Plays
cut-and-lost = refl

-- "The log is in the unit asked, words rounded up": of an odd record, and of a write in its own unit
pub logs : AsWritten (
    builds 0 4 1 1 1 ⇒ built 3
    ∷ opens 0 3 3 0 ⇒ opened 0 1
    ∷ writes 0 0 (bytes 3) "414243" ⇒ wrote 3
    ∷ opens 0 0 3 0 ⇒ opened 1 0
    ∷ reads 0 1 4 ⇒ got 2 "414243"
    ∷ writes 0 0 1 "4142" ⇒ wrote 1
    ∷ reads 0 1 (bytes 8) ⇒ got 2 "4142"
    ∷ [])
unfolding All Plays
logs = refl

-- "Zero bytes is a record", and a count of 0 takes a record
pub zero-bytes : AsWritten (
    builds 0 4 1 1 1 ⇒ built 3
    ∷ opens 0 3 3 0 ⇒ opened 0 1
    ∷ writes 0 0 0 "" ⇒ wrote 0
    ∷ opens 0 0 3 0 ⇒ opened 1 0
    ∷ reads 0 1 4 ⇒ got 0 ""
    ∷ writes 0 0 1 "4142" ⇒ wrote 1
    ∷ reads 0 1 0 ⇒ got 0 ""
    ∷ counts 0 ⇒ counted 0 0 1 1
    ∷ [])
unfolding All Plays
zero-bytes = refl

-- read counts 130 and −260 taken, 131, −261 and −32768 refused 35
pub read-counts : AsWritten (
    builds 0 4 1 1 1 ⇒ built 3
    ∷ opens 0 0 1 0 ⇒ opened 0 0
    ∷ reads 0 0 131 ⇒ refused 35
    ∷ reads 0 0 (bytes 261) ⇒ refused 35
    ∷ reads 0 0 (bytes 32768) ⇒ refused 35
    ∷ reads 0 0 130 ⇒ waiting
    ∷ controls 0 0 43 0 ⇒ done
    ∷ reads 0 0 (bytes 260) ⇒ end-of-file
    ∷ [])
unfolding All Plays
read-counts = refl

-- "a write has at most 2R bytes": R is 4
pub write-counts : AsWritten (
    builds 0 4 1 1 1 ⇒ built 3
    ∷ opens 0 3 1 0 ⇒ opened 0 1
    ∷ writes 0 0 5 "4142434445464748494A" ⇒ refused 35
    ∷ writes 0 0 (bytes 9) "414243444546474849" ⇒ refused 35
    ∷ writes 0 0 4 "4142434445464748" ⇒ wrote 4
    ∷ [])
unfolding All Plays
write-counts = refl

-- The allocation beside the definition, and the happenings of a call.
use mathlib.Core.Path.{◌≡◌, refl}
use mathlib.Core.List.{List, [], ◌∷◌, ◌++◌, map}
use Prim.Native.Nat.{◌+◌}
use Rattle.rules.specs.State.{made, puts, takes, drops, purges, waits, arms, ends, cancels, collects}
use Rattle.rules.specs.Desk.{asked, fresh_desk, file_of, history}
use Rattle.rules.specs.Allocation.{Alloc, own, timed, nothing, up_from, fresh_alloc, held_at, alloc_after, happening, told, queue_of, timer_list}
use Rattle.rules.proofs.All.{All}
use Rattle.rules.proofs.Vocabulary.{builds, opens, reads, writes, controls, closes, passes, built, opened, got, wrote, done, waiting, end-of-file, timed-out}
use Rattle.rules.proofs.Vocabulary as ask
use Rattle.rules.proofs.Script.{Exchange, ◌⇒◌, call, played, Plays, loads}

unfoldable pub allotted : List Exchange → Alloc
allotted l = alloc_after fresh_desk (map call l) fresh_alloc

-- two readers of file 1 and one of file 0 wait, with timeouts 5, none and 5
unfoldable pub three-wait : List Exchange
three-wait =
    builds 0 4 1 1 1 ⇒ built 3
    ∷ builds 1 4 1 1 1 ⇒ built 3
    ∷ opens 1 0 3 0 ⇒ opened 0 0
    ∷ opens 1 0 3 0 ⇒ opened 1 0
    ∷ opens 0 0 3 0 ⇒ opened 0 0
    ∷ controls 1 0 4 5 ⇒ done
    ∷ controls 0 0 4 5 ⇒ done
    ∷ reads 1 0 1 ⇒ waiting
    ∷ reads 1 1 1 ⇒ waiting
    ∷ reads 0 0 1 ⇒ waiting
    ∷ []

-- "taken from there. A request takes its own entry before its timer's": 0 and 1, 2, 3 and 4
pub taken-in-order : (held_at (allotted three-wait) 8 ≡ timed 0 1)
    × (held_at (allotted three-wait) 9 ≡ own 2)
    × (held_at (allotted three-wait) 0 ≡ timed 3 4)
    × ((allotted three-wait).free ≡ up_from 5 123)
    × (queue_of (λ b. b.rq) 1 (file_of (played three-wait) 1) (allotted three-wait) ≡ 0 ∷ 2 ∷ [])
    × (timer_list (allotted three-wait) ≡ 1 ∷ 4 ∷ [])
unfolding All Plays allotted three-wait
taken-in-order = (refl, refl, refl, refl, refl, refl)

-- "equals in arming order" over all files: file 1's timer goes first, so its entry lies after the other's; the requests keep theirs
pub timed-out-in-order : ((allotted (three-wait ++ (passes 5 ⇒ done ∷ []))).free ≡ 4 ∷ 1 ∷ up_from 5 123)
    × (held_at (allotted (three-wait ++ (passes 5 ⇒ done ∷ []))) 8 ≡ own 0)
unfolding All Plays allotted three-wait
timed-out-in-order = (refl, refl)

-- an abort "frees the timer's first": then its own goes to the front; a collected request frees its own
pub freed-to-the-front : ((allotted (three-wait ++ (controls 1 0 43 0 ⇒ done ∷ []))).free ≡ 0 ∷ 1 ∷ up_from 5 123)
    × ((allotted (three-wait ++ (passes 5 ⇒ done ∷ ask.collects 0 0 ⇒ timed-out ∷ ask.collects 1 0 ⇒ timed-out ∷ []))).free ≡ 0 ∷ 3 ∷ 4 ∷ 1 ∷ up_from 5 123)
    × (held_at (allotted (three-wait ++ (controls 1 0 43 0 ⇒ done ∷ []))) 8 ≡ nothing)
unfolding All Plays allotted three-wait
freed-to-the-front = (refl, refl, refl)

-- a timer that is armed later with less left stands before; the others lose the time that passes
pub by-what-is-left : timer_list (allotted (three-wait ++ (passes 2 ⇒ done ∷ controls 1 0 43 0 ⇒ done ∷ controls 1 0 4 2 ⇒ done ∷ controls 1 0 45 1 ⇒ done ∷ reads 1 0 1 ⇒ waiting ∷ []))) ≡ 1 ∷ 4 ∷ []
unfolding All Plays allotted three-wait
by-what-is-left = refl

-- in a close the own timer and request go first, then the ended readers' timers in queue order
pub closing-order : (allotted (
    builds 0 4 1 10 1 ⇒ built 12
    ∷ opens 0 0 3 0 ⇒ opened 0 0
    ∷ opens 0 0 3 0 ⇒ opened 1 0
    ∷ opens 0 3 3 0 ⇒ opened 2 1
    ∷ controls 0 0 4 7 ⇒ done
    ∷ controls 0 1 4 9 ⇒ done
    ∷ reads 0 1 1 ⇒ waiting
    ∷ reads 0 0 1 ⇒ waiting
    ∷ closes 0 2 ⇒ done
    ∷ [])).free
    ≡ 3 ∷ 1 ∷ up_from 4 124
unfolding All Plays allotted
closing-order = refl

-- what happened to file 0, in order: it is made; the read discards the open record of a writer, waits with a timer, and is served by the write; a second
-- writer's open record goes as the file settles; the close record is put, the reader ends; a purge
pub happenings : history 0 fresh_desk (map call (
    builds 0 4 1 2 1 ⇒ built 4
    ∷ opens 0 3 3 0 ⇒ opened 0 1
    ∷ opens 0 0 3 0 ⇒ opened 1 0
    ∷ controls 0 1 4 5 ⇒ done
    ∷ reads 0 1 1 ⇒ waiting
    ∷ writes 0 0 1 "4142" ⇒ wrote 1
    ∷ ask.collects 0 1 ⇒ got 1 "4142"
    ∷ reads 0 1 1 ⇒ waiting
    ∷ closes 0 0 ⇒ done
    ∷ ask.collects 0 1 ⇒ end-of-file
    ∷ controls 0 1 45 1 ⇒ done
    ∷ reads 0 1 1 ⇒ waiting
    ∷ passes 5 ⇒ done
    ∷ ask.collects 0 1 ⇒ timed-out
    ∷ reads 0 1 1 ⇒ waiting
    ∷ controls 0 1 43 0 ⇒ done
    ∷ closes 0 1 ⇒ done
    ∷ opens 0 1 1 0 ⇒ opened 0 1
    ∷ []))
    ≡ made (record { words = 4; factor = 1; blocks = 4 })
    ∷ puts (record { typ = 1; wid = 1; body = [] })
    ∷ drops (record { typ = 1; wid = 1; body = [] })
    ∷ waits 1
    ∷ arms 1 5
    ∷ puts (record { typ = 0; wid = 1; body = 0x41 ∷ 0x42 ∷ [] })
    ∷ takes 1 (record { typ = 0; wid = 1; body = 0x41 ∷ 0x42 ∷ [] })
    ∷ ends 1 0
    ∷ collects 1
    ∷ waits 1
    ∷ arms 1 5
    ∷ ends 1 2
    ∷ puts (record { typ = 2; wid = 1; body = [] })
    ∷ collects 1
    ∷ drops (record { typ = 2; wid = 1; body = [] })
    ∷ waits 1
    ∷ arms 1 5
    ∷ ends 1 22
    ∷ collects 1
    ∷ waits 1
    ∷ arms 1 5
    ∷ cancels 1
    ∷ purges
    ∷ puts (record { typ = 1; wid = 1; body = [] })
    ∷ []
unfolding All Plays
happenings = refl

-- a load says what it makes and then its records; a read under 46 takes the open record, one under 47 nothing, the next the data record
pub taken-by-whom : history 0 fresh_desk (map call (
    loads 0 ("0100040100030002" ∷ "00010001" ∷ "0000000141424344" ∷ []) "" 0
    ∷ opens 0 0 3 0 ⇒ opened 0 0
    ∷ opens 0 0 3 0 ⇒ opened 1 0
    ∷ controls 0 1 46 1 ⇒ done
    ∷ reads 0 1 4 ⇒ got 2 "00010001"
    ∷ controls 0 0 47 1 ⇒ done
    ∷ reads 0 0 4 ⇒ got 2 "41424344"
    ∷ reads 0 0 4 ⇒ got 2 "41424344"
    ∷ []))
    ≡ made (record { words = 4; factor = 1; blocks = 3 })
    ∷ puts (record { typ = 1; wid = 1; body = [] })
    ∷ puts (record { typ = 0; wid = 1; body = 0x41 ∷ 0x42 ∷ 0x43 ∷ 0x44 ∷ [] })
    ∷ takes 1 (record { typ = 1; wid = 1; body = [] })
    ∷ takes 0 (record { typ = 0; wid = 1; body = 0x41 ∷ 0x42 ∷ 0x43 ∷ 0x44 ∷ [] })
    ∷ []
unfolding All Plays
taken-by-whom = refl

-- a load into a file above 7 is refused, and nothing happens to it
pub nothing-above-7 : history 8 fresh_desk (map call (loads 8 ("0100040100030002" ∷ "00010001" ∷ "0000000141424344" ∷ []) "" 31 ∷ [])) ≡ []
unfolding All Plays
nothing-above-7 = refl

-- what happens to the desk while time passes, in the order of its clock: file 1's reader ends before file 0's
pub told-in-order : told (played three-wait) (allotted three-wait) (asked (call (passes 5 ⇒ done))) ≡ happening 1 (ends 0 22) ∷ happening 0 (ends 0 22) ∷ []
unfolding All Plays allotted three-wait
told-in-order = refl

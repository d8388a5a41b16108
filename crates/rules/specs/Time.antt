-- Time passing.
use Rattle.std.specs.Prelude.{cond, List, [], ◌∷◌, map, ℕ, ◌-◌, leb}
use Rattle.rules.specs.State.{Timer, Hap, Built, File, unbuilt, built}
use Rattle.rules.specs.Requests.{with_timers, fail}
use Rattle.rules.specs.Reply.{hushed}

-- the places whose remaining timeout is at most e, smallest first, equals in arming order
unfoldable pub due : ℕ → List Timer → List ℕ
due e [] = []
due e (t ∷ ts) = cond (leb t.left e) (t.place ∷ due e ts) (due e ts)

-- "completes with status 22 every waiting request"
unfoldable pub fail_all : ℕ → List ℕ → Built → Built
fail_all st [] b = b
fail_all st (p ∷ l) b = fail_all st l (fail p st b)

unfoldable pub minus : ℕ → Timer → Timer
minus e t = record { place = t.place; left = t.left - e }

-- "the others lose e"
unfoldable pub lessen : ℕ → Built → Built
lessen e b = with_timers (map (minus e) b.timers) b

-- "Time passing e seconds completes with status 22 every waiting request whose remaining timeout is at most e, smallest first, equals in arming
-- order; the others lose e."
unfoldable pub lapse : ℕ → Built → Built
lapse e b = lessen e (fail_all 22 (due e b.timers) b)

unfoldable pub file_time : ℕ → File → File
file_time e unbuilt = unbuilt
file_time e (built b) = built (hushed (lapse e b))

-- what happens to a file while time passes
unfoldable pub time_haps : ℕ → File → List Hap
time_haps e unbuilt = []
time_haps e (built b) = (lapse e b).past

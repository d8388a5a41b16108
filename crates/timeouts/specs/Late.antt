-- What the passing of time does to the bytes: of a request that is due, and of the timers that are left.
use Rattle.std.specs.Prelude.{ℕ, zero, suc, ◌-◌, ◌/◌, cond, List, ltb}
use Rattle.rules.specs.Limits.{places, entries}
use Rattle.segment.specs.Layout.{link_at}
use Rattle.segment.specs.Table.{nth, put_data}
use Rattle.segment.specs.Fields.{entry_words, completed_request, entry_at, place_at}
use Rattle.accessors.specs.Outstanding.{queue_of}
use Rattle.requests.specs.Moves.{timer, slot_of, completed}

-- the queue where the request of place i waits
unfoldable pub waits_in : List ℕ → ℕ → ℕ
waits_in s i = queue_of (i / places) (place_at s i).side

-- "completes with status 22"
unfoldable pub late_words : ℕ → List ℕ
late_words i = entry_words (completed_request i 22 0 0)

unfoldable pub late : List ℕ → ℕ → List ℕ
late s i = completed s (slot_of s (waits_in s i) i) i (late_words i)

-- takes n seconds off the timer in entry h
unfoldable pub less : List ℕ → ℕ → ℕ → List ℕ
less s h n = put_data s h (timer (entry_at s h).place ((entry_at s h).seconds - n))

-- takes n seconds off all timers from slot p to the end of the list, at most k
unfoldable pub less_all : List ℕ → ℕ → ℕ → ℕ → List ℕ
less_all s p n zero = s
less_all s p n (suc k) = cond (ltb (nth s p) entries) (less_all (less s (nth s p) n) (link_at (nth s p)) n k) s

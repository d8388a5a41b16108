-- What a request's changes do to the segment's bytes: it begins to wait, arms its timer, completes, is cancelled, is collected. A list is named by
-- its head's slot, m is an entry's data.
use Rattle.std.specs.Prelude.{ℕ, cond, List, ltb, eqb}
use Rattle.rules.specs.Limits.{entries}
use Rattle.segment.specs.Layout.{free_list, reply_port, timer_list}
use Rattle.segment.specs.Table.{nth, put_data}
use Rattle.segment.specs.Fields.{entry_words, running_timer}
use Rattle.ports.specs.Slots.{seek, has, over, insert, unlink, append, taken, released}

-- the slot of a place's entry in list l; `entry_of`: the entry; `out`: the segment with the entry out of the list
unfoldable pub slot_of : List ℕ → ℕ → ℕ → ℕ
slot_of s l place = seek (has 0 place) s l entries

unfoldable pub entry_of : List ℕ → ℕ → ℕ → ℕ
entry_of s l place = nth s (slot_of s l place)

unfoldable pub out : List ℕ → ℕ → ℕ → List ℕ
out s l place = unlink s (slot_of s l place)

-- A timer's data.
abbrev pub timer : ℕ → ℕ → List ℕ
timer place seconds = entry_words (running_timer place seconds)

-- "the timer starts": its entry goes after all that have as little left
unfoldable pub armed : List ℕ → ℕ → ℕ → List ℕ
armed s place seconds = insert (taken s (timer place seconds)) (seek (over 7 seconds) (taken s (timer place seconds)) timer_list entries) (nth s free_list)

-- puts a request, with the data m, in at the end of list l
unfoldable pub queued : List ℕ → ℕ → List ℕ → List ℕ
queued s l m = append (taken s m) l (nth s free_list)

-- "A timeout of 0 disables"; "A request takes its own entry before its timer's"
unfoldable pub waiting : List ℕ → ℕ → List ℕ → ℕ → ℕ → List ℕ
waiting s l m place seconds = cond (eqb seconds 0) (queued s l m) (armed (queued s l m) place seconds)

-- frees the timer of a place, if there is one
unfoldable pub disarmed : List ℕ → ℕ → List ℕ
disarmed s place =
    cond (ltb (entry_of s timer_list place) entries) (released (out s timer_list place) (entry_of s timer_list place)) (out s timer_list place)

-- moves the request of a place, whose entry is at slot p, from its list to the reply port, with the data m
unfoldable pub completed : List ℕ → ℕ → ℕ → List ℕ → List ℕ
completed s p place m = insert (put_data (disarmed (unlink s p) place) (nth s p) m) (reply_port place) (nth s p)

-- takes the request of a place out of its list and frees its entry, the timer's first
unfoldable pub cancelled : List ℕ → ℕ → ℕ → List ℕ
cancelled s p place = released (disarmed (unlink s p) place) (nth s p)

-- collects a completed request
unfoldable pub collected : List ℕ → ℕ → List ℕ
collected s place = released (unlink s (reply_port place)) (nth s (reply_port place))

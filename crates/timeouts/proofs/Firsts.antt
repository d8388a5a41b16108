-- The front of the timer list, as the segment has it; and who is due.
use Prim.Native.Nat.{ℕ, ◌≤◌, ◌<◌}
use mathlib.Core.Path.{◌≡◌, refl, ap, ◌∙◌}
use mathlib.Core.List.{List, [], ◌∷◌, map}
use native.Mathlib.Omega.{arith}
use lib.ListN.{length, get_or, length-map}
use borrow.Author.Tests.{le-leb, lt-leb}
use Rattle.rules.specs.Limits.{entries}
use Rattle.rules.specs.State.{Timer}
use Rattle.rules.specs.Time.{due}
use Rattle.rules.specs.Desk.{Desk}
use Rattle.rules.specs.Allocation.{Alloc, held_at, timer_entry, timer_list}
use Rattle.laws.specs.Timers.{Sorted}
use Rattle.segment.specs.Layout as layout
use Rattle.segment.specs.Table.{nth, data_of}
use Rattle.segment.specs.Fields.{entry_words, entry_of, entry_at}
use Rattle.ports.specs.Lists.{Chain}
use Rattle.ports.proofs.Lists.{short}
use Rattle.ports.proofs.Boxes.{data-box, slot-box}
use Rattle.memory.specs.Image.{timer_words, lists_of, boxes_of}
use Rattle.memory.proofs.Image.{list_of-timers, box_of-timers}
use Rattle.memory.proofs.Boxes.{get_or-lists_of, get_or-boxes_of}
use Rattle.midst.specs.Seg.{Seg}

-- who is due

due-late : (n lo : ℕ) (ts : List Timer) → n < lo → Sorted lo ts → due n ts ≡ []
unfolding Sorted due
due-late n lo [] h s = refl
due-late n lo (t ∷ ts) h s = let k : n < t.left = omega (arith, s.0) in rw (lt-leb t.left n k) (due-late n t.left ts k s.1)

-- where the first has more left, none
pub due-none : (n lo : ℕ) (t : Timer) (ts : List Timer) → n < t.left → Sorted lo (t ∷ ts) → due n (t ∷ ts) ≡ []
unfolding Sorted
due-none n lo t ts h s = due-late n t.left (t ∷ ts) h (unfold Sorted in (omega arith, s.1))

pub due-first : (n : ℕ) (t : Timer) (ts : List Timer) → t.left ≤ n → due n (t ∷ ts) ≡ t.place ∷ due n ts
unfolding due
due-first n t ts h = rw (le-leb t.left n h)

-- an entry that holds a timer
timer-of : (xs : List ℕ) (e : ℕ) (u : Timer) → data_of xs e ≡ timer_words u → ((entry_at xs e).place ≡ u.place) × ((entry_at xs e).seconds ≡ u.left)
unfolding entry_at entry_of timer_words entry_words
timer-of xs e u h = (ap (λ m. get_or m 0 0) h, ap (λ m. get_or m 7 0) h)

module _ {xs : List ℕ} {d : Desk} {t : Alloc} {k : ℕ} (S : Seg xs d t k) where
  timers : get_or (lists_of d t) layout.timer_list [] ≡ timer_list t
  timers = get_or-lists_of d t layout.timer_list (omega arith) ∙ list_of-timers d t

  held : get_or (boxes_of d t) layout.timer_list [] ≡ map timer_words t.clock
  held = get_or-boxes_of d t layout.timer_list (omega arith) ∙ box_of-timers d t

  pub few-timers : length t.clock ≤ entries
  unfolding timer_list
  few-timers = omega (arith, short S.boxes.lists layout.timer_list (omega arith), ap length timers, length-map t.clock (λ u. timer_entry (held_at t u.place)))

  pub first-none : t.clock ≡ [] → entries ≤ nth xs layout.timer_list
  unfolding Chain timer_list
  first-none e =
      let c : Chain xs layout.timer_list (timer_list t) = rw timers at (S.boxes.lists.chains layout.timer_list (omega arith)) in
      let n : nth xs layout.timer_list ≡ layout.nil = rw e at c in
      omega arith

  pub first_some : (u : Timer) (us : List Timer) → t.clock ≡ u ∷ us
      → (nth xs layout.timer_list < entries) × ((entry_at xs (nth xs layout.timer_list)).place ≡ u.place) × ((entry_at xs (nth xs layout.timer_list)).seconds ≡ u.left)
  unfolding timer_list
  first_some u us e =
      let long : 0 < length (get_or (lists_of d t) layout.timer_list []) = rw (timers, e) (omega arith) in
      let w = slot-box S.boxes layout.timer_list (omega arith) 0 long in
      let f : data_of xs (get_or (get_or (lists_of d t) layout.timer_list []) 0 0) ≡ timer_words u = data-box S.boxes layout.timer_list (omega arith) 0 long ∙ rw (held, e) in
      let h : data_of xs (nth xs layout.timer_list) ≡ timer_words u = ap (data_of xs) w.0 ∙ f in
      let g = timer-of xs (nth xs layout.timer_list) u h in
      (rw w.0 w.1, g.0, g.1)

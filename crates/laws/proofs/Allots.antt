-- The steps of the allocation by themselves: each keeps every entry in one place, and changes one place; while a place holds nothing the free
-- list has two entries.
use mathlib.Core.Path.{◌≡◌, refl, sym, ap, ◌∙◌}
use mathlib.Core.List.{List, ◌∷◌, ◌++◌}
use Prim.Native.Nat.{ℕ, ◌+◌, ◌*◌, ◌≤◌, ◌<◌}
use native.Mathlib.Omega.{arith}
use lib.ListN.{length, length-set, length-append}
use lib.Seq.{get_or-set_same, get_or-set_other}
use borrow.Author.Tests.{lt-ltb}
use Rattle.rules.specs.Limits.{files, places, entries}
use Rattle.rules.specs.State.{Timer}
use Rattle.rules.specs.Requests.{without_timer}
use Rattle.rules.specs.Allocation.{Held, nothing, own, timed, Alloc, held_at, no_entry, front, holds, with_clock, take_own, take_timer, free_timer, free_own, ends_at, goes_at}
use Rattle.occurrences.specs.Count.{bit, count}
use Rattle.laws.specs.Counts.{count_t}
use Rattle.laws.specs.Entries.{entries_of, taken, size, Whole}
use Rattle.laws.specs.Midst.{untimed, Steps}
use Rattle.occurrences.proofs.Counts.{count-append, count-front}
use Rattle.occurrences.proofs.Pigeons.{pigeons}
use Rattle.laws.proofs.Clock.{without_timer-absent}
use Rattle.laws.proofs.Taken.{count-taken-set, length-taken-room}

-- while a place holds nothing the free list has two entries
pub free-least : (s : Alloc) (i : ℕ) → Whole s → i < files * places → held_at s i ≡ nothing → 2 ≤ length s.free
unfolding held_at
free-least s i w h e =
    let all : entries ≤ length (s.free ++ taken s.held) = pigeons entries (s.free ++ taken s.held) (λ x k. omega (arith, count-append x s.free (taken s.held), w.once x, ap bit (lt-ltb x entries k))) in
    omega (arith, length-append s.free (taken s.held), length-taken-room s.held i (rw w.long h) e, w.long)

-- a place holds something else, and there are as many entries as before
module _ (i : ℕ) (h : Held) (l : List ℕ) (s : Alloc) (w : Whole s) (k : i < files * places) where
  held_at-holds : held_at (holds i h l s) i ≡ h
  unfolding held_at holds
  held_at-holds = get_or-set_same s.held i h nothing (rw w.long k)

  steps-holds : ((x : ℕ) → count x l + count x (entries_of h) ≡ count x s.free + count x (entries_of (held_at s i))) → Steps i s (holds i h l s)
  unfolding held_at holds
  steps-holds e = record {
    whole = record { once = λ x. omega (arith, w.once x, e x, count-taken-set x s.held i h (rw w.long k)); long = length-set s.held i h ∙ w.long };
    others = λ j d. get_or-set_other s.held i j h nothing d;
  }

pub whole-with_clock : (ts : List Timer) (s : Alloc) → Whole s → Whole (with_clock ts s)
unfolding with_clock
whole-with_clock ts s w = record { once = w.once; long = w.long }

pub held_at-with_clock : (ts : List Timer) (s : Alloc) (i : ℕ) → held_at (with_clock ts s) i ≡ held_at s i
unfolding with_clock held_at
held_at-with_clock ts s i = refl

stays : (i : ℕ) (s : Alloc) → Whole s → Steps i s s
stays i s w = record { whole = w; others = λ j d. refl }

module _ (i : ℕ) (s : Alloc) (w : Whole s) (k : i < files * places) where
  -- a request's entry is taken

  pub steps-take_own : held_at s i ≡ nothing → 1 ≤ length s.free → Steps i s (take_own i s)
  unfolding take_own front entries_of count
  steps-take_own e n = steps-holds i _ _ s w k (λ x. rw e (omega (arith, count-front x s.free no_entry n)))

  pub held_at-take_own : held_at (take_own i s) i ≡ own (front s)
  unfolding take_own
  held_at-take_own = held_at-holds i _ _ s w k

  -- and its timer's

  pub steps-take_timer : (e : ℕ) → held_at s i ≡ own e → 1 ≤ length s.free → Steps i s (take_timer i (held_at s i) s)
  unfolding take_timer front entries_of count
  steps-take_timer e h n = rw h (steps-holds i _ _ s w k (λ x. rw h (omega (arith, count-front x s.free no_entry n))))

  pub held_at-take_timer : (e : ℕ) → held_at s i ≡ own e → held_at (take_timer i (held_at s i) s) i ≡ timed e (front s)
  unfolding take_timer
  held_at-take_timer e h = rw h (held_at-holds i _ _ s w k)

  -- the timer's entry is freed, if there is one

  steps-free_timer : (h : Held) → held_at s i ≡ h → Steps i s (free_timer i h s)
  unfolding free_timer with_clock held_at entries_of count
  steps-free_timer nothing e = stays i s w
  steps-free_timer (own x) e = stays i s w
  steps-free_timer (timed x y) e =
      let c : List Timer = without_timer i s.clock in
      let t = steps-holds i (own x) (y ∷ s.free) (with_clock c s) (whole-with_clock c s w) k (λ z. omega (arith, ap (λ (h : Held). count z (entries_of h)) e)) in
      record { whole = t.whole; others = t.others }

  held_at-free_timer : (h : Held) → held_at s i ≡ h → held_at (free_timer i h s) i ≡ untimed h
  unfolding free_timer untimed
  held_at-free_timer nothing e = e
  held_at-free_timer (own x) e = e
  held_at-free_timer (timed x y) e = held_at-holds i _ _ _ (whole-with_clock (without_timer i s.clock) s w) k

  -- the request's own entry is freed, if there is no timer

  steps-free_own : (h : Held) → held_at s i ≡ h → Steps i s (free_own i h s)
  unfolding free_own entries_of count
  steps-free_own nothing e = stays i s w
  steps-free_own (own x) e = steps-holds i _ _ s w k (λ z. rw e (omega arith))
  steps-free_own (timed x y) e = stays i s w

  held_at-free_own : (h : Held) → held_at s i ≡ untimed h → held_at (free_own i (untimed h) s) i ≡ nothing
  unfolding free_own untimed
  held_at-free_own nothing e = e
  held_at-free_own (own x) e = held_at-holds i _ _ s w k
  held_at-free_own (timed x y) e = held_at-holds i _ _ s w k

clock-free_timer : (i : ℕ) (h : Held) (s : Alloc) → (size h ≤ 1 → count_t i s.clock ≡ 0) → (free_timer i h s).clock ≡ without_timer i s.clock
unfolding free_timer holds with_clock entries_of
clock-free_timer i nothing s q = sym (without_timer-absent i s.clock (q (omega arith)))
clock-free_timer i (own x) s q = sym (without_timer-absent i s.clock (q (omega arith)))
clock-free_timer i (timed x y) s q = refl

clock-free_own : (i : ℕ) (h : Held) (s : Alloc) → (free_own i h s).clock ≡ s.clock
unfolding free_own holds
clock-free_own i nothing s = refl
clock-free_own i (own x) s = refl
clock-free_own i (timed x y) s = refl

-- a request completes

module _ (i : ℕ) (s : Alloc) (w : Whole s) (k : i < files * places) where
  pub steps-ends : Steps i s (ends_at i s)
  unfolding ends_at
  steps-ends = steps-free_timer i s w k (held_at s i) refl

  pub held_at-ends : held_at (ends_at i s) i ≡ untimed (held_at s i)
  unfolding ends_at
  held_at-ends = held_at-free_timer i s w k (held_at s i) refl

  -- a request is cancelled or collected
  pub steps-goes : Steps i s (goes_at i s)
  unfolding goes_at
  steps-goes =
      let a : Steps i s (ends_at i s) = steps-ends in
      let b = steps-free_own i (ends_at i s) a.whole k (held_at (ends_at i s) i) refl in
      record { whole = b.whole; others = λ j d. b.others j d ∙ a.others j d }

  pub held_at-goes : held_at (goes_at i s) i ≡ nothing
  unfolding goes_at
  held_at-goes = rw held_at-ends (held_at-free_own i (ends_at i s) steps-ends.whole k (held_at s i) held_at-ends)

-- the clock after the request of place i ends, where only a place that holds two has a timer
pub clock-ends : (i : ℕ) (s : Alloc) → (size (held_at s i) ≤ 1 → count_t i s.clock ≡ 0) → (ends_at i s).clock ≡ without_timer i s.clock
unfolding ends_at
clock-ends i s q = clock-free_timer i (held_at s i) s q

pub clock-goes : (i : ℕ) (s : Alloc) → (size (held_at s i) ≤ 1 → count_t i s.clock ≡ 0) → (goes_at i s).clock ≡ without_timer i s.clock
unfolding goes_at
clock-goes i s q = clock-free_own i (held_at (ends_at i s) i) (ends_at i s) ∙ clock-ends i s q

-- with no timer held, nothing changes
pub ends_at-still : (i : ℕ) (s : Alloc) → size (held_at s i) ≤ 1 → ends_at i s ≡ s
unfolding ends_at
ends_at-still i s k = go (held_at s i) k
  where
    go : (h : Held) → size h ≤ 1 → free_timer i h s ≡ s
    go nothing n = unfold free_timer in refl
    go (own x) n = unfold free_timer in refl
    go (timed x y) n = absurd (unfold entries_of in omega arith)

-- a clock is as it was, or without the timer of the place
pub clock-ends-either : (P : List Timer → Type 0) (i : ℕ) (s : Alloc) → P s.clock → P (without_timer i s.clock) → P (ends_at i s).clock
unfolding ends_at
clock-ends-either P i s a b = go (held_at s i)
  where
    go : (h : Held) → P (free_timer i h s).clock
    go nothing = unfold free_timer in a
    go (own x) = unfold free_timer in a
    go (timed x y) = unfold free_timer holds with_clock in b

-- What the memories show of a desk: of a file all but its timers and what has happened, and of the clock the entries and the seconds.
use Prim.Native.Nat.{ℕ}
use mathlib.Core.Path.{◌≡◌, refl, sym, ap, ◌∙◌}
use mathlib.Core.List.{List, [], ◌∷◌, map}
use Rattle.rules.specs.State.{Req, idle, reading, writing, read_done, write_done, Timer, Built, File, unbuilt, built}
use Rattle.rules.specs.Requests.{acc_at, with_timers}
use Rattle.rules.specs.Reply.{hushed}
use Rattle.rules.specs.Time.{due, minus, lessen, lapse, file_time}
use Rattle.rules.specs.Allocation.{Alloc, held_at, with_clock, timer_entry, queue_of, port_of}
use Rattle.rules.specs.Allocation as rules
use Rattle.laws.specs.Entries.{timers_of}
use Rattle.memory.specs.Image.{acc_of, file_words, rq_of, wq_of, queue_words}
use Rattle.timeouts.specs.Stage.{fail_file}

-- what the memories say of a file: all but its timers and what has happened

unfoldable pub bare : File → File
bare unbuilt = unbuilt
bare (built b) = built (record { geo = b.geo; store = b.store; accs = b.accs; buffers = b.buffers; rq = b.rq; wq = b.wq; timers = []; past = [] })

-- a function of a file that depends only on what the memories say of it
unfoldable pub Shown : {A : Type 0} → (File → A) → Type 0
Shown k = (y : File) → k y ≡ k (bare y)

pub shown : {A : Type 0} (k : File → A) → Shown k → (x y : File) → bare x ≡ bare y → k x ≡ k y
unfolding Shown
shown k h x y e = h x ∙ ap k e ∙ sym (h y)

pub shown-words : Shown file_words
unfolding Shown bare file_words
shown-words unbuilt = refl
shown-words (built b) = refl

pub shown-acc : (p : ℕ) → Shown (λ y. acc_of y p)
unfolding Shown bare acc_of acc_at
shown-acc p unbuilt = refl
shown-acc p (built b) = refl

pub shown-reads : (f : ℕ) (t : Alloc) → Shown (λ y. queue_of (λ b. b.rq) f y t)
unfolding Shown bare queue_of
shown-reads f t unbuilt = refl
shown-reads f t (built b) = refl

pub shown-writes : (f : ℕ) (t : Alloc) → Shown (λ y. queue_of (λ b. b.wq) f y t)
unfolding Shown bare queue_of
shown-writes f t unbuilt = refl
shown-writes f t (built b) = refl

pub shown-read-words : (f : ℕ) → Shown (λ y. queue_words f y (rq_of y))
unfolding Shown bare queue_words rq_of acc_of acc_at
shown-read-words f unbuilt = refl
shown-read-words f (built b) = refl

pub shown-write-words : (f : ℕ) → Shown (λ y. queue_words f y (wq_of y))
unfolding Shown bare queue_words wq_of acc_of acc_at
shown-write-words f unbuilt = refl
shown-write-words f (built b) = refl

-- the file of the loop and the file of the rules
pub bare-time : (n : ℕ) (l : List ℕ) (y : File) → l ≡ due n (timers_of y) → bare (fail_file l y) ≡ bare (file_time n y)
unfolding bare fail_file file_time hushed lapse lessen with_timers timers_of
bare-time n l unbuilt e = refl
bare-time n l (built b) e = rw e

-- the clock of the allocation is not looked at by queues and ports

module _ (ts : List Timer) (t : Alloc) where
  pub queue-clock : (q : Built → List ℕ) (f : ℕ) (y : File) → queue_of q f y (with_clock ts t) ≡ queue_of q f y t
  unfolding queue_of with_clock held_at
  queue-clock q f unbuilt = refl
  queue-clock q f (built b) = refl

  pub port-clock : (q : Req) (i : ℕ) → port_of q i (with_clock ts t) ≡ port_of q i t
  unfolding port_of with_clock held_at
  port-clock idle i = refl
  port-clock (reading q) i = refl
  port-clock (writing q) i = refl
  port-clock (read_done q) i = refl
  port-clock (write_done q) i = refl

  pub free-clock : (with_clock ts t).free ≡ t.free
  unfolding with_clock
  free-clock = refl

  pub clock-clock : (with_clock ts t).clock ≡ ts
  unfolding with_clock
  clock-clock = refl

-- the timers that are left, in the same entries
timers-clock : (n : ℕ) (t : Alloc) (ts : List Timer) → map (λ u. timer_entry (held_at t u.place)) (map (minus n) ts) ≡ map (λ u. timer_entry (held_at t u.place)) ts
unfolding minus
timers-clock n t [] = refl
timers-clock n t (u ∷ ts) = ap (◌∷◌ (timer_entry (held_at t u.place))) (timers-clock n t ts)

pub list-clock : (n : ℕ) (t : Alloc) → rules.timer_list (with_clock (map (minus n) t.clock) t) ≡ rules.timer_list t
unfolding rules.timer_list with_clock held_at
list-clock n t = timers-clock n t t.clock

-- "Each ten-word entry is always on exactly one list": what the places hold is what stands on the queues, the reply ports and the timer list.
use Prim.Native.Nat.{ℕ, zero, suc, ◌+◌, ◌*◌, ◌/◌, ◌%◌, ◌≤◌, ◌<◌}
use mathlib.Core.Path.{◌≡◌, refl, sym, ap, ap₂, ◌∙◌}
use mathlib.Core.List.{List}
use mathlib.Core.Option.{Option, none}
use native.Mathlib.Omega.{arith}
use native.Mathlib.Nat.{zero-mul, add-mul}
use lib.Dec.{eqb}
use lib.ListN.{length, get_or, replicate, get_or-eq_default}
use Rattle.occurrences.specs.Count.{bit, count, total}
use Rattle.segment.specs.Layout.{desk_places, free_list, read_queues, write_queues, reply_ports, list_count, read_queue, write_queue, reply_port}
use Rattle.segment.specs.Layout as layout
use Rattle.rules.specs.Limits.{files, places}
use Rattle.rules.specs.State.{Req, idle, Acc, Built, File, unbuilt, built}
use Rattle.rules.specs.Requests.{acc_at}
use Rattle.rules.specs.Desk.{Desk, file_of}
use Rattle.rules.specs.Allocation.{Alloc, place_of, held_at, own_entry, timer_entry, queue_of, timer_list}
use Rattle.laws.specs.Runs.{OnFile}
use Rattle.laws.specs.Outstanding.{waits_read, waits_write, uncollected, outstanding, req_of}
use Rattle.laws.specs.Counts.{places_of, count_t}
use Rattle.laws.specs.Entries.{entries_of, taken, size, accs_of, timers_of, Agrees, Agreed}
use Rattle.laws.specs.Queues.{Agree}
use Rattle.memory.specs.Image.{acc_of, place_acc, list_of, lists_of}
use Rattle.memory.specs.Covers.{Covers, Once}
use Rattle.memory.proofs.Image.{place_acc-at, list_of-free, list_of-read, list_of-write, list_of-port, list_of-timers}
use Rattle.memory.proofs.Sums.{sum, sum_same, sum-plus, sum-none, sum_one, sum-split, sum_rows, total-up, count_map}
use Rattle.laws.proofs.Outstanding.{outstanding-most}
use Rattle.memory.proofs.Held.{held-count, port-count, taken-count, sieve-at, map-place}
use Rattle.memory.proofs.Boxes.{once-covers}

three : (a b c k : ℕ) → (a + b + c) * k ≡ a * k + b * k + c * k
three a b c k = add-mul (a + b) c k ∙ ap (λ n. n + c * k) (add-mul a b k)

-- all the lists, kind by kind
sum-lists : (g : ℕ → ℕ) → sum list_count g ≡ g free_list + sum files (λ f. g (read_queue f)) + sum files (λ f. g (write_queue f)) + sum desk_places (λ i. g (reply_port i)) + g layout.timer_list
sum-lists g =
    let ports : ℕ = desk_places + 1 in
    let writes : ℕ = files + ports in
    let e₂ : sum writes (λ i. g (read_queues + (files + i))) ≡ sum writes (λ i. g (write_queues + i)) = sum_same writes _ _ (λ i _. let u : read_queues + (files + i) ≡ write_queues + i = omega arith in ap g u) in
    let e₃ : sum ports (λ i. g (write_queues + (files + i))) ≡ sum ports (λ i. g (reply_ports + i)) = sum_same ports _ _ (λ i _. let u : write_queues + (files + i) ≡ reply_ports + i = omega arith in ap g u) in
    omega (
      arith,
      sum_one g,
      sum_one (λ i. g (reply_ports + (desk_places + i))),
      sum-split 1 (files + writes) g,
      sum-split files writes (λ i. g (read_queues + i)),
      e₂,
      sum-split files ports (λ i. g (write_queues + i)),
      e₃,
      sum-split desk_places 1 (λ i. g (reply_ports + i)),
    )

-- a place stands in the queue as often as its request waits there
Waits : (Built → List ℕ) → (Req → ℕ) → Built → Type 0
Waits q w b = (p : ℕ) → count p (q b) ≡ w (req_of (acc_at b p))

agree-reads : (y : File) → OnFile Agree y → OnFile (Waits (λ b. b.rq) waits_read) y
unfolding OnFile Waits acc_at
agree-reads unbuilt a = tt
agree-reads (built b) a = λ p. (a p).reads

agree-writes : (y : File) → OnFile Agree y → OnFile (Waits (λ b. b.wq) waits_write) y
unfolding OnFile Waits acc_at
agree-writes unbuilt a = tt
agree-writes (built b) a = λ p. (a p).writes

-- the accessor at a place
pub acc-at : (y : File) (p : ℕ) → get_or (accs_of y) p none ≡ acc_of y p
unfolding accs_of acc_of acc_at
acc-at unbuilt p = go places p
  where
    go : (n q : ℕ) → get_or {A = Option Acc} (replicate n none) q none ≡ none
    go zero q = refl
    go (suc n) zero = refl
    go (suc n) (suc q) = go n q
acc-at (built b) p = refl

-- an allocation that agrees with the files, except for the rule itself
module _ (d : Desk) (s : Alloc) (long : length s.held ≡ files * places) (within : (i : ℕ) → files * places ≤ i → count_t i s.clock ≡ 0)
    (agrees : (f : ℕ) → f < files → Agrees f s (accs_of (file_of d f)) (timers_of (file_of d f))) (Q : (f : ℕ) → f < files → OnFile Agree (file_of d f)) (x : ℕ) where
  -- whether x is the entry of place i's request, or of its timer
  B : ℕ → ℕ
  B i = bit (eqb (own_entry (held_at s i)) x)

  C : ℕ → ℕ
  C i = bit (eqb (timer_entry (held_at s i)) x)

  -- how often it stands on a list for place i: w of its request times, on the timer list
  by : (Req → ℕ) → ℕ → ℕ
  by w i = w (req_of (place_acc d i)) * B i

  ticks : ℕ → ℕ
  ticks i = count_t i s.clock * C i

  all : (ℕ → ℕ) → ℕ
  all g = sum (files * places) g

  -- the lists, kind by kind

  module _ (q : Built → List ℕ) (w : Req → ℕ) (rest : w idle ≡ 0) where
    queue-count : (f : ℕ) (y : File) → length (accs_of y) ≡ places → OnFile (Waits q w) y
        → count x (queue_of q f y s) ≡ sum places (λ p. w (req_of (acc_of y p)) * B (place_of f p))
    unfolding OnFile accs_of acc_of queue_of count req_of Waits B
    queue-count f unbuilt e a = sym (sum-none places (λ p. w idle * B (place_of f p)) (λ p _. ap (λ n. n * B (place_of f p)) rest ∙ zero-mul (B (place_of f p))))
    queue-count f (built b) e a =
        count_map x places (λ p. own_entry (held_at s (place_of f p))) (q b) (λ p h. a p ∙ ap (λ o. w (req_of o)) (high p h) ∙ rest)
        ∙ sum_same places _ _ (λ p _. ap (λ n. n * B (place_of f p)) (a p))
      where
        high : (p : ℕ) → places ≤ p → acc_at b p ≡ none
        high p h = unfold acc_at in get_or-eq_default b.accs none (omega (arith, e))

    queues-count : ((f : ℕ) → f < files → OnFile (Waits q w) (file_of d f)) → sum files (λ f. count x (queue_of q f (file_of d f) s)) ≡ all (by w)
    unfolding all by place_of
    queues-count h =
        sum_same files _ _
        (λ f k. queue-count f (file_of d f) (agrees f k).eight (h f k)
        ∙ sum_same places _ _ (λ p j. ap (λ o. w (req_of o) * B (8 * f + p)) (sym (place_acc-at d f p j))))
        ∙ sym (sum_rows files (by w))

  reads-count : sum files (λ f. count x (list_of d s (read_queue f))) ≡ all (by waits_read)
  reads-count =
      sum_same files _ _ (λ f k. ap (count x) (list_of-read d s f k))
      ∙ queues-count (λ b. b.rq) waits_read (unfold waits_read in refl) (λ f k. agree-reads (file_of d f) (Q f k))

  writes-count : sum files (λ f. count x (list_of d s (write_queue f))) ≡ all (by waits_write)
  writes-count =
      sum_same files _ _ (λ f k. ap (count x) (list_of-write d s f k))
      ∙ queues-count (λ b. b.wq) waits_write (unfold waits_write in refl) (λ f k. agree-writes (file_of d f) (Q f k))

  ports-count : sum (files * places) (λ i. count x (list_of d s (reply_port i))) ≡ all (by uncollected)
  unfolding all by B
  ports-count = sum_same (files * places) _ _ (λ i k. ap (count x) (list_of-port d s i k) ∙ port-count x (req_of (place_acc d i)) i s)

  timers-count : count x (list_of d s layout.timer_list) ≡ all ticks
  unfolding all ticks timer_list C count_t
  timers-count =
      ap (count x) (list_of-timers d s ∙ sym (map-place (λ i. timer_entry (held_at s i)) s.clock))
      ∙ count_map x (files * places) (λ i. timer_entry (held_at s i)) (places_of s.clock) (λ i h. within i h)

  -- what one place holds, and what all do

  held_place : (f p : ℕ) → f < files → p < places
      → count x (entries_of (held_at s (place_of f p))) ≡ outstanding (req_of (acc_of (file_of d f) p)) * B (place_of f p) + ticks (place_of f p)
  unfolding ticks B C
  held_place f p h k = held-count x (held_at s (place_of f p)) (outstanding q) (count_t (place_of f p) s.clock) holds few (outstanding-most q)
    where
      q : Req
      q = req_of (acc_of (file_of d f) p)

      o : Option Acc
      o = get_or (accs_of (file_of d f)) p none

      times : count_t (place_of f p) s.clock ≡ count_t p (timers_of (file_of d f))
      times = sieve-at f p k s.clock ∙ ap (count_t p) (agrees f h).clock

      holds : size (held_at s (place_of f p)) ≡ outstanding q + count_t (place_of f p) s.clock
      holds =
          (agrees f h).holds p k
          ∙ ap₂ {C = ℕ} (λ a b. a + b) (ap outstanding (ap req_of (acc-at (file_of d f) p))) (sym times)

      few : count_t (place_of f p) s.clock ≤ outstanding q
      few = omega (arith, times, (agrees f h).timed p, ap outstanding (ap req_of (acc-at (file_of d f) p)))

  held-at : (i : ℕ) → i < files * places → count x (entries_of (held_at s i)) ≡ by waits_read i + by waits_write i + by uncollected i + ticks i
  unfolding by place_acc place_of
  held-at i h =
      let q : 8 * (i / 8) + i % 8 ≡ i = omega arith in
      let r : Req = req_of (place_acc d i) in
      let e : count x (entries_of (held_at s i)) ≡ outstanding r * B i + ticks i = rw q at (held_place (i / 8) (i % 8) (omega arith) (omega arith)) in
      e ∙ ap (λ n. n + ticks i) (three (waits_read r) (waits_write r) (uncollected r) (B i))

  held_all : count x (taken s.held) ≡ all (by waits_read) + all (by waits_write) + all (by uncollected) + all ticks
  unfolding all held_at
  held_all =
      taken-count x s.held ∙ rw (long)
      (sum_same (files * places) _ _ held-at
      ∙ sum-plus (files * places) (λ i. by waits_read i + by waits_write i + by uncollected i) ticks
      ∙ ap (λ n. n + all ticks)
      (sum-plus (files * places) (λ i. by waits_read i + by waits_write i) (by uncollected)
      ∙ ap (λ n. n + all (by uncollected)) (sum-plus (files * places) (by waits_read) (by waits_write))))

  -- what stands on the lists is free or held
  pub lists-taken : total x (lists_of d s) ≡ count x s.free + count x (taken s.held)
  unfolding lists_of
  lists-taken =
      total-up x (list_of d s) list_count 0
      ∙ sum_same list_count _ (λ l. count x (list_of d s l)) (λ l _. let e : 0 + l ≡ l = omega arith in ap (λ l. count x (list_of d s l)) e)
      ∙ sum-lists (λ l. count x (list_of d s l))
      ∙ omega (arith, ap (count x) (list_of-free d s), reads-count, writes-count, ports-count, timers-count, held_all)

-- desk and allocation agree, as they do after every run
module _ (d : Desk) (s : Alloc) (A : Agreed d s) (Q : (f : ℕ) → f < files → OnFile Agree (file_of d f)) where
  pub agreed-once : Once d s
  agreed-once x = lists-taken d s A.whole.long A.clock.within A.agrees Q x ∙ A.whole.once x

  pub agreed-covers : Covers d s
  agreed-covers = once-covers d s agreed-once

-- Memories that stand for a desk pass: their lengths, their files, and the survey of their lists.
use Prim.Native.Nat.{ℕ, ◌+◌, ◌*◌, ◌/◌, ◌%◌, ◌≤◌, ◌<◌}
use mathlib.Core.Bool.{true}
use mathlib.Core.Path.{◌≡◌, refl, ap, ap₂, ◌∙◌}
use mathlib.Core.List.{List, [], map}
use native.Mathlib.Omega.{arith}
use lib.ListN.{length, get_or}
use Rattle.occurrences.specs.Count.{count}
use Rattle.rules.specs.Limits.{files, places, buffer_bytes, share_bytes}
use Rattle.rules.specs.State.{Req, File, unbuilt, built}
use Rattle.rules.specs.Desk.{Desk, file_of}
use Rattle.rules.specs.Allocation.{Alloc, place_of, held_at, timer_entry, queue_of, port_of}
use Rattle.rules.specs.Allocation as alloc
use Rattle.segment.specs.Layout.{free_list, read_queue, write_queue, reply_port, timer_list, segment_bytes}
use Rattle.laws.specs.Outstanding.{req_at, uncollected, awaits, req_of}
use Rattle.laws.specs.Runs.{OnFile}
use Rattle.laws.specs.Queues.{Agree}
use Rattle.laws.specs.Counts.{count_t}
use Rattle.laws.specs.Entries.{accs_of, timers_of}
use Rattle.laws.specs.Timers.{Sorted}
use Rattle.laws.proofs.Sieve.{sorted-sieves}
use Rattle.memory.specs.Memories.{memories}
use Rattle.memory.specs.Image.{acc_of, place_acc, lists_of}
use Rattle.memory.specs.Covers.{Once}
use Rattle.memory.specs.Fine.{Fine, StandsFor}
use Rattle.memory.proofs.Image.{place_acc-at, list_of-free, list_of-read, list_of-write, list_of-port, list_of-timers, box_of-free, box_of-read, box_of-write, box_of-port, box_of-timers}
use Rattle.memory.proofs.Boxes.{get_or-lists_of, segment-boxes}
use Rattle.laws.proofs.Outstanding.{outstanding-most}
use Rattle.memory.proofs.Held.{sieve-at}
use Rattle.memory.proofs.Once.{agreed-once, acc-at}
use Rattle.sound.specs.Walks.{place_in}
use Rattle.decision.specs.Survey.{Each, PortEntry, TimerEntry, InOrder, named, waiting_at, completed_at, timers_at, Survey}
use Rattle.sound.specs.Sound.{files_ok}
use Rattle.decision.proofs.desk.DeskFiles.{file-row, acc-row, files-pass}
use Rattle.decision.proofs.desk.DeskQueues.{Facts}
use Rattle.decision.proofs.desk.DeskLists.{free-pass, timers-pass, port-length, reads-pass, writes-pass, reads-named, writes-named, port-pass}

module _ (s blocks bufs : List ℕ) (d : Desk) (a : Alloc) (S : StandsFor (memories s blocks bufs) d a) where
  abbrev ls : List (List ℕ)
  ls = lists_of d a

  -- the lists, and what their entries hold

  read-list : (f : ℕ) → f < files → get_or ls (read_queue f) [] ≡ queue_of (λ b. b.rq) f (file_of d f) a
  read-list f h = get_or-lists_of d a (read_queue f) (omega arith) ∙ list_of-read d a f h

  write-list : (f : ℕ) → f < files → get_or ls (write_queue f) [] ≡ queue_of (λ b. b.wq) f (file_of d f) a
  write-list f h = get_or-lists_of d a (write_queue f) (omega arith) ∙ list_of-write d a f h

  port-list : (i : ℕ) → i < files * places → get_or ls (reply_port i) [] ≡ port_of (req_of (place_acc d i)) i a
  port-list i h = get_or-lists_of d a (reply_port i) (omega arith) ∙ list_of-port d a i h

  free-list : get_or ls free_list [] ≡ a.free
  free-list = get_or-lists_of d a free_list (omega arith) ∙ list_of-free d a

  timer-list : get_or ls timer_list [] ≡ map (λ t. timer_entry (held_at a t.place)) a.clock
  timer-list = get_or-lists_of d a timer_list (omega arith) ∙ (list_of-timers d a ∙ (unfold alloc.timer_list in refl))

  facts : (f : ℕ) → f < files → Facts s a f (file_of d f)
  facts f h = record {
    file = h;
    fine = S.fine f h;
    eight = (S.agreed.agrees f h).eight;
    row = file-row s blocks bufs d a S f h;
    rows = λ p k. acc-row s blocks bufs d a S f p h k;
    reads = rw (list_of-read d a f h, box_of-read d a f h) at (S.stands.segment.boxes (read_queue f) (omega arith));
    writes = rw (list_of-write d a f h, box_of-write d a f h) at (S.stands.segment.boxes (write_queue f) (omega arith));
  }

  ticks : (x : File) → OnFile Fine x → Sorted 1 (timers_of x)
  unfolding OnFile timers_of Sorted
  ticks unbuilt F = tt
  ticks (built b) F = F.timers

  clock-ticks : Sorted 1 a.clock
  clock-ticks = sorted-sieves a.clock S.agreed.clock (λ f h. rw (S.agreed.agrees f h).clock (ticks (file_of d f) (S.fine f h)))

  timers-all : Each (TimerEntry s) (get_or ls timer_list []) × InOrder s 1 (get_or ls timer_list []) × ((i : ℕ) → timers_at s ls i ≡ count_t i a.clock)
  unfolding timers_at named count_t
  timers-all =
      let k = timers-pass s (λ t. timer_entry (held_at a t.place)) a.clock clock-ticks S.agreed.clock.within
      (unfold alloc.timer_list in rw (list_of-timers d a, box_of-timers d a) at (S.stands.segment.boxes timer_list (omega arith))) in
      (rw timer-list k.0, rw timer-list k.1, λ i. ap (λ (l : List ℕ). count i (map (place_in s) l)) timer-list ∙ ap (count i) k.2)

  queues : (x : File) → OnFile Fine x → OnFile Agree x
  unfolding OnFile
  queues unbuilt F = tt
  queues (built b) F = F.queues

  once : Once d a
  once = agreed-once d a S.agreed (λ f h. queues (file_of d f) (S.fine f h))

  -- place by place
  module _ (f p : ℕ) (h : f < files) (k : p < places) where
    abbrev req : Req
    req = req_of (acc_of (file_of d f) p)

    home : (places * f + p) / places ≡ f
    home = omega arith

    waiting-is : waiting_at s ls (places * f + p) ≡ awaits req
    unfolding waiting_at
    waiting-is =
        rw (home, read-list f h, write-list f h) (ap₂ {C = ℕ} (λ x y. x + y) (reads-named s a f (file_of d f) (facts f h) p) (writes-named s a f (file_of d f) (facts f h) p))

    completed-is : completed_at ls (places * f + p) ≡ uncollected req
    unfolding completed_at
    completed-is = ap length (port-list (places * f + p) (omega arith)) ∙ port-length (req_of (place_acc d (places * f + p))) (places * f + p) a ∙ ap (λ o. uncollected (req_of o)) (place_acc-at d f p k)

    timed-is : timers_at s ls (places * f + p) ≤ awaits req
    timed-is =
        let e : count_t (places * f + p) a.clock ≡ count_t p (timers_of (file_of d f)) = unfold place_of in sieve-at f p k a.clock ∙ ap (count_t p) (S.agreed.agrees f h).clock in
        let q : req_at (accs_of (file_of d f)) p ≡ req = ap req_of (acc-at (file_of d f) p) in
        omega (arith, timers-all.2 (places * f + p), e, (S.agreed.agrees f h).timed p, ap awaits q)

    port-at : Each (PortEntry s (places * f + p)) (get_or ls (reply_port (places * f + p)) [])
    port-at =
        rw (port-list (places * f + p) (omega arith), place_acc-at d f p k)
        (port-pass s a f (file_of d f) (facts f h) p
        (rw (list_of-port d a (places * f + p) (omega arith), box_of-port d a (places * f + p) (omega arith), place_acc-at d f p k) at (S.stands.segment.boxes (reply_port (places * f + p)) (omega arith))))

  -- by the number of the place
  each-place : (P : ℕ → Type 0) → ((f p : ℕ) → f < files → p < places → P (places * f + p)) → (i : ℕ) → i < files * places → P i
  each-place P k i h = let e : places * (i / places) + i % places ≡ i = omega arith in rw e at (k (i / places) (i % places) (omega arith) (omega arith))

  pub survey-pass : Survey s (lists_of d a)
  survey-pass = record {
    heads = (segment-boxes d a s once S.stands.segment).lists.heads;
    chains = λ l h. (segment-boxes d a s once S.stands.segment).lists.chains l h;
    once = once;
    free = rw free-list (free-pass s a.free (rw (list_of-free d a, box_of-free d a) at (S.stands.segment.boxes free_list (omega arith))));
    reads = λ f h. rw (read-list f h) (reads-pass s a f (file_of d f) (facts f h));
    writes = λ f h. rw (write-list f h) (writes-pass s a f (file_of d f) (facts f h));
    ports = each-place (λ i. Each (PortEntry s i) (get_or ls (reply_port i) [])) port-at;
    timers = timers-all.0;
    order = timers-all.1;
    single = each-place (λ i. waiting_at s ls i + completed_at ls i ≤ 1) (λ f p h k. omega (arith, waiting-is f p h k, completed-is f p h k, outstanding-most (req_of (acc_of (file_of d f) p))));
    timed = each-place (λ i. timers_at s ls i ≤ waiting_at s ls i) (λ f p h k. omega (arith, waiting-is f p h k, timed-is f p h k));
  }

  -- all that the test asks beside the walks
  pub passes : (length s ≡ segment_bytes) × (length blocks ≡ share_bytes * files) × (length bufs ≡ places * buffer_bytes * files) × (files_ok s blocks 0 files ≡ true)
      × Survey s (lists_of d a)
  passes = (
    S.stands.segment.size,
    S.stands.bodies.blocks-size,
    S.stands.bodies.buffers-size,
    files-pass s blocks bufs d a S,
    survey-pass,
  )

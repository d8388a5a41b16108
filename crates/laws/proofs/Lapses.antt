-- Time: the due timers of the desk, one after the other in their order, do to each file's places what the rules do to the file by itself.
use mathlib.Core.Path.{◌≡◌, refl, sym, ap, ◌∙◌}
use mathlib.Core.List.{List, [], ◌∷◌, map}
use mathlib.Core.Option.{Option}
use Prim.Native.Nat.{ℕ, ◌+◌, ◌*◌, ◌/◌, ◌%◌, ◌≤◌, ◌<◌}
use native.Mathlib.Omega.{arith}
use native.Mathlib.Decide.{ℕ_discrete, dec_lt}
use lib.ListN.{length, get_or-eq_default}
use Rattle.rules.specs.Limits.{files, places}
use Rattle.rules.specs.State.{Acc, Timer, ends, Built, File, unbuilt, built}
use Rattle.rules.specs.Requests.{acc_at, with_accs, with_queues, with_timers, alter_acc, say, requeue, leave, finish, fail, with_buffers, request}
use Rattle.rules.specs.Reply.{hushed}
use Rattle.rules.specs.Open.{new_file}
use Rattle.rules.specs.Time.{due, fail_all, minus, lessen, lapse, file_time, time_haps}
use Rattle.rules.specs.Allocation.{nothing, Alloc, place_of, held_at, with_clock, ends_at, allot, end_all, alloc_time}
use Rattle.laws.specs.Bounds.{least_refusal}
use Rattle.laws.specs.Runs.{OnFile}
use Rattle.laws.specs.Outstanding.{req_at, outstanding}
use Rattle.laws.specs.Changes.{Finishes}
use Rattle.laws.specs.Timers.{Clock}
use Rattle.laws.specs.Entries.{entries_of, size, sieve, accs_of, timers_of, Calm, draws, Fed}
use Rattle.laws.specs.Midst.{Steps, here, Matches}
use Rattle.laws.proofs.Outstanding.{outstanding-most}
use Rattle.laws.proofs.Cases.{fail-cases}
use Rattle.laws.proofs.Walk.{fails-all}
use Rattle.laws.proofs.Clock.{count_t-minus, clock-without_timer, clock-minus}
use Rattle.laws.proofs.Sieve.{here_in, here_out, here-due, sieve-without_timer-other, sieve-minus}
use Rattle.laws.proofs.Allots.{whole-with_clock, held_at-with_clock, steps-ends, ends_at-still, clock-ends-either}
use Rattle.laws.proofs.Happenings.{place-file, matches-ends, matches-now}
use Rattle.laws.proofs.Midst.{fed-append}

far : (i : ℕ) (t : Alloc) → length t.held ≤ i → size (held_at t i) ≤ 1
unfolding held_at entries_of
far i t h = rw (get_or-eq_default t.held nothing h) (omega arith)

-- a timer of another file
pub others : (f i : ℕ) (t : Alloc) (l : List (Option Acc)) (ts : List Timer) → (i / places ≡ f → ⊥) → Matches f t t l ts → Matches f (ends_at i t) (ends_at i t) l ts
others f i t l ts d M = go (dec_lt i (files * places))
  where
    go : Dec (i < files * places) → Matches f (ends_at i t) (ends_at i t) l ts
    go (no h) = rw (ends_at-still i t (far i t (rw M.whole.long (omega arith)))) M
    go (yes h) =
        let c : Steps i t (ends_at i t) = steps-ends i t M.whole h in
        matches-now f (ends_at i t) l ts
        (record {
          holds = λ p b. ap size (c.others (place_of f p) (λ e. d (sym (ap (λ (n : ℕ). n / places) e) ∙ place-file f p b))) ∙ M.agrees.holds p b;
          timed = M.agrees.timed;
          clock = clock-ends-either (λ us. sieve f us ≡ ts) i t M.agrees.clock (sieve-without_timer-other f i t.clock d ∙ M.agrees.clock);
          eight = M.agrees.eight;
        })
        c.whole (clock-ends-either Clock i t M.clock (clock-without_timer i t.clock M.clock))

-- one of the file: the request at p fails, and where none waits nothing changes
pub fails-one : (f p st : ℕ) (t : Alloc) (b : Built) → f < files → p < places → Matches f t t b.accs b.timers → st < least_refusal
    → Matches f (ends_at (place_of f p) t) (ends_at (place_of f p) t) (fail p st b).accs (fail p st b).timers
unfolding acc_at allot finish say leave with_timers requeue request with_buffers alter_acc with_accs with_queues
fails-one f p st t b hf hp M n =
    let i : ℕ = place_of f p in
    fail-cases (λ c. Matches f (ends_at i t) (ends_at i t) c.accs c.timers) p st b
    (λ z. rw (ends_at-still i t (omega (arith, M.agrees.holds p hp, M.agrees.timed p, outstanding-most (req_at b.accs p)))) M)
    (λ q a r e h w. let N = matches-ends f p hf t t b.accs b.timers M a e q st r h w in
    matches-now f (ends_at i t) _ _ N.agrees N.whole N.clock) n

-- all that are due
fails-due : (f : ℕ) (hf : f < files) (st : ℕ) (is : List ℕ) (t : Alloc) (b : Built) → Matches f t t b.accs b.timers → st < least_refusal
    → Matches f (end_all is t) (end_all is t) (fail_all st (here f is) b).accs (fail_all st (here f is) b).timers
unfolding end_all fail_all
fails-due f hf st [] t b M n = unfold here in M
fails-due f hf st (j ∷ is) t b M n = go (ℕ_discrete (j / places) f) (λ c N. fails-due f hf st is (ends_at j t) c N n)
  where
    u : Alloc
    u = end_all is (ends_at j t)

    go : Dec (j / places ≡ f) → ((c : Built) → Matches f (ends_at j t) (ends_at j t) c.accs c.timers → Matches f u u (fail_all st (here f is) c).accs (fail_all st (here f is) c).timers)
        → Matches f u u (fail_all st (here f (j ∷ is)) b).accs (fail_all st (here f (j ∷ is)) b).timers
    go (yes e) r =
        let k : place_of f (j % places) ≡ j = unfold place_of in omega arith in
        rw (here_in f j is e) (r (fail (j % places) st b) (rw k at (fails-one f (j % places) st t b hf (omega arith) M n)))
    go (no d) r = rw (here_out f j is d) (r b (others f j t b.accs b.timers d M))

-- the others lose e
lessened : (f e : ℕ) (t : Alloc) (l : List (Option Acc)) (ts : List Timer) → Matches f t t l ts
    → Matches f (with_clock (map (minus e) t.clock) t) (with_clock (map (minus e) t.clock) t) l (map (minus e) ts)
lessened f e t l ts M =
    matches-now f _ l _
    (record {
      holds = λ p b. ap size (held_at-with_clock (map (minus e) t.clock) t (place_of f p)) ∙ (M.agrees.holds p b ∙ ap (λ (n : ℕ). outstanding (req_at l p) + n) (sym (count_t-minus e p ts)));
      timed = λ p. omega (arith, M.agrees.timed p, count_t-minus e p ts);
      clock = unfold with_clock in sieve-minus e f t.clock ∙ ap (map (minus e)) M.agrees.clock;
      eight = M.agrees.eight;
    })
    (whole-with_clock (map (minus e) t.clock) t M.whole) (unfold with_clock in clock-minus e t.clock M.clock)

module _ (f : ℕ) (hf : f < files) (e : ℕ) (s : Alloc) where
  ages-built : (b : Built) → Matches f s s b.accs b.timers → Matches f (alloc_time e s) (alloc_time e s) (lapse e b).accs (lapse e b).timers
  unfolding alloc_time lapse lessen with_timers
  ages-built b M =
      let c : here f (due e s.clock) ≡ due e b.timers = here-due e f s.clock ∙ ap (due e) M.agrees.clock in
      lessened f e _ _ _ (rw c at (fails-due f hf 22 (due e s.clock) s b M (omega arith)))

  -- a file that is not built has the places of a new one
  bare : Built
  bare = new_file (record { words = 0; factor = 0; blocks = 0 }) (record { block = 0; spent = 0; recs = []; share = [] })

  pub ages : (x : File) → Matches f s s (accs_of x) (timers_of x) → Matches f (alloc_time e s) (alloc_time e s) (accs_of (file_time e x)) (timers_of (file_time e x))
  unfolding accs_of timers_of file_time hushed
  ages unbuilt M = unfold bare new_file lapse lessen with_timers due fail_all in ages-built bare M
  ages (built b) M = ages-built b M

pub ages-calm : (e : ℕ) (x : File) → Calm (file_time e x)
unfolding OnFile file_time hushed
ages-calm e unbuilt = tt
ages-calm e (built b) = refl

-- nothing is taken from the free list

pub ages-fed : (f e : ℕ) (s : Alloc) (x : File) → Calm x → Fed f (time_haps e x) s
unfolding OnFile time_haps lapse lessen with_timers
ages-fed f e s unbuilt c = unfold Fed in tt
ages-fed f e s (built b) c = fails-all (λ d. Fed f d.past s) more 22 (due e b.timers) b (rw c (unfold Fed in tt)) (omega arith)
  where
    more : Finishes (λ d. Fed f d.past s)
    more p st q a r d _ _ _ h = unfold finish say leave with_timers requeue request with_buffers alter_acc with_accs with_queues in fed-append f d.past (ends p st ∷ []) s h (unfold Fed draws in (omega arith, tt))

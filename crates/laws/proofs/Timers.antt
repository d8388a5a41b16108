-- The timers of a file stand in order, each with something left, after any run from a fresh desk.
use mathlib.Core.Path.{◌≡◌, refl, sym}
use mathlib.Core.Bool.{Bool, true, false}
use mathlib.Core.List.{List, [], ◌∷◌, nil≢cons}
use Prim.Native.Nat.{ℕ, ◌+◌, ◌-◌, ◌≤◌, ◌<◌}
use native.Mathlib.Omega.{arith}
use lib.Dec.{leb, eqb}
use borrow.Author.Tests.{leb-false, eqb-false}
use Rattle.rules.specs.State.{Req, Timer, Built}
use Rattle.rules.specs.Requests.{with_accs, with_queues, with_timers, with_store, alter_acc, say, put_rec, behind, without, without_timer, requeue, leave, finish, cancel, fail, arm, wait, freed, with_buffers, request}
use Rattle.rules.specs.Reply.{hushed}
use Rattle.rules.specs.Open.{new_file, enter}
use Rattle.rules.specs.Close.{vacate}
use Rattle.rules.specs.Time.{due, fail_all, lessen, lapse}
use Rattle.rules.specs.Sheet.{loaded}
use Rattle.rules.specs.Desk.{Call, fresh_desk, file_of, after}
use Rattle.rules.proofs.Split.{by_cases, both}
use Rattle.laws.specs.Runs.{OnFile}
use Rattle.laws.specs.Changes.{Walks, Starts}
use Rattle.occurrences.specs.Count.{count}
use Rattle.laws.specs.Queues.{Agree}
use Rattle.laws.specs.Timers.{Sorted, Ticking}
use Rattle.laws.proofs.Files.{on-file}
use Rattle.laws.proofs.Accessors.{purged-keeps}
use Rattle.occurrences.proofs.Counts.{count_head, bit-ne}
use Rattle.laws.specs.Bounds.{least_refusal}
use Rattle.laws.proofs.Counts.{at-or-else, count-without-same, count-without-other}
use Rattle.laws.proofs.Clock.{without_timer-absent, sorted-lower, sorted-without_timer, sorted-arm_in, sorted-minus}
use Rattle.laws.proofs.Cases.{fail-cases}
use Rattle.laws.proofs.Queues.{agree-walks, agree-starts, agree-lapse, agree-hushed}
use Rattle.laws.proofs.Walk.{fails, fails-all}
use Rattle.laws.proofs.Lift.{lifted}

-- if none is due in e, all have more than e left
sorted-late : (e : ℕ) (ts : List Timer) → due e ts ≡ [] → Sorted 1 ts → Sorted (e + 1) ts
unfolding Sorted due
sorted-late e [] d s = tt
sorted-late e (t ∷ ts) d s = by_cases (leb t.left e)
    (λ k. absurd (nil≢cons (sym (rw k at d))))
    (λ k. (omega (arith, leb-false t.left e k), s.1))

-- who is due goes

due-without_timer : (e p : ℕ) (ts : List Timer) → due e (without_timer p ts) ≡ without p (due e ts)
unfolding due without_timer without
due-without_timer e p [] = refl
due-without_timer e p (t ∷ ts) =
    let ih = due-without_timer e p ts in
    by_cases (eqb t.place p) (λ k. by_cases (leb t.left e) (λ l. rw (k, l, k) ih) (λ l. rw (k, l) ih)) (λ k. by_cases (leb t.left e) (λ l. rw (k, l, k, ih)) (λ l. rw (k, l) ih))

-- only who waits has a timer, so a request that fails takes its timer away, and where none waits there was none
timers-fail : (p st : ℕ) (b : Built) → Agree b → st < least_refusal → (fail p st b).timers ≡ without_timer p b.timers
unfolding finish say leave with_timers
timers-fail p st b s n =
    fail-cases (λ c. c.timers ≡ without_timer p b.timers) p st b (λ z. sym (without_timer-absent p b.timers (omega (arith, (s p).times)))) (λ q a r _ _ _. refl) n

-- when all that are due have failed, none is
none-due : (e st : ℕ) (l : List ℕ) (b : Built) → Agree b → ((x : ℕ) → 1 ≤ count x (due e b.timers) → 1 ≤ count x l) → st < least_refusal
    → due e (fail_all st l b).timers ≡ []
unfolding fail_all count
none-due e st [] b s h z = nobody (due e b.timers) h
  where
    nobody : (m : List ℕ) → ((x : ℕ) → 1 ≤ count x m → 1 ≤ 0) → m ≡ []
    nobody [] h = refl
    nobody (x ∷ m) h = absurd (omega (arith, h x (count_head x m)))
none-due e st (p ∷ l) b s h z =
    none-due e st l (fail p st b) (fails Agree agree-walks.finishes p st b s z)
    (λ x. rw (timers-fail p st b s z, due-without_timer e p b.timers)
    (at-or-else (λ y. 1 ≤ count y (without p (due e b.timers)) → 1 ≤ count y l) p x
    (λ k. absurd (omega (arith, count-without-same p (due e b.timers))))
    (λ n k. omega (arith, bit-ne p x n, h x (omega (arith, count-without-other p x (due e b.timers) n)))))) z

-- the timers of a file

abbrev pub Timed : Built → Type 0
Timed b = Agree b × Ticking b

ticking-arm : (p n : ℕ) (b : Built) → Ticking b → Ticking (arm p n b)
unfolding arm say with_timers
ticking-arm p n b s =
    both Ticking (eqb n 0) (λ _. s) (λ k. sorted-arm_in (record { place = p; left = n }) 1 b.timers (let h : n ≡ 0 → ⊥ = eqb-false n 0 k in omega (arith, h)) s)

ticking-wait : (side : Bool) (p n : ℕ) (q : Req) (b : Built) → Ticking b → Ticking (wait side p n q b)
unfolding wait say requeue request with_buffers alter_acc with_accs with_queues
ticking-wait true p n q b s = ticking-arm p n _ s
ticking-wait false p n q b s = ticking-arm p n _ s

pub timed-walks : Walks Timed (λ n. Timed)
unfolding alter_acc with_accs with_queues with_timers with_store say requeue request with_buffers leave finish cancel freed behind put_rec enter vacate
timed-walks = record {
  mild = λ p f b h s. (agree-walks.mild p f b h s.0, s.1);
  finishes = λ p st q a r b e i k s. (agree-walks.finishes p st q a r b e i k s.0, sorted-without_timer p 1 b.timers s.1);
  cancels = λ p a b e h s. (agree-walks.cancels p a b e h s.0, sorted-without_timer p 1 b.timers s.1);
  read_waits = λ p n q a b e i w h s. (agree-walks.read_waits p n q a b e i w h s.0, ticking-wait false p n _ b s.1);
  write_waits = λ p n q a b e i w h s. (agree-walks.write_waits p n q a b e i w h s.0, ticking-wait true p n _ b s.1);
  frees = λ p a b e h s. (agree-walks.frees p a b e h s.0, s.1);
  fetches = λ p typed keep b s. s;
  writes = λ p a d b _ _ _ _ s. s;
  serves = λ p a q b _ _ _ s. s;
  enters = λ k b s. (agree-walks.enters k b s.0, s.1);
  joins = λ access n k b h e s. (agree-walks.joins access n k b h e s.0, purged-keeps Ticking access b (λ _. s.1) s.1);
  leaves = λ p a b e h w s. (agree-walks.leaves p a b e h w s.0, s.1);
  parts = λ p a b e h w s. (agree-walks.parts p a b e h w s.0, s.1);
  endings = λ n p st q a r b e i k s. (agree-walks.endings n p st q a r b e i k s.0, sorted-without_timer p 1 b.timers s.1);
  closes = λ n b s. (agree-walks.closes n b s.0, s.1);
}

-- the due timers go, so the others have more than e left
ticking-lapse : (e : ℕ) (b : Built) → Timed b → Ticking (lapse e b)
unfolding lapse lessen with_timers
ticking-lapse e b s =
    let c = fail_all 22 (due e b.timers) b in
    let k : Timed c = fails-all Timed timed-walks.finishes 22 (due e b.timers) b s (omega arith) in
    let h : Sorted (e + 1) c.timers = sorted-late e c.timers (none-due e 22 (due e b.timers) b s.0 (λ x h. h) (omega arith)) k.1 in
    sorted-lower 1 (e + 1 - e) _ (omega arith) (sorted-minus e (e + 1) c.timers h)

pub timed-lapse : (e : ℕ) (b : Built) → Timed b → Timed (lapse e b)
timed-lapse e b s = (agree-lapse e b s.0, ticking-lapse e b s)

pub timed-starts : Starts Timed
unfolding new_file loaded say Sorted
timed-starts = record { built = λ g k. (agree-starts.built g k, tt); loads = λ s k. (agree-starts.loads s k, tt) }

pub timed-hushed : (b : Built) → Timed b → Timed (hushed b)
unfolding hushed
timed-hushed b s = (agree-hushed b s.0, s.1)

timed : (f : ℕ) (cs : List Call) → OnFile Timed (file_of (after fresh_desk cs) f)
timed f cs = lifted Timed (λ n. Timed) timed-walks timed-lapse timed-starts timed-hushed f cs

pub ticking : (f : ℕ) (cs : List Call) → OnFile Ticking (file_of (after fresh_desk cs) f)
ticking f cs = on-file Timed Ticking (λ b s. s.1) (file_of (after fresh_desk cs) f) (timed f cs)

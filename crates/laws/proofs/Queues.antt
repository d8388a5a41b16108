-- A place stands in a queue exactly when its accessor's request waits there, once, and has at most one timer, only then: after any run from a
-- fresh desk.
use mathlib.Core.Path.{◌≡◌, refl, ap, ◌∙◌}
use mathlib.Core.Bool.{Bool, true, false, cond}
use mathlib.Core.List.{List, [], ◌∷◌, ◌++◌}
use mathlib.Core.Option.{some}
use Prim.Native.Nat.{ℕ, ◌≤◌}
use native.Mathlib.Omega.{arith}
use Rattle.rules.specs.State.{Req, idle, Acc, Geo, Store, Timer, Hap, Built}
use Rattle.rules.specs.Store.{empty_store}
use Rattle.rules.specs.Requests.{acc_at, with_accs, with_queues, with_timers, with_store, alter_acc, say, put_rec, behind, without, without_timer, arm_in, requeue, leave, finish, cancel, arm, wait, freed, with_buffers, request}
use Rattle.rules.specs.Reply.{hushed}
use Rattle.rules.specs.Open.{new_file, new_acc}
use Rattle.rules.specs.Time.{lessen, lapse}
use Rattle.rules.specs.Sheet.{loaded}
use Rattle.rules.specs.Desk.{Call, fresh_desk, file_of, after}
use Rattle.laws.specs.Runs.{OnFile}
use Rattle.laws.specs.Outstanding.{req_of, req_at, waits_read, waits_write, uncollected, awaits}
use Rattle.laws.specs.Changes.{Finishes, Walks, Starts}
use Rattle.occurrences.specs.Count.{count}
use Rattle.laws.specs.Counts.{places_of, count_t}
use Rattle.laws.specs.Queues.{Queued, Agree}
use Rattle.occurrences.proofs.Counts.{bit-eq, bit-ne, count-snoc-same, count-snoc-other}
use Rattle.laws.proofs.Counts.{count-without-same, count-without-other}
use Rattle.laws.proofs.Clock.{count_t-arm_in, count_t-without_timer-same, count_t-without_timer-other, count_t-minus}
use Rattle.laws.proofs.Accessors.{arm-keeps, purged-keeps}
use Rattle.laws.proofs.Outstanding.{outstanding-most, outstanding-idle, outstanding-ends, reqs-none, ByRequests, mild-keeps, enter-keeps, vacate-keeps, reqs-each}
use Rattle.laws.proofs.Walk.{lapsed}
use Rattle.laws.proofs.Lift.{lifted}

-- a place whose request does not wait stands nowhere
absent : (p : ℕ) (a : Acc) (b : Built) → acc_at b p ≡ some a → awaits a.req ≡ 0 → Agree b → (count p b.rq ≡ 0) × (count p b.wq ≡ 0) × (count_t p b.timers ≡ 0)
unfolding acc_at req_of
absent p a b e h s =
    let n : awaits (req_at b.accs p) ≡ 0 = ap awaits (ap req_of e) ∙ h in
    (omega (arith, (s p).reads), omega (arith, (s p).writes), omega (arith, (s p).times))

agree-alike : ByRequests Agree
unfolding with_accs
agree-alike l b _ h s x = rw (h x) (s x)

-- the request at p is q now, and queues and timers have changed at p only

agree-change : (p : ℕ) (q : Req) (r w : List ℕ) (ts : List Timer) (a : Acc) (b : Built) → acc_at b p ≡ some a → Queued p r w ts q
    → ((x : ℕ) → (p ≡ x → ⊥) → (count x r ≡ count x b.rq) × (count x w ≡ count x b.wq) × (count_t x ts ≡ count_t x b.timers))
    → Agree b → Agree (with_timers ts (requeue p q r w b))
unfolding with_timers requeue request with_buffers alter_acc with_accs with_queues acc_at
agree-change p q r w ts a b e here there s =
    reqs-each q a b.accs p e (λ x m. Queued x r w ts m) here
    (λ x n. let t = there x n in record { reads = t.0 ∙ (s x).reads; writes = t.1 ∙ (s x).writes; times = omega (arith, t.2, (s x).times) })

agree-leave : (p : ℕ) (q : Req) (a : Acc) (b : Built) → acc_at b p ≡ some a → awaits q ≡ 0 → Agree b → Agree (leave p q b)
unfolding leave
agree-leave p q a b e h s =
    let z = count_t-without_timer-same p b.timers in
    agree-change p q (without p b.rq) (without p b.wq) (without_timer p b.timers) a b e
    (record { reads = omega (arith, count-without-same p b.rq); writes = omega (arith, count-without-same p b.wq); times = omega arith })
    (λ x k. (count-without-other p x b.rq k, count-without-other p x b.wq k, count_t-without_timer-other p x b.timers k))
    s

agree-finish : Finishes Agree
unfolding finish say
agree-finish p st q a r b e _ h s = agree-leave p q a b e (outstanding-ends h).1 s

agree-freed : (p : ℕ) (a : Acc) (b : Built) → acc_at b p ≡ some a → uncollected a.req ≡ 1 → Agree b → Agree (freed p b)
unfolding freed say with_timers requeue request with_buffers alter_acc with_accs with_queues waits_read waits_write
agree-freed p a b e h s =
    let n = absent p a b e (omega (arith, outstanding-most a.req)) s in
    agree-change p idle b.rq b.wq b.timers a b e (record { reads = n.0; writes = n.1; times = omega (arith, n) }) (λ x k. (refl, refl, refl)) s

-- a request begins to wait, with its timer or without
agree-arm : (p n : ℕ) (q : Req) (r w : List ℕ) (hs : List Hap) (a : Acc) (b : Built) → acc_at b p ≡ some a → count_t p b.timers ≡ 0 → awaits q ≡ 1
    → count p r ≡ waits_read q → count p w ≡ waits_write q → ((x : ℕ) → (p ≡ x → ⊥) → (count x r ≡ count x b.rq) × (count x w ≡ count x b.wq))
    → Agree b → Agree (arm p n (say hs (requeue p q r w b)))
unfolding say with_timers requeue request with_buffers alter_acc with_accs with_queues
agree-arm p n q r w hs a b e t one hr hw other s =
    let u : Timer = record { place = p; left = n } in
    arm-keeps Agree p n _
    (with-timers b.timers (omega arith) (λ x k. refl))
    (with-timers (arm_in u b.timers) (omega (arith, count_t-arm_in p u b.timers, bit-eq p p refl)) (λ x k. omega (arith, count_t-arm_in x u b.timers, bit-ne p x k)))
  where
    with-timers : (ts : List Timer) → count_t p ts ≤ 1 → ((x : ℕ) → (p ≡ x → ⊥) → count_t x ts ≡ count_t x b.timers) → Agree (with_timers ts (requeue p q r w b))
    with-timers ts m h = agree-change p q r w ts a b e (record { reads = hr; writes = hw; times = omega arith }) (λ x k. ((other x k).0, (other x k).1, h x k)) s

agree-wait : (side : Bool) (p n : ℕ) (q : Req) (a : Acc) (b : Built) → acc_at b p ≡ some a → a.req ≡ idle → waits_read q ≡ cond side 0 1 → waits_write q ≡ cond side 1 0 → Agree b → Agree (wait side p n q b)
unfolding wait
agree-wait side p n q a b e i hr hw s = go side hr hw (absent p a b e (omega (arith, outstanding-idle a.req i)) s)
  where
    go : (t : Bool) → waits_read q ≡ cond t 0 1 → waits_write q ≡ cond t 1 0 → (count p b.rq ≡ 0) × (count p b.wq ≡ 0) × (count_t p b.timers ≡ 0) → Agree (wait t p n q b)
    go true hr hw z =
        agree-arm p n q b.rq (b.wq ++ (p ∷ [])) _ a b e z.2 (omega arith) (omega (arith, z)) (omega (arith, z, count-snoc-same p b.wq)) (λ x k. (refl, count-snoc-other x p b.wq k)) s
    go false hr hw z =
        agree-arm p n q (b.rq ++ (p ∷ [])) b.wq _ a b e z.2 (omega arith) (omega (arith, z, count-snoc-same p b.rq)) (omega (arith, z)) (λ x k. (count-snoc-other x p b.rq k, refl)) s

pub agree-walks : Walks Agree (λ n. Agree)
unfolding cancel say with_store behind put_rec waits_read waits_write new_acc
agree-walks = record {
  mild = mild-keeps Agree agree-alike;
  finishes = agree-finish;
  cancels = λ p a b e _ s. agree-leave p idle a b e refl s;
  read_waits = λ p n q a b e i _ _ s. agree-wait false p n _ a b e i refl refl s;
  write_waits = λ p n q a b e i _ _ s. agree-wait true p n _ a b e i refl refl s;
  frees = agree-freed;
  fetches = λ p typed keep b s. s;
  writes = λ p a d b _ _ _ _ s. s;
  serves = λ p a q b _ _ _ s. s;
  enters = λ k b s. enter-keeps Agree agree-alike _ b refl s;
  joins = λ access n k b _ _ s. enter-keeps Agree agree-alike _ _ refl (purged-keeps Agree access b (λ _. s) s);
  leaves = λ p a b e i _ s. vacate-keeps Agree agree-alike p a b e i s;
  parts = λ p a b e i _ s. vacate-keeps Agree agree-alike p a b e i s;
  endings = λ n. agree-finish;
  closes = λ n b s. s;
}

agree-new : (g : Geo) (st : Store) → Agree (new_file g st)
unfolding new_file count count_t places_of
agree-new g st x = rw (reqs-none x) (unfold waits_read waits_write in record { reads = refl; writes = refl; times = omega arith })

pub agree-starts : Starts Agree
unfolding loaded say
agree-starts = record { built = λ g _. agree-new g empty_store; loads = λ s _. agree-new s.geo _ }

pub agree-lapse : (e : ℕ) (b : Built) → Agree b → Agree (lapse e b)
agree-lapse = lapsed Agree (λ n. Agree) agree-walks less
  where
    less : (e : ℕ) (b : Built) → Agree b → Agree (lessen e b)
    less e b s x = unfold lessen with_timers in record { reads = (s x).reads; writes = (s x).writes; times = omega (arith, count_t-minus e x b.timers, (s x).times) }

pub agree-hushed : (b : Built) → Agree b → Agree (hushed b)
unfolding hushed
agree-hushed b s = s

pub agreeing : (f : ℕ) (cs : List Call) → OnFile Agree (file_of (after fresh_desk cs) f)
agreeing f cs = lifted Agree (λ n. Agree) agree-walks agree-lapse agree-starts agree-hushed f cs

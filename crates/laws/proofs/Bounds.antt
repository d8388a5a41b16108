-- What a request holds is within its bounds, after any run from a fresh desk; so each buffer has its bytes.
use mathlib.Core.Path.{◌≡◌, refl, ap, subst, ◌∙◌}
use mathlib.Core.Bool.{true, false}
use mathlib.Core.List.{List}
use mathlib.Core.Option.{some}
use Prim.Native.Nat.{ℕ}
use native.Mathlib.Omega.{arith}
use Rattle.rules.specs.State.{Req, idle, reading, writing, Acc, Built}
use Rattle.rules.specs.Requests.{acc_at, alter, with_accs, with_queues, with_timers, with_store, alter_acc, say, put_rec, behind, with_req, requeue, leave, finish, cancel, freed, with_buffers, request}
use Rattle.rules.specs.Reply.{hushed}
use Rattle.rules.specs.Open.{new_file, new_acc}
use Rattle.rules.specs.Time.{lessen}
use Rattle.rules.specs.Sheet.{loaded}
use Rattle.rules.specs.Desk.{Call, fresh_desk, file_of, after}
use Rattle.laws.specs.Runs.{OnFile}
use Rattle.laws.specs.Changes.{Ends, read_ends, write_ends, Finishes, Walks, Starts}
use Rattle.laws.specs.Outstanding.{req_of, req_at}
use Rattle.laws.specs.Bounds.{Bounded, Bounds}
use Rattle.laws.proofs.Accessors.{wait-keeps, purged-keeps}
use Rattle.laws.proofs.Outstanding.{reqs-none, ByRequests, mild-keeps, enter-keeps, vacate-keeps, reqs-each}
use Rattle.laws.proofs.Walk.{lapsed}
use Rattle.laws.proofs.Lift.{lifted}

bounded-ends : (words st : ℕ) (r q : Req) → Ends st r q → Bounded words r → Bounded words q
unfolding Bounded
bounded-ends words st r q (read_ends e h n) k = (omega (arith, h, k), omega (arith, e, n))
bounded-ends words st r q (write_ends e n) k = omega (arith, e, n)

-- what a file's request at p holds
pub bounds-at : (p : ℕ) (a : Acc) (r : Req) (b : Built) → acc_at b p ≡ some a → a.req ≡ r → Bounds b → Bounded b.geo.words r
unfolding acc_at req_of
bounds-at p a r b e i s = subst (Bounded b.geo.words) (ap req_of e ∙ i) (s p)

bounds-alike : ByRequests Bounds
unfolding with_accs
bounds-alike l b _ h s x = rw (h x) (s x)

-- the request at p is q now
bounds-req : (q : Req) (p : ℕ) (a : Acc) (b : Built) → acc_at b p ≡ some a → Bounded b.geo.words q → Bounds b → (x : ℕ) → Bounded b.geo.words (req_at (alter (with_req q) b.accs p) x)
unfolding acc_at
bounds-req q p a b e h s = reqs-each q a b.accs p e (λ x r. Bounded b.geo.words r) h (λ x _. s x)

bounds-finish : Finishes Bounds
unfolding finish say leave with_timers requeue request with_buffers alter_acc with_accs with_queues
bounds-finish p st q a r b e i k s = bounds-req q p a b e (bounded-ends b.geo.words st r q k (bounds-at p a r b e i s)) s

pub bounds-walks : Walks Bounds (λ n. Bounds)
unfolding alter_acc with_accs with_queues with_timers with_store say requeue request with_buffers leave cancel freed behind put_rec Bounded new_acc
bounds-walks = record {
  mild = mild-keeps Bounds bounds-alike;
  finishes = bounds-finish;
  cancels = λ p a b e _ s. bounds-req idle p a b e tt s;
  read_waits = λ p n q a b e _ _ h s. wait-keeps Bounds false p n _ b (λ _ _ _ _. bounds-req (reading q) p a b e h s);
  write_waits = λ p n q a b e _ _ h s. wait-keeps Bounds true p n _ b (λ _ _ _ _. bounds-req (writing q) p a b e h s);
  frees = λ p a b e _ s. bounds-req idle p a b e tt s;
  fetches = λ p typed keep b s. s;
  writes = λ p a d b _ _ _ _ s. s;
  serves = λ p a q b _ _ _ s. s;
  enters = λ k b s. enter-keeps Bounds bounds-alike _ b refl s;
  joins = λ access n k b _ _ s. enter-keeps Bounds bounds-alike _ _ refl (purged-keeps Bounds access b (λ _. s) s);
  leaves = λ p a b e i _ s. vacate-keeps Bounds bounds-alike p a b e i s;
  parts = λ p a b e i _ s. vacate-keeps Bounds bounds-alike p a b e i s;
  endings = λ n. bounds-finish;
  closes = λ n b s. s;
}

pub bounds-starts : Starts Bounds
unfolding new_file loaded say Bounded
bounds-starts = record { built = λ g _ x. rw (reqs-none x) tt; loads = λ s _ x. rw (reqs-none x) tt }

pub bounds-lessen : (e : ℕ) (b : Built) → Bounds b → Bounds (lessen e b)
unfolding lessen with_timers
bounds-lessen e b s = s

pub bounds-hushed : (b : Built) → Bounds b → Bounds (hushed b)
unfolding hushed
bounds-hushed b s = s

pub bounded : (f : ℕ) (cs : List Call) → OnFile Bounds (file_of (after fresh_desk cs) f)
bounded f cs = lifted Bounds (λ n. Bounds) bounds-walks (lapsed Bounds (λ n. Bounds) bounds-walks bounds-lessen) bounds-starts bounds-hushed f cs

-- Reads belong to readers and writes to writers, after any run from a fresh desk.
use mathlib.Core.Path.{◌≡◌, refl, sym, subst, ◌∙◌}
use mathlib.Core.Bool.{Bool, true, false, true≢false}
use mathlib.Core.List.{List}
use mathlib.Core.Option.{Option, none, some, some-injective, none-ne-some}
use Prim.Native.Nat.{ℕ}
use lib.ListN.{get_or, replicate}
use Rattle.rules.specs.Limits.{places}
use Rattle.rules.specs.State.{Req, idle, reading, writing, Acc, Built}
use Rattle.rules.specs.Requests.{is_writer, acc_at, alter, with_accs, with_queues, with_timers, with_store, alter_acc, say, put_rec, behind, with_req, requeue, leave, finish, cancel, freed, with_buffers, request}
use Rattle.rules.specs.Reply.{hushed}
use Rattle.rules.specs.Open.{new_file, new_acc, enter}
use Rattle.rules.specs.Close.{vacate}
use Rattle.rules.specs.Time.{lessen}
use Rattle.rules.specs.Sheet.{loaded}
use Rattle.rules.specs.Desk.{Call, fresh_desk, file_of, after}
use Rattle.laws.specs.Runs.{OnFile}
use Rattle.laws.specs.Changes.{Mild, Ends, read_ends, write_ends, Walks, Starts}
use Rattle.laws.specs.Sides.{Fitting, Sided, Sides}
use Rattle.laws.proofs.Lists.{get_or-replicate-same}
use Rattle.laws.proofs.Accessors.{alter-beside, enter-beside, vacate-beside, wait-keeps, purged-keeps}
use Rattle.laws.proofs.Walk.{lapsed}
use Rattle.laws.proofs.Lift.{lifted}

-- one accessor

sided-mild : (f : Acc → Acc) (a : Acc) → Mild f → Sided a → Sided (f a)
unfolding Mild is_writer
sided-mild f a h s =
    let m = h a in
    record { request = rw (m.0, m.3) s.request; reader = λ e. m.1 ∙ s.reader (sym m.0 ∙ e); writer = λ e. rw m.1 (s.writer (sym m.0 ∙ e)) }

sided-with_req : (q : Req) (a : Acc) → (Fitting a.writer a.req → Fitting a.writer q) → Sided a → Sided (with_req q a)
unfolding with_req
sided-with_req q a h s = record { request = h s.request; reader = s.reader; writer = s.writer }

fitting-ends : {st : ℕ} {r q : Req} (w : Bool) → Ends st r q → Fitting w r → Fitting w q
unfolding Fitting
fitting-ends w (read_ends e h n) f = f
fitting-ends w (write_ends e n) f = f

-- all of them

-- what is there was sided, if what was there before was
Follows : Option Acc → Option Acc → Type 0
Follows o m = ((a : Acc) → m ≡ some a → Sided a) → (a : Acc) → o ≡ some a → Sided a

follows : (o : Option Acc) → Follows o o
unfolding Follows
follows o h = h

sides-alter : (f : Acc → Acc) (p : ℕ) (b : Built) → ((a : Acc) → acc_at b p ≡ some a → Sided a → Sided (f a)) → Sides b → (x : ℕ) (a : Acc) → get_or (alter f b.accs p) x none ≡ some a → Sided a
unfolding acc_at Follows
sides-alter f p b h s x =
    alter-beside Follows follows f b.accs p (λ a e k c i. subst Sided (some-injective (f a) c i) (h a e (k a refl))) x (s x)

sides-enter : (a : Acc) (b : Built) → Sided a → Sides b → Sides (enter a b)
unfolding enter with_accs acc_at Follows
sides-enter a b h s x = enter-beside Follows follows a b.accs (λ _ c i. subst Sided (some-injective a c i) h) x (s x)

sides-vacate : (p : ℕ) (b : Built) → Sides b → Sides (vacate p b)
unfolding vacate with_accs acc_at Follows
sides-vacate p b s x = vacate-beside Follows follows b.accs p (λ _ c i. absurd (none-ne-some c i)) x (s x)

-- the request of the accessor a at p is q now
sides-with_req : (q : Req) (p : ℕ) (a : Acc) (b : Built) → acc_at b p ≡ some a → (Fitting a.writer a.req → Fitting a.writer q) → Sides b → (x : ℕ) (c : Acc) → get_or (alter (with_req q) b.accs p) x none ≡ some c → Sided c
sides-with_req q p a b e h s =
    sides-alter (with_req q) p b (λ c i t. sided-with_req q c (subst (λ (d : Acc). Fitting d.writer d.req → Fitting d.writer q) (some-injective a c (sym e ∙ i)) h) t) s

pub sides-walks : Walks Sides (λ n. Sides)
unfolding alter_acc with_accs with_queues with_timers with_store say requeue request with_buffers leave finish cancel freed behind put_rec acc_at Fitting
sides-walks = record {
  mild = λ p f b h s. sides-alter f p b (λ a _ t. sided-mild f a h t) s;
  finishes = λ p st q a r b e i k s. sides-with_req q p a b e (λ t. fitting-ends a.writer k (rw i at t)) s;
  cancels = λ p a b e _ s. sides-with_req idle p a b e (λ _. tt) s;
  read_waits = λ p n q a b e _ w _ s. wait-keeps Sides false p n _ b (λ _ _ _ _. sides-with_req (reading q) p a b e (λ _. w) s);
  write_waits = λ p n q a b e _ w _ s. wait-keeps Sides true p n _ b (λ _ _ _ _. sides-with_req (writing q) p a b e (λ _. w) s);
  frees = λ p a b e _ s. sides-with_req idle p a b e (λ _. tt) s;
  fetches = λ p typed keep b s. s;
  writes = λ p a d b _ _ _ _ s. s;
  serves = λ p a q b _ _ _ s. s;
  enters = λ k b s. sides-enter _ b (unfold new_acc in record { request = tt; reader = λ _. refl; writer = λ e. absurd (true≢false (sym e)) }) s;
  joins = λ access n k b h _ s. sides-enter _ _ (unfold new_acc in record { request = tt; reader = λ e. absurd (true≢false e); writer = λ _. h }) (purged-keeps Sides access b (λ _. s) s);
  leaves = λ p a b _ _ _ s. sides-vacate p b s;
  parts = λ p a b _ _ _ s. sides-vacate p b s;
  endings = λ n p st q a r b e i k s. sides-with_req q p a b e (λ t. fitting-ends a.writer k (rw i at t)) s;
  closes = λ n b s. s;
}

nobody : (p : ℕ) (a : Acc) → get_or (replicate places none) p none ≡ some a → Sided a
nobody p a e = absurd (none-ne-some a (sym (get_or-replicate-same none places p) ∙ e))

pub sides-starts : Starts Sides
unfolding new_file loaded say acc_at
sides-starts = record { built = λ g _. nobody; loads = λ s _. nobody }

pub sides : (f : ℕ) (cs : List Call) → OnFile Sides (file_of (after fresh_desk cs) f)
sides f cs = lifted Sides (λ n. Sides) sides-walks (lapsed Sides (λ n. Sides) sides-walks (λ e b s. unfold lessen with_timers acc_at in s)) sides-starts (λ b s. unfold hushed acc_at in s) f cs

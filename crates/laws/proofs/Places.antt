-- Each built file has eight places: there is no accessor at place 8 or above, after any run from a fresh desk.
use mathlib.Core.Path.{◌≡◌, refl, ◌∙◌}
use mathlib.Core.Bool.{true, false}
use mathlib.Core.List.{List}
use mathlib.Core.Option.{none}
use Prim.Native.Nat.{ℕ, ◌≤◌}
use native.Mathlib.Omega.{arith}
use lib.ListN.{length-set, get_or-eq_default}
use Rattle.rules.specs.Limits.{places}
use Rattle.rules.specs.State.{Built}
use Rattle.rules.specs.Requests.{acc_at, with_accs, with_queues, with_timers, with_store, alter_acc, say, put_rec, behind, with_req, requeue, leave, finish, cancel, freed, with_buffers, request}
use Rattle.rules.specs.Reply.{hushed}
use Rattle.rules.specs.Open.{new_file, free_id, enter, purged}
use Rattle.rules.specs.Close.{vacate}
use Rattle.rules.specs.Time.{lessen}
use Rattle.rules.specs.Sheet.{loaded}
use Rattle.rules.specs.Desk.{Call, fresh_desk, file_of, after}
use Rattle.laws.specs.Runs.{OnFile}
use Rattle.laws.specs.Changes.{Walks, Starts}
use Rattle.laws.specs.Places.{Eight}
use Rattle.laws.proofs.Files.{on-file}
use Rattle.laws.proofs.Ids.{Smallest, smallest-id}
use Rattle.laws.proofs.Accessors.{length-alter, wait-keeps, purged-keeps}
use Rattle.laws.proofs.Walk.{lapsed}
use Rattle.laws.proofs.Lift.{lifted}

eight-walks : Walks Eight (λ n. Eight)
unfolding alter_acc with_accs with_queues with_timers with_store say requeue request with_buffers leave finish cancel freed behind put_rec enter vacate
eight-walks = record {
  mild = λ p f b _ s. length-alter f b.accs p ∙ s;
  finishes = λ p st q a r b _ _ _ s. length-alter (with_req q) b.accs p ∙ s;
  cancels = λ p a b _ _ s. length-alter _ b.accs p ∙ s;
  read_waits = λ p n q a b _ _ _ _ s. wait-keeps Eight false p n _ b (λ r w ts hs. length-alter _ b.accs p ∙ s);
  write_waits = λ p n q a b _ _ _ _ s. wait-keeps Eight true p n _ b (λ r w ts hs. length-alter _ b.accs p ∙ s);
  frees = λ p a b _ _ s. length-alter _ b.accs p ∙ s;
  fetches = λ p typed keep b s. s;
  writes = λ p a d b _ _ _ _ s. s;
  serves = λ p a q b _ _ _ s. s;
  enters = λ s b h. length-set b.accs _ _ ∙ h;
  joins = λ access n s b _ _ h. length-set (purged access b).accs _ _ ∙ purged-keeps Eight access b (λ hs. h) h;
  leaves = λ p a b _ _ _ s. length-set b.accs p none ∙ s;
  parts = λ p a b _ _ _ s. length-set b.accs p none ∙ s;
  endings = λ n p st q a r b _ _ _ s. length-alter (with_req q) b.accs p ∙ s;
  closes = λ n b s. s;
}

eight-starts : Starts Eight
unfolding new_file loaded say
eight-starts = record { built = λ g _. refl; loads = λ s _. refl }

pub eight-places : (f : ℕ) (cs : List Call) → OnFile Eight (file_of (after fresh_desk cs) f)
eight-places f cs = lifted Eight (λ n. Eight) eight-walks (lapsed Eight (λ n. Eight) eight-walks (λ e b s. unfold lessen with_timers in s)) eight-starts (λ b s. unfold hushed in s) f cs

-- no accessor is at place 8 or above
pub acc_at-high : (b : Built) (p : ℕ) → Eight b → places ≤ p → acc_at b p ≡ none
unfolding acc_at
acc_at-high b p s h = get_or-eq_default b.accs none (omega (arith, s))

pub no-accessor : (f : ℕ) (cs : List Call) → OnFile (λ b. (p : ℕ) → places ≤ p → acc_at b p ≡ none) (file_of (after fresh_desk cs) f)
no-accessor f cs = on-file Eight (λ b. (p : ℕ) → places ≤ p → acc_at b p ≡ none) (λ b s p h. acc_at-high b p s h) (file_of (after fresh_desk cs) f) (eight-places f cs)

-- the ID that a writer gets is the smallest that no writer holds
pub smallest-ids : (f : ℕ) (cs : List Call) → OnFile (λ b. Smallest b.accs 1 (free_id b.accs)) (file_of (after fresh_desk cs) f)
smallest-ids f cs = on-file Eight (λ b. Smallest b.accs 1 (free_id b.accs)) (λ b s. smallest-id b.accs (omega (arith, s))) (file_of (after fresh_desk cs) f) (eight-places f cs)

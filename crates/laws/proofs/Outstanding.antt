-- What requests count for, and the requests of a file's places after a change of its accessors.
use mathlib.Core.Path.{◌≡◌, refl, sym, ap, subst, ◌∙◌}
use mathlib.Core.List.{List}
use mathlib.Core.Option.{Option, none, some}
use Prim.Native.Nat.{ℕ, ◌≤◌}
use native.Mathlib.Omega.{arith}
use lib.ListN.{length, get_or, replicate, length-set}
use Rattle.rules.specs.Limits.{places}
use Rattle.rules.specs.State.{Req, idle, reading, writing, read_done, write_done, Acc, Built}
use Rattle.rules.specs.Requests.{acc_at, alter, with_accs, alter_acc, with_req}
use Rattle.rules.specs.Open.{enter}
use Rattle.rules.specs.Close.{vacate}
use Rattle.laws.specs.Changes.{Mild, Ends, read_ends, write_ends}
use Rattle.laws.specs.Outstanding.{req_of, req_at, waits_read, waits_write, uncollected, awaits, outstanding}
use Rattle.laws.proofs.Lists.{get_or-replicate-same}
use Rattle.laws.proofs.Accessors.{length-alter, get_or-alter-same, get_or-alter-other, alter-beside, enter-beside, vacate-beside}
use Rattle.laws.proofs.Counts.{at-or-else}

-- "One outstanding request per accessor"
pub outstanding-most : (q : Req) → outstanding q ≤ 1
unfolding waits_read waits_write uncollected
outstanding-most idle = omega arith
outstanding-most (reading q) = omega arith
outstanding-most (writing q) = omega arith
outstanding-most (read_done q) = omega arith
outstanding-most (write_done q) = omega arith

pub outstanding-idle : (q : Req) → q ≡ idle → outstanding q ≡ 0
unfolding waits_read waits_write uncollected
outstanding-idle q e = ap outstanding e

-- a request that completes waits no more, and is still outstanding
pub outstanding-ends : {st : ℕ} {r q : Req} → Ends st r q → (outstanding r ≡ 1) × (awaits q ≡ 0) × (outstanding q ≡ 1)
unfolding waits_read waits_write uncollected
outstanding-ends (read_ends e h n) = (refl, refl, refl)
outstanding-ends (write_ends e n) = (refl, refl, refl)

-- the accessors of a file

pub reqs-none : (x : ℕ) → req_at (replicate places none) x ≡ idle
unfolding req_of
reqs-none x = ap req_of (get_or-replicate-same none places x)

-- what depends on the requests at a file's places, as accessors change beside their requests, come and go

abbrev pub ByRequests : (Built → Type 0) → Type 0
ByRequests K = (l : List (Option Acc)) (b : Built) → length l ≡ length b.accs → ((x : ℕ) → req_at l x ≡ req_at b.accs x) → K b → K (with_accs l b)

abbrev Same : Option Acc → Option Acc → Type 0
Same o m = req_of o ≡ req_of m

module _ (K : Built → Type 0) (alike : ByRequests K) where
  pub mild-keeps : (p : ℕ) (f : Acc → Acc) (b : Built) → Mild f → K b → K (alter_acc p f b)
  unfolding alter_acc Mild req_of
  mild-keeps p f b m s = alike _ b (length-alter f b.accs p) (alter-beside Same (λ o. refl) f b.accs p (λ a _. (m a).3)) s

  pub enter-keeps : (a : Acc) (b : Built) → a.req ≡ idle → K b → K (enter a b)
  unfolding enter req_of
  enter-keeps a b i s = alike _ b (length-set b.accs _ _) (enter-beside Same (λ o. refl) a b.accs i) s

  pub vacate-keeps : (p : ℕ) (a : Acc) (b : Built) → acc_at b p ≡ some a → a.req ≡ idle → K b → K (vacate p b)
  unfolding vacate acc_at req_of
  vacate-keeps p a b e i s = alike _ b (length-set b.accs p none) (vacate-beside Same (λ o. refl) b.accs p (sym (ap req_of e ∙ i))) s

-- the request of the accessor at p is q now
module _ (q : Req) (a : Acc) (l : List (Option Acc)) (p : ℕ) (e : get_or l p none ≡ some a) where
  pub reqs-same : req_at (alter (with_req q) l p) p ≡ q
  unfolding req_of with_req
  reqs-same = ap req_of (get_or-alter-same (with_req q) a l p e)

  pub reqs-each : (P : ℕ → Req → Type 0) → P p q → ((x : ℕ) → (p ≡ x → ⊥) → P x (req_at l x)) → (x : ℕ) → P x (req_at (alter (with_req q) l p) x)
  reqs-each P h k x =
      at-or-else (λ y. P y (req_at (alter (with_req q) l p) y)) p x (subst (P p) (sym reqs-same) h)
      (λ n. rw (get_or-alter-other (with_req q) l p x n) (k x n))

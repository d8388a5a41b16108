-- Accessors after a change of one, where one enters, and where one leaves.
use mathlib.Core.Path.{◌≡◌, refl, ap}
use mathlib.Core.Bool.{Bool, true, false, cond, ◌&&◌}
use mathlib.Core.List.{List, [], ◌∷◌}
use mathlib.Core.Option.{Option, none, some, some-injective, none-ne-some}
use Prim.Native.Nat.{ℕ, zero, suc, ◌+◌, ◌≤◌}
use native.Mathlib.Omega.{arith}
use lib.Dec.{eqb}
use lib.ListN.{length, get_or, set}
use Rattle.rules.specs.State.{Req, Acc, Timer, Hap, arms, Built}
use Rattle.rules.specs.Store.{purge}
use Rattle.rules.specs.Buffers.{refilled}
use Rattle.rules.specs.Requests.{count_acc, is_writer, writers, opened, alter, with_accs, with_queues, with_timers, with_store, alter_acc, say, with_req, arm_in, requeue, arm, wait, with_buffers, request}
use Rattle.rules.specs.Open.{first_free, purged}
use Rattle.rules.proofs.Split.{both}

-- one of them changed

pub length-alter : (f : Acc → Acc) (l : List (Option Acc)) (p : ℕ) → length (alter f l p) ≡ length l
unfolding alter
length-alter f [] p = refl
length-alter f (none ∷ l) zero = refl
length-alter f (some a ∷ l) zero = refl
length-alter f (none ∷ l) (suc p) = ap suc (length-alter f l p)
length-alter f (some a ∷ l) (suc p) = ap suc (length-alter f l p)

pub get_or-alter-same : (f : Acc → Acc) (a : Acc) (l : List (Option Acc)) (p : ℕ) → get_or l p none ≡ some a → get_or (alter f l p) p none ≡ some (f a)
unfolding alter
get_or-alter-same f a [] p e = absurd (none-ne-some a e)
get_or-alter-same f a (none ∷ l) zero e = absurd (none-ne-some a e)
get_or-alter-same f a (some c ∷ l) zero e = cc (some-injective c a e)
get_or-alter-same f a (none ∷ l) (suc p) e = get_or-alter-same f a l p e
get_or-alter-same f a (some c ∷ l) (suc p) e = get_or-alter-same f a l p e

pub get_or-alter-other : (f : Acc → Acc) (l : List (Option Acc)) (p x : ℕ) → (p ≡ x → ⊥) → get_or (alter f l p) x none ≡ get_or l x none
unfolding alter
get_or-alter-other f [] p x h = refl
get_or-alter-other f (none ∷ l) zero x h = refl
get_or-alter-other f (some a ∷ l) zero zero h = absurd (h refl)
get_or-alter-other f (some a ∷ l) zero (suc x) h = refl
get_or-alter-other f (none ∷ l) (suc p) zero h = refl
get_or-alter-other f (none ∷ l) (suc p) (suc x) h = get_or-alter-other f l p x (λ e. h (ap suc e))
get_or-alter-other f (some a ∷ l) (suc p) zero h = refl
get_or-alter-other f (some a ∷ l) (suc p) (suc x) h = get_or-alter-other f l p x (λ e. h (ap suc e))

pub count_acc-alter : (t : Acc → Bool) (f : Acc → Acc) → ((a : Acc) → t (f a) ≡ t a) → (l : List (Option Acc)) (p : ℕ) → count_acc t (alter f l p) ≡ count_acc t l
unfolding count_acc alter
count_acc-alter t f h [] p = refl
count_acc-alter t f h (none ∷ l) zero = refl
count_acc-alter t f h (some a ∷ l) zero = rw h
count_acc-alter t f h (none ∷ l) (suc p) = count_acc-alter t f h l p
count_acc-alter t f h (some a ∷ l) (suc p) = rw (count_acc-alter t f h l p)

pub writers-with_req : (q : Req) (b : Built) (p : ℕ) → count_acc is_writer (alter (with_req q) b.accs p) ≡ writers b
unfolding with_req is_writer writers
writers-with_req q b p = count_acc-alter is_writer (with_req q) (λ a. refl) b.accs p

-- one enters; one leaves

pub count_acc-enter : (t : Acc → Bool) (a : Acc) (l : List (Option Acc)) → count_acc t (set l (first_free l) (some a)) ≤ count_acc t l + cond (t a) 1 0
unfolding count_acc first_free
count_acc-enter t a [] = omega arith
count_acc-enter t a (none ∷ l) = omega arith
count_acc-enter t a (some c ∷ l) = omega (arith, count_acc-enter t a l)

pub count_acc-vacate : (t : Acc → Bool) (a : Acc) (l : List (Option Acc)) (p : ℕ) → get_or l p none ≡ some a → count_acc t (set l p none) + cond (t a) 1 0 ≡ count_acc t l
unfolding count_acc
count_acc-vacate t a [] p e = absurd (none-ne-some a e)
count_acc-vacate t a (none ∷ l) zero e = absurd (none-ne-some a e)
count_acc-vacate t a (some c ∷ l) zero e = omega (arith, ap (λ (x : Acc). cond {A = ℕ} (t x) 1 0) (some-injective c a e))
count_acc-vacate t a (none ∷ l) (suc p) e = count_acc-vacate t a l p e
count_acc-vacate t a (some c ∷ l) (suc p) e = omega (arith, count_acc-vacate t a l p e)

-- every place after such a change, beside what it was

module _ (R : Option Acc → Option Acc → Type 0) (same : (o : Option Acc) → R o o) where
  pub alter-beside : (f : Acc → Acc) (l : List (Option Acc)) (p : ℕ) → ((a : Acc) → get_or l p none ≡ some a → R (some (f a)) (some a)) → (x : ℕ) → R (get_or (alter f l p) x none) (get_or l x none)
  unfolding alter
  alter-beside f [] p h x = same none
  alter-beside f (none ∷ l) zero h x = same _
  alter-beside f (some a ∷ l) zero h zero = h a refl
  alter-beside f (some a ∷ l) zero h (suc x) = same _
  alter-beside f (none ∷ l) (suc p) h zero = same none
  alter-beside f (none ∷ l) (suc p) h (suc x) = alter-beside f l p h x
  alter-beside f (some a ∷ l) (suc p) h zero = same (some a)
  alter-beside f (some a ∷ l) (suc p) h (suc x) = alter-beside f l p h x

  pub enter-beside : (a : Acc) (l : List (Option Acc)) → R (some a) none → (x : ℕ) → R (get_or (set l (first_free l) (some a)) x none) (get_or l x none)
  unfolding first_free
  enter-beside a [] h x = same none
  enter-beside a (none ∷ l) h zero = h
  enter-beside a (none ∷ l) h (suc x) = same _
  enter-beside a (some c ∷ l) h zero = same (some c)
  enter-beside a (some c ∷ l) h (suc x) = enter-beside a l h x

  pub vacate-beside : (l : List (Option Acc)) (p : ℕ) → R none (get_or l p none) → (x : ℕ) → R (get_or (set l p none) x none) (get_or l x none)
  vacate-beside [] p h x = same none
  vacate-beside (o ∷ l) zero h zero = h
  vacate-beside (o ∷ l) zero h (suc x) = same _
  vacate-beside (o ∷ l) (suc p) h zero = same o
  vacate-beside (o ∷ l) (suc p) h (suc x) = vacate-beside l p h x

-- changes that depend on a test

pub arm-keeps : (I : Built → Type 0) (p n : ℕ) (b : Built) → I b → I (say (arms p n ∷ []) (with_timers (arm_in (record { place = p; left = n }) b.timers) b)) → I (arm p n b)
unfolding arm
arm-keeps I p n b s h = both I (eqb n 0) (λ _. s) (λ _. h)

pub wait-keeps : (I : Built → Type 0) (side : Bool) (p n : ℕ) (q : Req) (b : Built)
    → ((r w : List ℕ) (ts : List Timer) (hs : List Hap) → I (record { geo = b.geo; store = b.store; accs = alter (with_req q) b.accs p; buffers = refilled p q b.buffers; rq = r; wq = w; timers = ts; past = hs })) → I (wait side p n q b)
unfolding wait say with_timers requeue request with_buffers alter_acc with_accs with_queues
wait-keeps I true p n q b h = arm-keeps I p n _ (h _ _ _ _) (h _ _ _ _)
wait-keeps I false p n q b h = arm-keeps I p n _ (h _ _ _ _) (h _ _ _ _)

pub purged-keeps : (I : Built → Type 0) (access : ℕ) (b : Built) → ((hs : List Hap) → I (say hs (with_store (purge b.geo b.store) b))) → I b → I (purged access b)
unfolding purged
purged-keeps I access b h s = both I (eqb access 1 && eqb (opened b) 0) (λ _. h _) (λ _. s)

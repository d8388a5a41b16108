-- What happens at a place of file f, in the file and in the allocation: the two agree after it, and the other files have what they had.
use mathlib.Core.Path.{◌≡◌, refl, sym, ap, ap₂, ◌∙◌}
use mathlib.Core.List.{List}
use mathlib.Core.Option.{Option, none, some, none-ne-some}
use Prim.Native.Nat.{ℕ, ◌+◌, ◌*◌, ◌/◌, ◌%◌, ◌≤◌, ◌<◌}
use native.Mathlib.Omega.{arith}
use native.Mathlib.Decide.{dec_lt}
use lib.ListN.{length, get_or, get_or-eq_default}
use Rattle.rules.specs.Limits.{files, places}
use Rattle.rules.specs.State.{Req, Acc, Timer, waits, arms, ends}
use Rattle.rules.specs.Requests.{alter, with_req, arm_in, without_timer}
use Rattle.rules.specs.Allocation.{nothing, own, timed, Alloc, place_of, held_at, holds, with_clock, take_own, take_timer, ends_at, goes_at, own_entry, allot}
use Rattle.laws.specs.Outstanding.{req_of, awaits, outstanding, req_at}
use Rattle.laws.specs.Changes.{Ends}
use Rattle.laws.specs.Counts.{count_t}
use Rattle.laws.specs.Timers.{Clock}
use Rattle.laws.specs.Entries.{entries_of, size, Whole, local, sieve, Agrees}
use Rattle.laws.specs.Midst.{Steps, Matches}
use Rattle.laws.proofs.Accessors.{length-alter, get_or-alter-other}
use Rattle.occurrences.proofs.Counts.{bit-eq, bit-ne}
use Rattle.laws.proofs.Counts.{at-or-else}
use Rattle.laws.proofs.Clock.{count_t-arm_in, count_t-without_timer-same, count_t-without_timer-other, clock-without_timer, clock-arm_in}
use Rattle.laws.proofs.Outstanding.{outstanding-ends, reqs-same}
use Rattle.laws.proofs.Sieve.{sieve-arm_in, sieve-arm_in-other, sieve-without_timer, sieve-without_timer-other, count_t-sieve}
use Rattle.laws.proofs.Taken.{is-nothing, is-own, size-untimed}
use Rattle.laws.proofs.Allots.{free-least, whole-with_clock, held_at-with_clock, steps-take_own, held_at-take_own, steps-take_timer, held_at-take_timer, steps-ends, held_at-ends, clock-ends, steps-goes, held_at-goes, clock-goes}

-- places

-- A place of a file is one of the desk's.
pub place-of-desk : (f p : ℕ) → f < files → p < places → place_of f p < files * places
unfolding place_of
place-of-desk f p hf hp = omega arith

pub place-file : (f p : ℕ) → p < places → place_of f p / places ≡ f
unfolding place_of
place-file f p hp = omega arith

place-local : (f p n : ℕ) → p < places → local (record { place = place_of f p; left = n }) ≡ record { place = p; left = n }
unfolding local place_of
place-local f p n hp = let e : (places * f + p) % places ≡ p = omega arith in rw e

-- an accessor stands at one of the eight places
pub open-below : (l : List (Option Acc)) (p : ℕ) (a : Acc) → length l ≡ places → get_or l p none ≡ some a → p < places
open-below l p a n e = go (dec_lt p places)
  where
    go : Dec (p < places) → p < places
    go (yes h) = h
    go (no h) = absurd (none-ne-some a (sym (get_or-eq_default l none (omega arith)) ∙ e))

-- every change at one place
module _ (f p : ℕ) (hp : p < places) (s t u : Alloc) (l m : List (Option Acc)) (ts us : List Timer) where
  changed : Matches f s t l ts → Steps (place_of f p) t u → Clock u.clock → sieve f u.clock ≡ us → ((g : ℕ) → (g ≡ f → ⊥) → sieve g u.clock ≡ sieve g t.clock)
      → length m ≡ length l → ((x : ℕ) → (p ≡ x → ⊥) → get_or m x none ≡ get_or l x none) → ((x : ℕ) → (p ≡ x → ⊥) → count_t x us ≡ count_t x ts)
      → size (held_at u (place_of f p)) ≡ outstanding (req_at m p) + count_t p us → count_t p us ≤ awaits (req_at m p)
      → Matches f s u m us
  changed M c k own-clock others n accs times h w = record {
    agrees = record {
      holds = λ x. at-or-else (λ y. y < places → size (held_at u (place_of f y)) ≡ outstanding (req_at m y) + count_t y us) p x (λ _. h)
          (λ d b. rw (c.others (place_of f x) (apart_from x d), accs x d, times x d) (M.agrees.holds x b));
      timed = λ x. at-or-else (λ y. count_t y us ≤ awaits (req_at m y)) p x w (λ d. rw (accs x d, times x d) (M.agrees.timed x));
      clock = own-clock;
      eight = n ∙ M.agrees.eight;
    };
    whole = c.whole;
    clock = k;
    apart = record { held = λ i d. c.others i (λ e. d (rw e (place-file f p hp))) ∙ M.apart.held i d; clock = λ g d. others g d ∙ M.apart.clock g d };
  }
    where
      apart_from : (x : ℕ) → (p ≡ x → ⊥) → place_of f x ≡ place_of f p → ⊥
      apart_from x d e = d (unfold place_of in omega arith)

module _ (f p : ℕ) (hf : f < files) (s t : Alloc) (l : List (Option Acc)) (ts : List Timer) (M : Matches f s t l ts) where
  abbrev i : ℕ
  i = place_of f p

  module _ (hp : p < places) where
    -- a place where nothing is outstanding holds nothing, and leaves two entries free
    pub idle-holds : outstanding (req_at l p) ≡ 0 → (held_at t i ≡ nothing) × (2 ≤ length t.free) × (count_t p ts ≡ 0)
    idle-holds e =
        let n : count_t p ts ≡ 0 = omega (arith, M.agrees.timed p) in
        let h = is-nothing (held_at t i) (omega (arith, M.agrees.holds p hp)) in
        (h, free-least t i M.whole (place-of-desk f p hf hp) h, n)

    -- only a place that holds two has a timer on the clock
    one-timer : outstanding (req_at l p) ≡ 1 → size (held_at t i) ≤ 1 → count_t i t.clock ≡ 0
    one-timer o k = omega (arith, count_t-sieve f p t.clock hp, ap (count_t p) M.agrees.clock, M.agrees.holds p hp)

  -- the request of the accessor a at p becomes q
  module _ (a : Acc) (e : get_or l p none ≡ some a) (q : Req) where
    hp : p < places
    hp = open-below l p a M.agrees.eight e

    hi : i < files * places
    hi = place-of-desk f p hf hp

    was : (n : ℕ) → outstanding a.req ≡ n → outstanding (req_at l p) ≡ n
    unfolding req_of
    was n o = ap outstanding (ap req_of e) ∙ o

    new : req_at (alter (with_req q) l p) p ≡ q
    new = reqs-same q a l p e

    -- the request begins to wait
    pub matches-waits : outstanding a.req ≡ 0 → outstanding q ≡ 1 → Matches f s (allot f (waits p) t) (alter (with_req q) l p) ts
    unfolding allot entries_of
    matches-waits o k =
        let z = idle-holds hp (was 0 o) in
        let c : (take_own i t).clock ≡ t.clock = unfold take_own holds in refl in
        changed f p hp s t (take_own i t) l (alter (with_req q) l p) ts ts M
        (steps-take_own i t M.whole hi z.0 (omega arith))
        (rw c M.clock) (rw c M.agrees.clock) (λ g d. rw c)
        (length-alter (with_req q) l p) (get_or-alter-other (with_req q) l p) (λ x d. refl)
        (omega (arith, k, ap outstanding new, ap size (held_at-take_own i t M.whole hi), z.2))
        (omega (arith, z.2))

    -- the request leaves its queue, and its timer goes
    matches-leaves : (u : Alloc) → Steps i t u → u.clock ≡ without_timer i t.clock → size (held_at u i) ≡ outstanding q → Matches f s u (alter (with_req q) l p) (without_timer p ts)
    matches-leaves u c d h =
        let z = count_t-without_timer-same p ts in
        changed f p hp s t u l (alter (with_req q) l p) ts (without_timer p ts) M c
        (rw d (clock-without_timer i t.clock M.clock)) (rw (d, sieve-without_timer f p t.clock hp, M.agrees.clock))
        (λ g n. rw (d, sieve-without_timer-other g i t.clock (λ y. n (sym y ∙ place-file f p hp))))
        (length-alter (with_req q) l p) (get_or-alter-other (with_req q) l p) (λ x n. count_t-without_timer-other p x ts n)
        (omega (arith, ap outstanding new)) (omega arith)

    -- completed
    pub matches-ends : (st : ℕ) (r : Req) → a.req ≡ r → Ends st r q → Matches f s (allot f (ends p st) t) (alter (with_req q) l p) (without_timer p ts)
    unfolding allot
    matches-ends st r h k =
        let o = was 1 (ap outstanding h ∙ (outstanding-ends k).0) in
        matches-leaves (ends_at i t) (steps-ends i t M.whole hi) (clock-ends i t (one-timer hp o))
        (omega (arith, ap size (held_at-ends i t M.whole hi), size-untimed (held_at t i) (omega (arith, M.agrees.holds p hp)), outstanding-ends k))

    -- cancelled, or collected
    pub matches-goes : outstanding a.req ≡ 1 → outstanding q ≡ 0 → Matches f s (goes_at i t) (alter (with_req q) l p) (without_timer p ts)
    unfolding entries_of
    matches-goes o k =
        matches-leaves (goes_at i t) (steps-goes i t M.whole hi) (clock-goes i t (one-timer hp (was 1 o)))
        (omega (arith, ap size (held_at-goes i t M.whole hi)))

  -- a timer is armed for the request that waits at p without one
  pub matches-arms : (n : ℕ) → p < places → awaits (req_at l p) ≡ 1 → outstanding (req_at l p) ≡ 1 → count_t p ts ≡ 0 → 1 ≤ length t.free → Matches f s (allot f (arms p n) t) l (arm_in (record { place = p; left = n }) ts)
  unfolding allot entries_of
  matches-arms n b w o z k =
      let hi : i < files * places = place-of-desk f p hf b in
      let new : Timer = record { place = i; left = n } in
      let h : held_at t i ≡ own (own_entry (held_at t i)) = is-own (held_at t i) (omega (arith, M.agrees.holds p b)) in
      let u : Alloc = take_timer i (held_at t i) t in
      let st : Steps i t u = steps-take_timer i t M.whole hi _ h k in
      let v : Alloc = with_clock (arm_in new t.clock) u in
      let c : count_t p (arm_in (record { place = p; left = n }) ts) ≡ 1 = omega (arith, count_t-arm_in p (record { place = p; left = n }) ts, bit-eq p p refl) in
      changed f p b s t v l l ts (arm_in (record { place = p; left = n }) ts) M
      (record { whole = whole-with_clock _ u st.whole; others = λ j d. held_at-with_clock _ u j ∙ st.others j d })
      (unfold with_clock in clock-arm_in new t.clock hi M.clock)
      (unfold with_clock in sieve-arm_in f new 0 t.clock (place-file f p b) M.clock.sorted ∙ ap₂ arm_in (place-local f p n b) M.agrees.clock)
      (λ g d. unfold with_clock in sieve-arm_in-other g new t.clock (λ y. d (sym y ∙ place-file f p b)))
      refl (λ x d. refl) (λ x d. omega (arith, count_t-arm_in x (record { place = p; left = n }) ts, bit-ne p x d))
      (omega (arith, ap size (held_at-with_clock (arm_in new t.clock) u i ∙ held_at-take_timer i t M.whole hi _ h), c))
      (omega (arith, c))

-- requests are as they were
pub matches-alike : (f : ℕ) (s t : Alloc) (l m : List (Option Acc)) (ts : List Timer) → length m ≡ length l → ((x : ℕ) → req_at m x ≡ req_at l x) → Matches f s t l ts → Matches f s t m ts
matches-alike f s t l m ts n h M = record {
  agrees = record { holds = λ x b. rw (h x) (M.agrees.holds x b); timed = λ x. rw (h x) (M.agrees.timed x); clock = M.agrees.clock; eight = n ∙ M.agrees.eight };
  whole = M.whole;
  clock = M.clock;
  apart = M.apart;
}

-- allocation and file match where nothing has happened yet
pub matches-now : (f : ℕ) (t : Alloc) (l : List (Option Acc)) (ts : List Timer) → Agrees f t l ts → Whole t → Clock t.clock → Matches f t t l ts
matches-now f t l ts a w c = record { agrees = a; whole = w; clock = c; apart = record { held = λ i d. refl; clock = λ g d. refl } }

-- Lists of timers: how many a place has, and their order, when one is armed or goes and when time is taken off.
use mathlib.Core.Path.{◌≡◌, refl, ◌∙◌}
use mathlib.Core.List.{List, [], ◌∷◌, map}
use Prim.Native.Nat.{ℕ, ◌+◌, ◌-◌, ◌*◌, ◌≤◌, ◌<◌}
use native.Mathlib.Omega.{arith}
use lib.Dec.{leb, eqb}
use borrow.Author.Tests.{leb-true, leb-false, le-leb, lt-leb, eq-eqb, ne_eqb}
use Rattle.rules.specs.Limits.{files, places}
use Rattle.rules.specs.State.{Timer}
use Rattle.rules.specs.Requests.{arm_in, without, without_timer}
use Rattle.rules.specs.Time.{minus}
use Rattle.rules.proofs.Split.{by_cases, bothc}
use Rattle.occurrences.specs.Count.{bit, count}
use Rattle.laws.specs.Counts.{places_of, count_t}
use Rattle.laws.specs.Timers.{Sorted, Clock}
use Rattle.occurrences.proofs.Counts.{bit-ne}
use Rattle.laws.proofs.Counts.{at-or-else, count-without-same, count-without-other}

-- one clause of `arm_in` and of `without_timer`

pub arm_in-past : (t u : Timer) (ts : List Timer) → u.left ≤ t.left → arm_in t (u ∷ ts) ≡ u ∷ arm_in t ts
unfolding arm_in
arm_in-past t u ts h = rw (le-leb u.left t.left h)

pub arm_in-here : (t u : Timer) (ts : List Timer) → t.left < u.left → arm_in t (u ∷ ts) ≡ t ∷ u ∷ ts
unfolding arm_in
arm_in-here t u ts h = rw (lt-leb u.left t.left h)

pub without_timer-in : (p : ℕ) (t : Timer) (ts : List Timer) → t.place ≡ p → without_timer p (t ∷ ts) ≡ without_timer p ts
unfolding without_timer
without_timer-in p t ts h = rw (eq-eqb t.place p h)

pub without_timer-out : (p : ℕ) (t : Timer) (ts : List Timer) → (t.place ≡ p → ⊥) → without_timer p (t ∷ ts) ≡ t ∷ without_timer p ts
unfolding without_timer
without_timer-out p t ts h = rw (ne_eqb t.place p h)

-- how many

pub count_t-arm_in : (x : ℕ) (t : Timer) (ts : List Timer) → count_t x (arm_in t ts) ≡ bit (eqb t.place x) + count_t x ts
unfolding arm_in count_t places_of count
count_t-arm_in x t [] = refl
count_t-arm_in x t (u ∷ ts) =
    let ih = count_t-arm_in x t ts in
    bothc (λ (l : List Timer). count_t x l ≡ bit (eqb t.place x) + count_t x (u ∷ ts)) (leb u.left t.left) (λ _. omega (arith, ih)) (λ _. refl)

places_of-without_timer : (p : ℕ) (ts : List Timer) → places_of (without_timer p ts) ≡ without p (places_of ts)
unfolding places_of without_timer without
places_of-without_timer p [] = refl
places_of-without_timer p (t ∷ ts) = by_cases (eqb t.place p) (λ e. rw e (places_of-without_timer p ts)) (λ e. rw (e, places_of-without_timer p ts))

pub count_t-without_timer-same : (p : ℕ) (ts : List Timer) → count_t p (without_timer p ts) ≡ 0
unfolding count_t
count_t-without_timer-same p ts = rw (places_of-without_timer p ts) (count-without-same p (places_of ts))

pub count_t-without_timer-other : (p x : ℕ) (ts : List Timer) → (p ≡ x → ⊥) → count_t x (without_timer p ts) ≡ count_t x ts
unfolding count_t
count_t-without_timer-other p x ts h = rw (places_of-without_timer p ts) (count-without-other p x (places_of ts) h)

pub count_t-minus : (e x : ℕ) (ts : List Timer) → count_t x (map (minus e) ts) ≡ count_t x ts
unfolding count_t places_of count minus
count_t-minus e x [] = refl
count_t-minus e x (t ∷ ts) = omega (arith, count_t-minus e x ts)

-- a place without a timer has none that could go
pub without_timer-absent : (p : ℕ) (ts : List Timer) → count_t p ts ≡ 0 → without_timer p ts ≡ ts
unfolding without_timer count_t places_of count
without_timer-absent p [] h = refl
without_timer-absent p (t ∷ ts) h = by_cases (eqb t.place p)
    (λ k. let z : 1 + count_t p ts ≡ 0 = rw k at h in absurd (omega arith))
    (λ k. let z : 0 + count_t p ts ≡ 0 = rw k at h in rw (k, without_timer-absent p ts (omega arith)))

-- their order

pub sorted-lower : (a b : ℕ) (ts : List Timer) → a ≤ b → Sorted b ts → Sorted a ts
unfolding Sorted
sorted-lower a b [] h s = tt
sorted-lower a b (t ∷ ts) h s = (omega (arith, s.0), s.1)

pub sorted-without_timer : (p lo : ℕ) (ts : List Timer) → Sorted lo ts → Sorted lo (without_timer p ts)
unfolding Sorted without_timer
sorted-without_timer p lo [] s = tt
sorted-without_timer p lo (t ∷ ts) s =
    let ih = sorted-without_timer p t.left ts s.1 in
    bothc (Sorted lo) (eqb t.place p) (λ _. sorted-lower lo t.left (without_timer p ts) s.0 ih) (λ _. (s.0, ih))

pub sorted-arm_in : (t : Timer) (lo : ℕ) (ts : List Timer) → lo ≤ t.left → Sorted lo ts → Sorted lo (arm_in t ts)
unfolding Sorted arm_in
sorted-arm_in t lo [] h s = (h, tt)
sorted-arm_in t lo (u ∷ ts) h s =
    bothc (Sorted lo) (leb u.left t.left)
    (λ e. (s.0, sorted-arm_in t u.left ts (leb-true _ _ e) s.1))
    (λ e. (h, (omega (arith, leb-false u.left t.left e), s.1)))

pub sorted-minus : (e lo : ℕ) (ts : List Timer) → Sorted lo ts → Sorted (lo - e) (map (minus e) ts)
unfolding Sorted minus
sorted-minus e lo [] s = tt
sorted-minus e lo (t ∷ ts) s = (omega (arith, s.0), sorted-minus e t.left ts s.1)

-- a clock stays one

pub clock-without_timer : (p : ℕ) (ts : List Timer) → Clock ts → Clock (without_timer p ts)
clock-without_timer p ts c = record {
  sorted = sorted-without_timer p 0 ts c.sorted;
  within = λ x h. at-or-else (λ y. files * places ≤ y → count_t y (without_timer p ts) ≡ 0) p x (λ _. count_t-without_timer-same p ts) (λ n k. count_t-without_timer-other p x ts n ∙ c.within x k) h;
}

pub clock-arm_in : (t : Timer) (ts : List Timer) → t.place < files * places → Clock ts → Clock (arm_in t ts)
clock-arm_in t ts h c = record {
  sorted = sorted-arm_in t 0 ts (omega arith) c.sorted;
  within = λ x k. omega (arith, count_t-arm_in x t ts, bit-ne t.place x (λ e. omega arith), c.within x k);
}

pub clock-minus : (e : ℕ) (ts : List Timer) → Clock ts → Clock (map (minus e) ts)
clock-minus e ts c =
    let z : 0 - e ≡ 0 = omega arith in
    record { sorted = rw z at (sorted-minus e 0 ts c.sorted); within = λ x h. count_t-minus e x ts ∙ c.within x h }

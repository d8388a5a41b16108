-- Each file's timers among those of the desk: a timer armed, one that goes, time taken off, and which are due.
use mathlib.Core.Path.{◌≡◌, refl, sym, ◌∙◌}
use mathlib.Core.List.{List, [], ◌∷◌, map}
use Prim.Native.Nat.{ℕ, ◌*◌, ◌/◌, ◌%◌, ◌≤◌, ◌<◌}
use native.Mathlib.Omega.{arith}
use native.Mathlib.Decide.{ℕ_discrete, dec_le, dec_lt}
use borrow.Author.Tests.{le-leb, lt-leb, eq-eqb, ne_eqb}
use Rattle.rules.specs.Limits.{files, places}
use Rattle.rules.specs.State.{Timer}
use Rattle.rules.specs.Requests.{arm_in, without_timer}
use Rattle.rules.specs.Time.{minus, due}
use Rattle.rules.specs.Allocation.{place_of}
use Rattle.occurrences.specs.Count.{count}
use Rattle.laws.specs.Counts.{places_of, count_t}
use Rattle.laws.specs.Timers.{Sorted, Clock}
use Rattle.laws.specs.Entries.{local, sieve}
use Rattle.laws.specs.Midst.{here}
use Rattle.occurrences.proofs.Counts.{bit-eq, bit-ne}
use Rattle.laws.proofs.Clock.{arm_in-past, arm_in-here, without_timer-in, without_timer-out, sorted-lower}

-- one clause of `sieve`

sieve-in : (f : ℕ) (t : Timer) (ts : List Timer) → t.place / places ≡ f → sieve f (t ∷ ts) ≡ local t ∷ sieve f ts
unfolding sieve
sieve-in f t ts h = rw (eq-eqb (t.place / places) f h)

sieve-out : (f : ℕ) (t : Timer) (ts : List Timer) → (t.place / places ≡ f → ⊥) → sieve f (t ∷ ts) ≡ sieve f ts
unfolding sieve
sieve-out f t ts h = rw (ne_eqb (t.place / places) f h)

pub sorted-sieve : (f lo : ℕ) (ts : List Timer) → Sorted lo ts → Sorted lo (sieve f ts)
unfolding Sorted
sorted-sieve f lo [] s = unfold sieve in tt
sorted-sieve f lo (t ∷ ts) s = go (ℕ_discrete (t.place / places) f) (sorted-sieve f t.left ts s.1)
  where
    go : Dec (t.place / places ≡ f) → Sorted t.left (sieve f ts) → Sorted lo (sieve f (t ∷ ts))
    go (yes e) r = rw (sieve-in f t ts e) (unfold local in (s.0, r))
    go (no d) r = rw (sieve-out f t ts d) (sorted-lower lo t.left (sieve f ts) s.0 r)

-- if in each file every timer has something left, so has every timer of the desk
pub sorted-sieves : (ts : List Timer) → Clock ts → ((f : ℕ) → f < files → Sorted 1 (sieve f ts)) → Sorted 1 ts
unfolding Sorted local count_t places_of count
sorted-sieves [] c h = tt
sorted-sieves (t ∷ ts) c h = (own (dec_lt t.place (files * places)), c.sorted.1)
  where
    own : Dec (t.place < files * places) → 1 ≤ t.left
    own (yes k) =
        let s : Sorted 1 (local t ∷ sieve (t.place / places) ts) = rw (sieve-in (t.place / places) t ts refl) at (h (t.place / places) (omega arith)) in
        s.0
    own (no k) = absurd (omega (arith, c.within t.place (omega arith), bit-eq t.place t.place refl))

-- a timer is armed in its file

-- a timer that has less left than any goes in front
arm_in-front : (t : Timer) (lo : ℕ) (ts : List Timer) → Sorted lo ts → t.left < lo → arm_in t ts ≡ t ∷ ts
unfolding Sorted
arm_in-front t lo [] s h = unfold arm_in in refl
arm_in-front t lo (u ∷ ts) s h = arm_in-here t u ts (omega (arith, s.0))

pub sieve-arm_in : (f : ℕ) (t : Timer) (lo : ℕ) (ts : List Timer) → t.place / places ≡ f → Sorted lo ts → sieve f (arm_in t ts) ≡ arm_in (local t) (sieve f ts)
unfolding Sorted
sieve-arm_in f t lo [] e s = unfold arm_in in sieve-in f t [] e ∙ (unfold sieve in refl)
sieve-arm_in f t lo (u ∷ ts) e s = go (dec_le u.left t.left) (ℕ_discrete (u.place / places) f) (sieve-arm_in f t u.left ts e s.1)
  where
    go : Dec (u.left ≤ t.left) → Dec (u.place / places ≡ f) → sieve f (arm_in t ts) ≡ arm_in (local t) (sieve f ts) → sieve f (arm_in t (u ∷ ts)) ≡ arm_in (local t) (sieve f (u ∷ ts))
    go (yes h) (yes k) r = rw (arm_in-past t u ts h, sieve-in f u (arm_in t ts) k, sieve-in f u ts k, arm_in-past (local t) (local u) (sieve f ts) (unfold local in h), r)
    go (yes h) (no k) r = rw (arm_in-past t u ts h, sieve-out f u (arm_in t ts) k, sieve-out f u ts k, r)
    go (no h) k r =
        rw (arm_in-here t u ts (omega arith), sieve-in f t (u ∷ ts) e)
        (sym (arm_in-front (local t) u.left (sieve f (u ∷ ts)) (sorted-sieve f u.left (u ∷ ts) (unfold Sorted in (omega arith, s.1))) (unfold local in omega arith)))

-- the timer of one file is not among those of another
pub sieve-arm_in-other : (f : ℕ) (t : Timer) (ts : List Timer) → (t.place / places ≡ f → ⊥) → sieve f (arm_in t ts) ≡ sieve f ts
sieve-arm_in-other f t [] e = unfold arm_in in sieve-out f t [] e
sieve-arm_in-other f t (u ∷ ts) e = go (dec_le u.left t.left) (ℕ_discrete (u.place / places) f) (sieve-arm_in-other f t ts e)
  where
    go : Dec (u.left ≤ t.left) → Dec (u.place / places ≡ f) → sieve f (arm_in t ts) ≡ sieve f ts → sieve f (arm_in t (u ∷ ts)) ≡ sieve f (u ∷ ts)
    go (yes h) (yes k) r = rw (arm_in-past t u ts h, sieve-in f u (arm_in t ts) k, sieve-in f u ts k, r)
    go (yes h) (no k) r = rw (arm_in-past t u ts h, sieve-out f u (arm_in t ts) k, sieve-out f u ts k, r)
    go (no h) k r = rw (arm_in-here t u ts (omega arith)) (sieve-out f t (u ∷ ts) e)

-- one goes

pub sieve-without_timer : (f p : ℕ) (ts : List Timer) → p < places → sieve f (without_timer (place_of f p) ts) ≡ without_timer p (sieve f ts)
sieve-without_timer f p [] h = unfold without_timer sieve in refl
sieve-without_timer f p (t ∷ ts) h = go (ℕ_discrete t.place (place_of f p)) (ℕ_discrete (t.place / places) f) (sieve-without_timer f p ts h)
  where
    go : Dec (t.place ≡ place_of f p) → Dec (t.place / places ≡ f) → sieve f (without_timer (place_of f p) ts) ≡ without_timer p (sieve f ts)
        → sieve f (without_timer (place_of f p) (t ∷ ts)) ≡ without_timer p (sieve f (t ∷ ts))
    go (yes e) (yes k) r = rw (without_timer-in (place_of f p) t ts e, sieve-in f t ts k, without_timer-in p (local t) (sieve f ts) (unfold local place_of in omega arith)) r
    go (yes e) (no k) r = absurd (k (unfold place_of in omega arith))
    go (no e) (yes k) r =
        rw (without_timer-out (place_of f p) t ts e, sieve-in f t ts k, sieve-in f t (without_timer (place_of f p) ts) k, without_timer-out p (local t) (sieve f ts) (unfold local place_of in (λ u. e (omega arith))), r)
    go (no e) (no k) r = rw (without_timer-out (place_of f p) t ts e, sieve-out f t ts k, sieve-out f t (without_timer (place_of f p) ts) k) r

pub sieve-without_timer-other : (f i : ℕ) (ts : List Timer) → (i / places ≡ f → ⊥) → sieve f (without_timer i ts) ≡ sieve f ts
sieve-without_timer-other f i [] h = unfold without_timer in refl
sieve-without_timer-other f i (t ∷ ts) h = go (ℕ_discrete t.place i) (ℕ_discrete (t.place / places) f) (sieve-without_timer-other f i ts h)
  where
    go : Dec (t.place ≡ i) → Dec (t.place / places ≡ f) → sieve f (without_timer i ts) ≡ sieve f ts → sieve f (without_timer i (t ∷ ts)) ≡ sieve f (t ∷ ts)
    go (yes e) (yes k) r = absurd (h (rw (← e) k))
    go (yes e) (no k) r = rw (without_timer-in i t ts e, sieve-out f t ts k) r
    go (no e) (yes k) r = rw (without_timer-out i t ts e, sieve-in f t ts k, sieve-in f t (without_timer i ts) k, r)
    go (no e) (no k) r = rw (without_timer-out i t ts e, sieve-out f t ts k, sieve-out f t (without_timer i ts) k) r

-- a place has as many timers on the desk as in its file
pub count_t-sieve : (f p : ℕ) (ts : List Timer) → p < places → count_t (place_of f p) ts ≡ count_t p (sieve f ts)
count_t-sieve f p [] h = unfold count_t places_of count sieve in refl
count_t-sieve f p (t ∷ ts) h = go (ℕ_discrete t.place (place_of f p)) (ℕ_discrete (t.place / places) f) (count_t-sieve f p ts h)
  where
    go : Dec (t.place ≡ place_of f p) → Dec (t.place / places ≡ f) → count_t (place_of f p) ts ≡ count_t p (sieve f ts) → count_t (place_of f p) (t ∷ ts) ≡ count_t p (sieve f (t ∷ ts))
    go (yes e) (yes k) r = rw (sieve-in f t ts k) (unfold count_t places_of count in omega (arith, bit-eq t.place (place_of f p) e, bit-eq (local t).place p (unfold local place_of in omega arith)))
    go (yes e) (no k) r = absurd (k (unfold place_of in omega arith))
    go (no e) (yes k) r = rw (sieve-in f t ts k) (unfold count_t places_of count in omega (arith, bit-ne t.place (place_of f p) e, bit-ne (local t).place p (unfold local place_of in (λ u. e (omega arith)))))
    go (no e) (no k) r = rw (sieve-out f t ts k) (unfold count_t places_of count in omega (arith, bit-ne t.place (place_of f p) e))

-- time

pub sieve-minus : (e f : ℕ) (ts : List Timer) → sieve f (map (minus e) ts) ≡ map (minus e) (sieve f ts)
sieve-minus e f [] = unfold sieve in refl
sieve-minus e f (t ∷ ts) = go (ℕ_discrete (t.place / places) f) (sieve-minus e f ts)
  where
    go : Dec (t.place / places ≡ f) → sieve f (map (minus e) ts) ≡ map (minus e) (sieve f ts) → sieve f (map (minus e) (t ∷ ts)) ≡ map (minus e) (sieve f (t ∷ ts))
    go (yes k) r = rw (sieve-in f t ts k, sieve-in f (minus e t) (map (minus e) ts) (unfold minus in k), r) (unfold minus local in refl)
    go (no k) r = rw (sieve-out f t ts k, sieve-out f (minus e t) (map (minus e) ts) (unfold minus in k)) r

pub here_in : (f i : ℕ) (l : List ℕ) → i / places ≡ f → here f (i ∷ l) ≡ i % places ∷ here f l
unfolding here
here_in f i l h = rw (eq-eqb (i / places) f h)

pub here_out : (f i : ℕ) (l : List ℕ) → (i / places ≡ f → ⊥) → here f (i ∷ l) ≡ here f l
unfolding here
here_out f i l h = rw (ne_eqb (i / places) f h)

due_in : (e : ℕ) (t : Timer) (ts : List Timer) → t.left ≤ e → due e (t ∷ ts) ≡ t.place ∷ due e ts
unfolding due
due_in e t ts h = rw (le-leb t.left e h)

due-out : (e : ℕ) (t : Timer) (ts : List Timer) → e < t.left → due e (t ∷ ts) ≡ due e ts
unfolding due
due-out e t ts h = rw (lt-leb t.left e h)

pub here-due : (e f : ℕ) (ts : List Timer) → here f (due e ts) ≡ due e (sieve f ts)
here-due e f [] = unfold due here sieve in refl
here-due e f (t ∷ ts) = go (dec_le t.left e) (ℕ_discrete (t.place / places) f) (here-due e f ts)
  where
    go : Dec (t.left ≤ e) → Dec (t.place / places ≡ f) → here f (due e ts) ≡ due e (sieve f ts) → here f (due e (t ∷ ts)) ≡ due e (sieve f (t ∷ ts))
    go (yes h) (yes k) r = rw (due_in e t ts h, here_in f t.place (due e ts) k, sieve-in f t ts k, due_in e (local t) (sieve f ts) (unfold local in h), r) (unfold local in refl)
    go (yes h) (no k) r = rw (due_in e t ts h, here_out f t.place (due e ts) k, sieve-out f t ts k) r
    go (no h) (yes k) r = rw (due-out e t ts (omega arith), sieve-in f t ts k, due-out e (local t) (sieve f ts) (unfold local in omega arith)) r
    go (no h) (no k) r = rw (due-out e t ts (omega arith), sieve-out f t ts k) r

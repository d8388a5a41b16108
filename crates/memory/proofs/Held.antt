-- What a place holds, counted by its request and its timers.
use Prim.Native.Nat.{ℕ, ◌+◌, ◌*◌, ◌/◌, ◌%◌, ◌≤◌, ◌<◌}
use mathlib.Core.Path.{◌≡◌, refl, sym, ap, ◌∙◌}
use mathlib.Core.Bool.{cond}
use mathlib.Core.List.{List, [], ◌∷◌, map}
use native.Mathlib.Omega.{arith}
use native.Mathlib.Nat.{zero-mul, one-mul}
use native.Mathlib.Decide.{ℕ_discrete}
use lib.Dec.{eqb}
use lib.ListN.{length, get_or}
use borrow.Author.Tests.{eq-eqb, ne_eqb}
use Rattle.occurrences.specs.Count.{bit, count}
use Rattle.occurrences.proofs.Counts.{count-append}
use Rattle.rules.specs.Limits.{places}
use Rattle.rules.specs.State.{Req, idle, reading, writing, read_done, write_done, Timer}
use Rattle.rules.specs.Allocation.{Held, nothing, own, timed, Alloc, place_of, held_at, own_entry, timer_entry, port_of}
use Rattle.laws.specs.Outstanding.{uncollected}
use Rattle.laws.specs.Counts.{places_of, count_t}
use Rattle.laws.specs.Entries.{entries_of, taken, size, local, sieve}
use Rattle.memory.proofs.Sums.{sum}

pub held-count : (x : ℕ) (h : Held) (a n : ℕ) → size h ≡ a + n → n ≤ a → a ≤ 1 → count x (entries_of h) ≡ a * bit (eqb (own_entry h) x) + n * bit (eqb (timer_entry h) x)
unfolding entries_of count own_entry timer_entry
held-count x nothing a n e h k = let u : a ≡ 0 = omega arith in let v : n ≡ 0 = omega arith in rw (u, v, zero-mul)
held-count x (own z) a n e h k = let u : a ≡ 1 = omega arith in let v : n ≡ 0 = omega arith in rw (u, v, one-mul, zero-mul)
held-count x (timed z t) a n e h k = let u : a ≡ 1 = omega arith in let v : n ≡ 1 = omega arith in rw (u, v, one-mul (bit (eqb z x)), one-mul (bit (eqb t x))) (omega arith)

pub port-count : (x : ℕ) (q : Req) (i : ℕ) (s : Alloc) → count x (port_of q i s) ≡ uncollected q * bit (eqb (own_entry (held_at s i)) x)
unfolding port_of uncollected count
port-count x idle i s = sym (zero-mul _)
port-count x (reading q) i s = sym (zero-mul _)
port-count x (writing q) i s = sym (zero-mul _)
port-count x (read_done q) i s = rw one-mul (omega arith)
port-count x (write_done q) i s = rw one-mul (omega arith)

pub taken-count : (x : ℕ) (l : List Held) → count x (taken l) ≡ sum (length l) (λ i. count x (entries_of (get_or l i nothing)))
unfolding taken count sum
taken-count x [] = refl
taken-count x (h ∷ l) = count-append x (entries_of h) (taken l) ∙ ap (λ n. count x (entries_of h) + n) (taken-count x l)

-- timers

pub sieve-at : (f p : ℕ) → p < places → (ts : List Timer) → count_t (place_of f p) ts ≡ count_t p (sieve f ts)
unfolding sieve count_t places_of count local place_of
sieve-at f p k [] = refl
sieve-at f p k (t ∷ ts) = go (ℕ_discrete (t.place / places) f) (ℕ_discrete (t.place % places) p) (sieve-at f p k ts)
  where
    go : Dec (t.place / places ≡ f) → Dec (t.place % places ≡ p) → count_t (place_of f p) ts ≡ count_t p (sieve f ts)
        → bit (eqb t.place (place_of f p)) + count_t (place_of f p) ts ≡ count_t p (cond (eqb (t.place / places) f) (local t ∷ sieve f ts) (sieve f ts))
    go (yes a) (yes b) r =
        rw (eq-eqb (t.place / places) f a)
        (omega (arith, r, ap bit (eq-eqb t.place (places * f + p) (omega arith)), ap bit (eq-eqb (t.place % places) p b)))
    go (yes a) (no b) r =
        rw (eq-eqb (t.place / places) f a)
        (omega (arith, r, ap bit (ne_eqb t.place (places * f + p) (λ u. b (omega arith))), ap bit (ne_eqb (t.place % places) p b)))
    go (no a) b r =
        rw (ne_eqb (t.place / places) f a)
        (omega (arith, r, ap bit (ne_eqb t.place (places * f + p) (λ u. a (omega arith)))))

pub map-place : (k : ℕ → ℕ) (ts : List Timer) → map k (places_of ts) ≡ map (λ t. k t.place) ts
unfolding places_of
map-place k [] = refl
map-place k (t ∷ ts) = ap (◌∷◌ (k t.place)) (map-place k ts)

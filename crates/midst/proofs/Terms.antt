-- What requests count for and hold, and what a place holds when its request completes or is gone.
use Prim.Native.Nat.{ℕ, ◌+◌, ◌*◌, ◌≤◌, ◌<◌}
use mathlib.Core.Path.{◌≡◌, refl, sym, ap, ◌∙◌}
use mathlib.Core.Bool.{Bool, true, false, cond, not}
use mathlib.Core.List.{[], ◌∷◌, map}
use native.Mathlib.Omega.{arith}
use native.Mathlib.Decide.{ℕ_discrete}
use borrow.Author.Tests.{eq-eqb, ne_eqb}
use lib.Dec.{eqb}
use lib.ListN.{length, get_or}
use lib.Seq.{get_or-set_same, get_or-set_other}
use Rattle.rules.specs.Limits.{places}
use Rattle.rules.specs.State.{Req, idle, reading, writing, read_done, write_done}
use Rattle.rules.specs.Allocation.{Held, nothing, own, timed, Alloc, place_of, held_at, holds, with_clock, free_timer, free_own, ends_at, goes_at, own_entry, timer_entry, port_of, timer_list}
use Rattle.laws.specs.Outstanding.{waits_read, waits_write, uncollected, awaits}
use Rattle.laws.specs.Counts.{count_t}
use Rattle.laws.specs.Entries.{entries_of, size}
use Rattle.laws.proofs.Outstanding.{outstanding-most}
use Rattle.laws.proofs.Allots.{clock-ends}
use Rattle.segment.specs.Layout.{data_words}
use Rattle.segment.specs.Fields.{entry_words}
use Rattle.memory.specs.Image.{req_words, port_words}
use Rattle.midst.proofs.Cuts.{map-timers}
use Rattle.midst.proofs.Goes.{free_timer-other}

-- 1 where a request waits in this queue
abbrev pub waits_at : Bool → Req → ℕ
waits_at writer q = cond writer (waits_write q) (waits_read q)

pub waits-awaits : (w : Bool) (q : Req) → waits_at w q ≤ awaits q
waits-awaits true q = omega arith
waits-awaits false q = omega arith

pub awaits-done : (q : Req) → 1 ≤ awaits q → uncollected q ≡ 0
awaits-done q h = omega (arith, outstanding-most q)

pub waits-other : (w : Bool) (q : Req) → waits_at w q ≡ 1 → waits_at (not w) q ≡ 0
waits-other true q h = omega (arith, outstanding-most q)
waits-other false q h = omega (arith, outstanding-most q)

pub done-waits : (w : Bool) (q : Req) → uncollected q ≡ 1 → waits_at w q ≡ 0
done-waits true q h = omega (arith, outstanding-most q)
done-waits false q h = omega (arith, outstanding-most q)

-- the data of a waiting request begin with its place
pub words-place : (i : ℕ) (q : Req) → 1 ≤ awaits q → get_or (req_words i q) 0 0 ≡ i
unfolding req_words waits_read waits_write entry_words
words-place i idle h = absurd (omega arith)
words-place i (reading q) h = refl
words-place i (writing q) h = refl
words-place i (read_done q) h = refl
words-place i (write_done q) h = refl

pub length-words : (i : ℕ) (q : Req) → length (req_words i q) ≡ data_words
unfolding req_words entry_words
length-words i idle = refl
length-words i (reading q) = refl
length-words i (writing q) = refl
length-words i (read_done q) = refl
length-words i (write_done q) = refl

-- a completed one stands on the reply port
pub port-one : (i : ℕ) (q : Req) (u : Alloc) → uncollected q ≡ 1 → (port_of q i u ≡ own_entry (held_at u i) ∷ []) × (port_words i q ≡ req_words i q ∷ [])
unfolding port_of port_words uncollected
port-one i idle u h = absurd (omega arith)
port-one i (reading q) u h = absurd (omega arith)
port-one i (writing q) u h = absurd (omega arith)
port-one i (read_done q) u h = (refl, refl)
port-one i (write_done q) u h = (refl, refl)

-- places of one file

pub same_place : (f x p : ℕ) → eqb (place_of f x) (place_of f p) ≡ eqb x p
unfolding place_of
same_place f x p = go (ℕ_discrete x p)
  where
    go : Dec (x ≡ p) → eqb (places * f + x) (places * f + p) ≡ eqb x p
    go (yes e) = eq-eqb (places * f + x) (places * f + p) (omega arith) ∙ sym (eq-eqb x p e)
    go (no n) = ne_eqb (places * f + x) (places * f + p) (λ e. n (omega arith)) ∙ sym (ne_eqb x p n)

pub place_other : (f p x : ℕ) → (x ≡ p → ⊥) → place_of f x ≡ place_of f p → ⊥
unfolding place_of
place_other f p x n e = n (omega arith)

-- the allocation

module _ (i : ℕ) (t : Alloc) where
  pub ends-other : (j : ℕ) → (j ≡ i → ⊥) → held_at (ends_at i t) j ≡ held_at t j
  unfolding ends_at
  ends-other j n = free_timer-other i (held_at t i) t j n

  -- a request that completes keeps its own entry
  pub ends-own : i < length t.held → 1 ≤ size (held_at t i) → held_at (ends_at i t) i ≡ own (own_entry (held_at t i))
  unfolding ends_at
  ends-own h k = go (held_at t i) refl k
    where
      go : (g : Held) → held_at t i ≡ g → 1 ≤ size g → held_at (free_timer i g t) i ≡ own (own_entry g)
      go nothing e n = absurd (unfold entries_of in omega arith)
      go (own x) e n = unfold free_timer own_entry in e
      go (timed x y) e n = unfold free_timer holds with_clock held_at own_entry in get_or-set_same t.held i (own x) nothing h

  -- a request that goes frees its own entry
  module _ (e : ℕ) (q : held_at (ends_at i t) i ≡ own e) where
    goes-is : goes_at i t ≡ holds i nothing (e ∷ (ends_at i t).free) (ends_at i t)
    unfolding goes_at free_own
    goes-is = ap (λ (h : Held). free_own i h (ends_at i t)) q

    pub goes-free : (goes_at i t).free ≡ e ∷ (ends_at i t).free
    unfolding holds
    goes-free = ap (λ (s : Alloc). s.free) goes-is

    pub goes-clock : (goes_at i t).clock ≡ (ends_at i t).clock
    unfolding holds
    goes-clock = ap (λ (s : Alloc). s.clock) goes-is

    pub goes_other : (j : ℕ) → (j ≡ i → ⊥) → held_at (goes_at i t) j ≡ held_at t j
    unfolding holds held_at
    goes_other j n = ap (λ (s : Alloc). held_at s j) goes-is ∙ get_or-set_other (ends_at i t).held i j nothing nothing n ∙ ends-other j n

    -- the timers that are left are those of other places
    pub goes-timers : (size (held_at t i) ≤ 1 → count_t i t.clock ≡ 0) → timer_list (goes_at i t) ≡ timer_list (ends_at i t)
    unfolding timer_list
    goes-timers z =
        ap (map (λ r. timer_entry (held_at (goes_at i t) r.place))) (goes-clock ∙ clock-ends i t z)
        ∙ map-timers i (λ j. timer_entry (held_at (goes_at i t) j)) (λ j. timer_entry (held_at (ends_at i t) j)) (λ j n. ap timer_entry (goes_other j n ∙ sym (ends-other j n))) t.clock
        ∙ ap (map (λ r. timer_entry (held_at (ends_at i t) r.place))) (sym (clock-ends i t z))

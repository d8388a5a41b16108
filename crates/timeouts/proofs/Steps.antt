-- One step of the walk along the timer list, as the loop has it: e is the word at slot p, and k links are left.
use Prim.Native.Nat.{ℕ, zero, suc, ◌-◌, ◌/◌, ◌≤◌, ◌<◌}
use mathlib.Core.Path.{◌≡◌, refl, ap, ◌∙◌}
use mathlib.Core.List.{List}
use native.Mathlib.Omega.{arith}
use borrow.Author.Tests.{lt-ltb, le-ltb}
use Rattle.rules.specs.Limits.{places, entries}
use Rattle.segment.specs.Layout.{link_at}
use Rattle.segment.specs.Table.{nth}
use Rattle.segment.specs.Fields.{place_at}
use Rattle.ports.specs.Slots.{seek, has}
use Rattle.accessors.specs.Outstanding.{queue_of}
use Rattle.requests.specs.Moves.{slot_of, entry_of, completed}
use Rattle.timeouts.specs.Late.{waits_in, late_words, late, less, less_all}

module _ (s : List ℕ) (p e : ℕ) (h : e ≡ nth s p) (n : ℕ) where
  pub less-stop : (k : ℕ) → entries ≤ e → less_all s p n k ≡ s
  unfolding less_all
  less-stop zero g = refl
  less-stop (suc k) g = rw (← h, le-ltb e entries g)

  pub less-step : (k : ℕ) → 0 < k → e < entries → less_all s p n k ≡ less_all (less s e n) (link_at e) n (k - 1)
  unfolding less_all
  less-step zero a g = absurd (omega arith)
  less-step (suc k) a g = let m : suc k - 1 ≡ k = omega arith in rw (← h, lt-ltb e entries g, m)

-- the request of place i, whose row has side k, waits in list l, at slot p of it
module _ (s : List ℕ) (i k : ℕ) (side : k ≡ (place_at s i).side) (l : ℕ) (queue : l ≡ queue_of (i / places) k) (p : ℕ) (at : p ≡ seek (has 0 i) s l entries) where
  late_slot : p ≡ slot_of s (waits_in s i) i
  unfolding slot_of waits_in
  late_slot = rw (at, queue, side)

  pub late-found : entry_of s (waits_in s i) i < entries → nth s p < entries
  unfolding entry_of
  late-found h = rw late_slot h

  pub late-at : (s' : List ℕ) → s' ≡ completed s p i (late_words i) → s' ≡ late s i
  unfolding late
  late-at s' e = e ∙ ap (λ x. completed s x i (late_words i)) late_slot

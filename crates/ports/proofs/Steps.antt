-- One step of each walk, as a loop has it: e is the word at slot p, and n links are left.
use Prim.Native.Nat.{ℕ, zero, suc, ◌-◌, ◌≤◌, ◌<◌}
use mathlib.Core.Path.{◌≡◌, refl}
use mathlib.Core.Bool.{Bool, true, false}
use mathlib.Core.List.{List}
use native.Mathlib.Omega.{arith}
use borrow.Author.Tests.{lt-ltb, le-ltb}
use Rattle.rules.specs.Limits.{entries}
use Rattle.segment.specs.Layout.{link_at}
use Rattle.segment.specs.Table.{nth, data_of}
use Rattle.ports.specs.Slots.{end_slot, seek}

module _ (s : List ℕ) (p e : ℕ) (h : e ≡ nth s p) where
  pub end-stop : (n : ℕ) → entries ≤ e → end_slot s p n ≡ p
  unfolding end_slot
  end-stop zero k = refl
  end-stop (suc n) k = rw (← h, le-ltb e entries k)

  pub end_step : (n : ℕ) → 0 < n → e < entries → end_slot s p n ≡ end_slot s (link_at e) (n - 1)
  unfolding end_slot
  end_step zero a k = absurd (omega arith)
  end_step (suc n) a k = let m : suc n - 1 ≡ n = omega arith in rw (← h, lt-ltb e entries k, m)

  pub seek_stop : (t : List ℕ → Bool) (n : ℕ) → entries ≤ e → seek t s p n ≡ p
  unfolding seek
  seek_stop t zero k = refl
  seek_stop t (suc n) k = rw (← h, le-ltb e entries k)

  pub seek-here : (t : List ℕ → Bool) (n : ℕ) → e < entries → t (data_of s e) ≡ true → seek t s p n ≡ p
  unfolding seek
  seek-here t zero k b = refl
  seek-here t (suc n) k b = rw (← h, lt-ltb e entries k, b)

  pub seek-step : (t : List ℕ → Bool) (n : ℕ) → 0 < n → e < entries → t (data_of s e) ≡ false → seek t s p n ≡ seek t s (link_at e) (n - 1)
  unfolding seek
  seek-step t zero a k b = absurd (omega arith)
  seek-step t (suc n) a k b = let m : suc n - 1 ≡ n = omega arith in rw (← h, lt-ltb e entries k, b, m)

-- the walk to the end passes every entry
pub end_slot-seek : (s : List ℕ) (p n : ℕ) → end_slot s p n ≡ seek (λ _. false) s p n
unfolding end_slot seek
end_slot-seek s p zero = refl
end_slot-seek s p (suc n) = rw (end_slot-seek s (link_at (nth s p)) n)

-- The free list with no marks: its steps, over one entry, and over entries in order.
use Prim.Native.Nat.{ℕ, zero, suc, ◌+◌, ◌*◌, ◌-◌, ◌≤◌, ◌<◌}
use mathlib.Core.Path.{◌≡◌, refl, sym, ap, ◌∙◌}
use mathlib.Core.Bool.{Bool, true, false}
use mathlib.Core.List.{List}
use native.Mathlib.Omega.{arith}
use borrow.Author.Tests.{lt-ltb, le-ltb}
use lib.Dec.{eqb}
use Rattle.rules.specs.Limits.{entries}
use Rattle.segment.specs.Layout.{nil, link_at}
use Rattle.segment.specs.Table.{nth}
use Rattle.sound.specs.Walks.{free_entry}
use Rattle.sound.specs.quick.Onward.{Linked}
use Rattle.sound.specs.quick.Ends.{free_ends, ends_from}
use Rattle.sound.proofs.quick.Onward.{linked, clean}

-- an entry's own words

pub from-off : (s : List ℕ) (e n : ℕ) → free_entry s e ≡ false → ends_from s e n ≡ false
unfolding ends_from
from-off s e n h = rw h

pub from_on : (s : List ℕ) (e n : ℕ) → free_entry s e ≡ true → ends_from s e n ≡ free_ends s (link_at e) n
unfolding ends_from
from_on s e n h = rw h

-- what a slot holds

ends-off' : (s : List ℕ) (p n : ℕ) → entries ≤ nth s p → free_ends s p (suc n) ≡ false
unfolding free_ends
ends-off' s p n h = rw (le-ltb (nth s p) entries h, free_ends)

ends-on' : (s : List ℕ) (p n : ℕ) (t : Bool) → free_entry s (nth s p) ≡ t → nth s p < entries → free_ends s p (suc n) ≡ ends_from s (nth s p) n
unfolding free_ends
ends-on' s p n true d h = rw (lt-ltb (nth s p) entries h, d, free_ends) (sym (from_on s (nth s p) n d))
ends-on' s p n false d h = rw (lt-ltb (nth s p) entries h, d, free_ends) (sym (from-off s (nth s p) n d))

pub ends-off : (s : List ℕ) (p n v : ℕ) → v ≡ nth s p → 0 < n → entries ≤ v → free_ends s p n ≡ false
ends-off s p zero v e o h = absurd (omega arith)
ends-off s p (suc n) v e o h = ends-off' s p n (rw e at h)

pub ends_on : (s : List ℕ) (p n v : ℕ) → v ≡ nth s p → 0 < n → v < entries → free_ends s p n ≡ ends_from s v (n - 1)
ends_on s p zero v e o h = absurd (omega arith)
ends_on s p (suc n) v e o h =
    let m : suc n - 1 ≡ n = omega arith in
    rw (m, e) (ends-on' s p n (free_entry s (nth s p)) refl (rw e at h))

pub ends-nil : (s : List ℕ) (p n : ℕ) → n ≤ 0 → eqb (nth s p) nil ≡ free_ends s p n
unfolding free_ends
ends-nil s p zero o = refl
ends-nil s p (suc n) o = absurd (omega arith)

-- entries in order

pub fewer-ends : (s : List ℕ) (r a b : ℕ) → a ≡ b → ends_from s r a ≡ ends_from s r b
fewer-ends s r a b e = ap (λ (k : ℕ). ends_from s r k) e

pub ends_next : (s : List ℕ) (e at n m : ℕ) → at ≡ 2 * link_at e → Linked s at n → n < entries → 0 < m → ends_from s e m ≡ ends_from s n (m - 1)
ends_next s e at n m a l h o = from_on s e m (clean s e at n a l) ∙ ends_on s (link_at e) m n (sym (linked s e at n a l)) o h

pub ends-four : (s : List ℕ) (e at m : ℕ) → at ≡ 2 * link_at e → Linked s at (e + 1) → Linked s (at + 20) (e + 2) → Linked s (at + 40) (e + 3) → Linked s (at + 60) (e + 4)
    → e + 4 < entries → 4 ≤ m → ends_from s e m ≡ ends_from s (e + 4) (m - 4)
ends-four s e at m a l₁ l₂ l₃ l₄ h o =
    ends_next s e at (e + 1) m a l₁ (omega arith) (omega arith)
    ∙ ends_next s (e + 1) (at + 20) (e + 2) (m - 1) (omega arith) l₂ (omega arith) (omega arith)
    ∙ ends_next s (e + 2) (at + 40) (e + 3) (m - 1 - 1) (omega arith) l₃ (omega arith) (omega arith)
    ∙ ends_next s (e + 3) (at + 60) (e + 4) (m - 1 - 1 - 1) (omega arith) l₄ (omega arith) (omega arith)
    ∙ fewer-ends s (e + 4) (m - 1 - 1 - 1 - 1) (m - 4) (omega arith)

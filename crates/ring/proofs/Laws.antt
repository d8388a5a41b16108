-- Laws of the ring's numbers: the count of blocks that wraps, and the ring after a record is gone.
use Prim.Native.Nat.{ℕ, ◌+◌, ◌-◌, ◌*◌, ◌/◌, ◌%◌, ◌≤◌, ◌<◌}
use mathlib.Core.Path.{◌≡◌, refl, sym}
use native.Mathlib.Omega.{arith}
use native.Mathlib.Nat.{div-le_of_le-mul, mod-lt, mod-eq_of_lt}
use lib.Dec.{ltb, leb, eqb}
use borrow.Author.Tests.{ltb-true, ltb-false, leb-true}
use Rattle.rules.proofs.Split.{both}
use Rattle.ring.specs.declared.Ring.{Ring}
use Rattle.shares.proofs.Ring.{mod-high}
use Rattle.ring.specs.Ring.{Ranged, wrapped, place, at, advanced}

-- a block's number wraps to a block of the ring
pub wrapped-less : (d k : ℕ) → k < d + d → wrapped d k < d
unfolding wrapped
wrapped-less d k h = both (λ (n : ℕ). n < d) (ltb k d) (λ e. ltb-true k d e) (λ e. omega (arith, ltb-false k d e))

pub wrapped-mod : (d k : ℕ) → k < d + d → wrapped d k ≡ k % d
unfolding wrapped
wrapped-mod d k h = both (λ (n : ℕ). n ≡ k % d) (ltb k d)
    (λ e. sym (mod-eq_of_lt (ltb-true k d e)))
    (λ e. sym (mod-high d k (ltb-false k d e) h))

-- as many records as the ring has places go once round it
pub rounds : (b d u : ℕ) → u ≤ b * d → u / b ≤ d
rounds b d u h = div-le_of_le-mul b h

-- Places.

pub place_inside : (r : Ring) → Ranged r → (u : ℕ) → u ≤ r.factor * r.blocks → ((place r u).block < r.blocks) × ((place r u).index < r.factor)
unfolding place
place_inside r o u h = (wrapped-less r.blocks (r.block + u / r.factor) (omega (arith, o.block, rounds r.factor r.blocks u h)), mod-lt u o.factor)

-- Advanced.

-- one record less
pub advanced-held : (r : Ring) → 0 < r.held → (advanced r).held ≡ r.held - 1
unfolding advanced
advanced-held r l =
    both (λ (x : Ring). x.held ≡ r.held - 1) (leb r.held 1) (λ e. omega (arith, leb-true r.held 1 e))
    (λ _. both (λ (x : Ring). x.held ≡ r.held - 1) (eqb (r.spent + 1) r.factor) (λ _. refl) (λ _. refl))

-- in the same block
pub advanced-inside : (r : Ring) → ((advanced r).spent ≡ 0 → ⊥) → advanced r ≡ at r r.block (r.spent + 1) (r.held - 1)
unfolding advanced
advanced-inside r =
    both (λ (x : Ring). (x.spent ≡ 0 → ⊥) → x ≡ at r r.block (r.spent + 1) (r.held - 1)) (leb r.held 1) (λ _ n. absurd (n refl))
    (λ _. both (λ (x : Ring). (x.spent ≡ 0 → ⊥) → x ≡ at r r.block (r.spent + 1) (r.held - 1)) (eqb (r.spent + 1) r.factor) (λ _ n. absurd (n refl)) (λ _ n. refl))

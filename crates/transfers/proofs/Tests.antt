-- The tests of a read or write, as the code makes them.
use Prim.Native.Nat.{ℕ, ◌+◌, ◌≤◌, ◌<◌}
use mathlib.Core.Path.{◌≡◌, refl, sym, ap, ◌∙◌}
use mathlib.Core.Bool.{Bool, true, false, cond}
use mathlib.Core.List.{List}
use native.Mathlib.Omega.{arith}
use borrow.Author.Tests.{lt-ltb, le-ltb, le-leb, leb-true}
use lib.Dec.{ltb}
use mir.Val.{bool_byte}
use Rattle.occurrences.specs.Count.{bit}
use Rattle.rules.specs.Limits.{entries}
use Rattle.segment.specs.Layout.{write_queue}
use Rattle.segment.specs.Table.{nth}
use Rattle.rules.specs.Geometry.{capacity}
use Rattle.ring.specs.declared.Ring.{Ring}
use Rattle.accessors.specs.Sides.{count_side}
use Rattle.ring.specs.Ring.{used}
use Rattle.store.specs.Door.{fits_ring}
use Rattle.transfers.specs.Rows.{admits}

-- a test as a number
pub byte_bit : (t : Bool) → bool_byte t ≡ bit t
byte_bit true = refl
byte_bit false = refl

-- what fits beside m writers fits beside fewer
fits-fewer : (r : Ring) (n m : ℕ) → n ≤ m → fits_ring r m ≡ true → fits_ring r n ≡ true
unfolding fits_ring
fits-fewer r n m h e = le-leb (used r + n + 1) (capacity r.factor r.blocks) (omega (arith, leb-true (used r + m + 1) (capacity r.factor r.blocks) e))

-- e is the head of the write queue
module _ (xs : List ℕ) (f : ℕ) (r : Ring) {e : ℕ} (is : e ≡ nth xs (write_queue f)) where
  pub admits-not : e < entries → false ≡ admits xs f r
  unfolding admits
  admits-not h = sym (ap (λ (t : Bool). cond t false (fits_ring r (count_side xs f 2))) (ap (λ (m : ℕ). ltb m entries) (sym is) ∙ lt-ltb e entries h))

  pub admits-so : {t : Bool} {n : ℕ} → entries ≤ e → t ≡ fits_ring r n → n ≡ count_side xs f 2 → t ≡ admits xs f r
  unfolding admits
  admits-so h u v =
      u ∙ ap (fits_ring r) v ∙ sym (ap (λ (t : Bool). cond t false (fits_ring r (count_side xs f 2))) (ap (λ (m : ℕ). ltb m entries) (sym is) ∙ le-ltb e entries h))

  -- beside more writers
  pub admits-any : {t : Bool} (m : ℕ) → entries ≤ e → t ≡ fits_ring r m → t ≡ true → count_side xs f 2 ≤ m → true ≡ admits xs f r
  admits-any m h u y k = admits-so h (sym (fits-fewer r (count_side xs f 2) m k (sym u ∙ y))) refl

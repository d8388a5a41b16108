-- Laws of the ring: its blocks lie in the share and apart from each other, and the count of blocks may begin anew.
use Prim.Native.Nat.{ℕ, suc, ◌+◌, ◌-◌, ◌*◌, ◌%◌, ◌≤◌, ◌<◌}
use mathlib.Core.Path.{◌≡◌, sym, ap, ◌∙◌}
use mathlib.Core.List.{List, [], ◌∷◌}
use mathlib.Core.Logic.{◌⊎◌, inl, inr}
use native.Mathlib.Omega.{arith}
use native.Mathlib.Numerals.{add-one}
use native.Mathlib.Nat.{suc-mul, mul_comm, mul_left_comm, mul-le-mul_right, mod-lt, mod-mod, mod-add-mod, mod-eq_of_lt, mod-eq-sub-mod}
use lib.Dec.{ltb}
use lib.ListN.{length}
use borrow.Author.Tests.{ltb-true, ltb-false}
use Rattle.rules.specs.Limits.{share_bytes}
use Rattle.rules.specs.State.{Rec, Geo}
use Rattle.rules.specs.Geometry.{block_size}
use Rattle.rules.specs.Store.{record_words, block_bytes}
use Rattle.shares.specs.Image.{words_of, image}
use Rattle.shares.specs.Groups.{Small}
use Rattle.shares.specs.Holds.{Sized, At}
use Rattle.rules.proofs.Split.{by_cases}
use Rattle.shares.proofs.Image.{length-image}
use Rattle.shares.proofs.Groups.{words_of-small}

-- k modulo d, for a k that is not below d but below 2·d
pub mod-high : (d k : ℕ) → d ≤ k → k < d + d → k % d ≡ k - d
mod-high d k h l = mod-eq-sub-mod h ∙ mod-eq_of_lt (let e : k - d < d = omega arith in e)

pub mod-next : (d k l : ℕ) → k % d ≡ l % d → suc k % d ≡ suc l % d
mod-next d k l e =
    let f : (k + 1) % d ≡ (l + 1) % d = sym (mod-add-mod k d 1) ∙ (ap (λ (x : ℕ). (x + 1) % d) e ∙ mod-add-mod l d 1) in
    rw (← add-one k, ← add-one l) f

-- two counts that are less than d apart differ modulo d
pub mod-apart : (d k l : ℕ) → k < l → l < k + d → (k % d < l % d) ⊎ (l % d < k % d)
mod-apart d k l p q =
    let t = l - k in
    let b : k % d < d = mod-lt k (omega arith) in
    let e : l % d ≡ (k % d + t) % d = (let f : l ≡ k + t = omega arith in ap (λ (x : ℕ). x % d) f) ∙ sym (mod-add-mod k d t) in
    by_cases (ltb (k % d + t) d)
    (λ h. inl (omega (arith, e, mod-eq_of_lt (ltb-true (k % d + t) d h))))
    (λ h. inr (omega (arith, e, ltb-false (k % d + t) d h, mod-high d (k % d + t) (ltb-false (k % d + t) d h) (omega arith))))

-- Blocks.

pub block-before : (p q n : ℕ) → p < q → p * n + n ≤ q * n
block-before p q n h = let e : suc p * n ≤ q * n = mul-le-mul_right n h in omega (arith, suc-mul p n)

pub block_inside : (g : Geo) → Sized g → (k : ℕ) → k < g.blocks → k * block_bytes g + block_bytes g ≤ share_bytes
unfolding block_bytes
block_inside g o k h =
    let n = block_size g.words g.factor in
    omega (arith, block-before k g.blocks (2 * n) h, mul_left_comm g.blocks 2 n, o.fits)

pub ring-inside : (g : Geo) → Sized g → (k : ℕ) → k % g.blocks * block_bytes g + block_bytes g ≤ share_bytes
ring-inside g o k = block_inside g o (k % g.blocks) (mod-lt k o.blocks)

pub ring-apart : (d n k l : ℕ) → k < l → l < k + d → (k % d * n + n ≤ l % d * n) ⊎ (l % d * n + n ≤ k % d * n)
ring-apart d n k l p q = go (mod-apart d k l p q)
  where
    go : (k % d < l % d) ⊎ (l % d < k % d) → (k % d * n + n ≤ l % d * n) ⊎ (l % d * n + n ≤ k % d * n)
    go (inl x) = inl (block-before (k % d) (l % d) n x)
    go (inr x) = inr (block-before (l % d) (k % d) n x)

-- Records fit their block.

pub block_bytes-places : (g : Geo) → 4 + 2 * (g.factor * (g.words + 3)) ≤ block_bytes g
unfolding block_bytes block_size
block_bytes-places g = omega (arith, mul_comm g.factor (g.words + 3))

pub block-fits : (g : Geo) (rs : List Rec) → length rs ≤ g.factor → Small (g.words + 3) rs → 4 + 2 * words_of rs ≤ block_bytes g
block-fits g rs k s =
    let m = g.words + 3 in
    let e : length rs * m ≤ g.factor * m = mul-le-mul_right m k in
    omega (arith, words_of-small m rs s, block_bytes-places g)

pub block-fits-more : (g : Geo) (rs : List Rec) (r : Rec) → length rs < g.factor → Small (g.words + 3) rs → record_words r ≤ g.words + 3
    → 4 + 2 * (words_of rs + record_words r) ≤ block_bytes g
block-fits-more g rs r k s w =
    let m = g.words + 3 in
    let e : suc (length rs) * m ≤ g.factor * m = mul-le-mul_right m k in
    omega (arith, words_of-small m rs s, suc-mul (length rs) m, block_bytes-places g)

pub length-block : (g : Geo) (rs : List Rec) → length rs ≤ g.factor → Small (g.words + 3) rs → length (image rs) ≤ block_bytes g
length-block g rs k s = omega (arith, length-image rs, block-fits g rs k s)

-- the count of blocks begins anew
pub at-mod : (g : Geo) (xs : List ℕ) (k l : ℕ) (qs : List (List Rec)) → k % g.blocks ≡ l % g.blocks → At g xs k qs → At g xs l qs
unfolding At
at-mod g xs k l [] e a = tt
at-mod g xs k l (q ∷ qs) e a = (a.0, rw (← e) a.1, at-mod g xs (suc k) (suc l) qs (mod-next g.blocks k l e) a.2)

pub at_next : (g : Geo) (xs : List ℕ) (k : ℕ) (qs : List (List Rec)) → At g xs (suc k) qs → At g xs ((k + 1) % g.blocks) qs
at_next g xs k qs a = at-mod g xs (suc k) ((k + 1) % g.blocks) qs (rw (mod-mod (k + 1) g.blocks, add-one k)) a

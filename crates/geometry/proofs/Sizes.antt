-- Laws of build's numbers: what rounding up gives, how large the products get, and what the ranges say.
use Prim.Native.Nat.{ℕ, zero, suc, ◌+◌, ◌-◌, ◌*◌, ◌/◌, ◌%◌, min, ◌<◌, ◌≤◌}
use mathlib.Core.Bool.{true, ◌&&◌}
use mathlib.Core.Path.{◌≡◌, refl}
use Rattle.std.specs.Int.{div_ceil}
use Rattle.std.proofs.Math.Arith.{digits_div}
use native.Mathlib.Nat.{le_trans, div-add-mod', mod-lt, mul_comm, mul-le-mul}
use native.Mathlib.Omega.{arith}
use lib.Dec.{leb}
use borrow.Author.Tests.{leb-true}
use Rattle.rules.specs.Limits.{most_words, most_factor, most_records, most_extents, most_share, room_words, share_words}
use Rattle.rules.specs.Geometry.{divided_up, capacity, block_size, within, in_range, fits_share}
use Rattle.rules.proofs.Split.{and-true}
use Rattle.rules.proofs.Fits.{words-fit, share-fits}

-- std rounds up in another way
pub div_ceil_is : (n m : ℕ) → 1 ≤ m → div_ceil n m ≡ divided_up n m
unfolding divided_up
div_ceil_is n m h = go (n % m) refl
  where
    go : (r : ℕ) → n % m ≡ r → n / m + min 1 r ≡ (n + (m - 1)) / m
    go zero e =
        let p : n + (m - 1) ≡ n / m * m + (m - 1) = omega (arith, div-add-mod' n m) in
        rw p (omega (arith, digits_div (n / m) {m = m} {r = m - 1} (omega arith)))
    go (suc r) e =
        let low : 0 < m = omega arith in
        let p : n + (m - 1) ≡ suc (n / m) * m + r = omega (arith, div-add-mod' n m) in
        rw p (omega (arith, digits_div (suc (n / m)) {m = m} {r = r} (omega (arith, mod-lt n low))))

pub product-most : (a b m n : ℕ) → a ≤ m → b ≤ n → a * b ≤ m * n
product-most a b m n h k = mul-le-mul h k

pub records_most : (r b : ℕ) → r ≤ room_words → b ≤ most_factor → (r + 3) * b ≤ (room_words + 3) * most_factor
records_most r b h k = product-most (r + 3) b (room_words + 3) most_factor (omega arith) k

-- a share holds no more records than words
pub fits-capacity : (r b d : ℕ) → fits_share r b d ≡ true → capacity b d ≤ share_words
unfolding fits_share block_size capacity
fits-capacity r b d e =
    let each : 1 * b ≤ (r + 3) * b = product-most 1 b (r + 3) b (omega arith) (omega arith) in
    let all : d * b ≤ d * ((r + 3) * b + 2) = product-most d b d ((r + 3) * b + 2) (omega arith) (omega (arith, each)) in
    omega (arith, leb-true (d * ((r + 3) * b + 2)) most_share e, share-fits, all, mul_comm b d)

-- what the ranges say, for those who are asked for them
pub within-is : (lo hi n : ℕ) → within lo hi n ≡ true → (lo ≤ n) × (n ≤ hi)
unfolding within
within-is lo hi n e = let p = and-true (leb lo n) (leb n hi) e in (leb-true lo n p.0, leb-true n hi p.1)

pub in-range-is : (r b n x : ℕ) → in_range r b n x ≡ true → ((1 ≤ r) × (r ≤ most_words)) × ((1 ≤ b) × (b ≤ most_factor)) × ((1 ≤ n) × (n ≤ most_records)) × ((1 ≤ x) × (x ≤ most_extents))
unfolding in_range
in-range-is r b n x e =
    let R = within 1 most_words r in
    let B = within 1 most_factor b in
    let N = within 1 most_records n in
    let p = and-true (R && B && N) (within 1 most_extents x) e in
    let q = and-true (R && B) N p.0 in
    let s = and-true R B q.0 in
    (within-is 1 most_words r s.0, within-is 1 most_factor b s.1, within-is 1 most_records n q.1, within-is 1 most_extents x p.1)

-- numbers in their ranges fit the memories
pub in-range-fits : (r b n x : ℕ) → in_range r b n x ≡ true → (r ≤ room_words) × (b ≤ most_factor)
in-range-fits r b n x e = let k = in-range-is r b n x e in (le_trans k.0.1 words-fit, k.1.1)

-- What the test of a geometry says, and what the ring of such a file needs.
use Prim.Native.Nat.{ℕ, zero, suc, ◌+◌, ◌-◌, ◌*◌, ◌≤◌, ◌<◌}
use mathlib.Core.Bool.{true, false}
use mathlib.Core.Path.{◌≡◌}
use mathlib.Core.List.{List}
use native.Mathlib.Omega.{arith}
use native.Mathlib.Numerals.{add-one}
use borrow.Author.Tests.{leb-true}
use Rattle.rules.specs.Limits.{room_words, most_factor, least_capacity, share_words}
use Rattle.rules.specs.Geometry.{capacity, block_size, within}
use Rattle.rules.specs.State.{Geo}
use Rattle.rules.proofs.Split.{and-true}
use Rattle.geometry.proofs.Sizes.{product-most}
use Rattle.laws.specs.Changes.{GoodGeo}
use Rattle.ring.specs.Ring.{geo, Fitted}
use Rattle.ring.specs.declared.Ring.{Ring}
use Rattle.sound.specs.Rows.{file_word, geo_at, good_geo}
use Rattle.sound.specs.Sound.{file_ok, files_ok}

pub geo-good : (g : Geo) → good_geo g ≡ true → GoodGeo g
unfolding good_geo within
geo-good g h =
    let (r, share) = and-true _ _ h in
    let (r₁, room) = and-true _ _ r in
    let (w, k) = and-true _ _ r₁ in
    let (w₀, w₁) = and-true _ _ w in
    let (k₀, k₁) = and-true _ _ k in
    record {
      words-low = leb-true 1 g.words w₀;
      words-high = leb-true g.words room_words w₁;
      factor-low = leb-true 1 g.factor k₀;
      factor-high = leb-true g.factor most_factor k₁;
      room = leb-true least_capacity (capacity g.factor g.blocks) room;
      share = leb-true (g.blocks * block_size g.words g.factor) share_words share;
    }

some-blocks : (b d : ℕ) → least_capacity ≤ capacity b d → 0 < d
unfolding capacity
some-blocks b zero h = absurd (omega arith)
some-blocks b (suc d) h = omega arith

pub fitted : (w : ℕ) (r : Ring) → good_geo (geo w r) ≡ true → Fitted w r
fitted w r h =
    let g : GoodGeo (geo w r) = geo-good (geo w r) h in
    record {
      words = g.words-high;
      factor = g.factor-high;
      sized = record {
        factor = omega (arith, g.factor-low);
        blocks = some-blocks r.factor r.blocks g.room;
        fits = g.share;
      };
    }

-- "C = B × D" at 32 bits
pub few-places : (s : List ℕ) (f b d : ℕ) → b ≡ file_word s f 1 → d ≡ file_word s f 2 → good_geo (geo_at s f) ≡ true → d ≤ 65535 → b * d ≤ 16 * 65535
unfolding geo_at
few-places s f b d p q h n = product-most b d 16 65535 (rw p (geo-good (geo_at s f) h).factor-high) n

module _ (s blocks : List ℕ) (f : ℕ) where
  -- the files from f, of n of which k are passed
  pub files_bad : (n k : ℕ) → k < n → file_ok s blocks f ≡ false → files_ok s blocks f (n - k) ≡ false
  unfolding files_ok
  files_bad n k a d = let m : n - k ≡ suc (n - (k + 1)) = omega arith in rw (m, d, files_ok)

  pub files_next : (n k : ℕ) → k < n → file_ok s blocks f ≡ true → files_ok s blocks f (n - k) ≡ files_ok s blocks (f + 1) (n - (k + 1))
  unfolding files_ok
  files_next n k a d = let m : n - k ≡ suc (n - (k + 1)) = omega arith in rw (m, add-one f, d, files_ok)

  pub files_over : (n k : ℕ) → n ≤ k → files_ok s blocks f (n - k) ≡ true
  unfolding files_ok
  files_over n k a = let m : n - k ≡ 0 = omega arith in rw m

-- The records that are read from bytes are such that a sheet can say them: their IDs are words, and their data bytes.
use Prim.Native.Nat.{ℕ, zero, suc, ◌+◌, ◌-◌, ◌*◌, ◌%◌}
use mathlib.Core.List.{List, [], ◌∷◌}
use native.Mathlib.Omega.{arith}
use lib.ListN.{take, drop}
use lib.Seq.{get_or-drop}
use Rattle.words.specs.Word.{word_at, Bytes}
use Rattle.rules.specs.State.{Geo}
use Rattle.rules.specs.Store.{block_bytes}
use Rattle.shares.specs.Groups.{All}
use Rattle.shares.specs.Back.{rec_at, next, recs_at, block_recs, ring_recs, read_back}
use Rattle.shares.proofs.Groups.{all_append, all_take, all_drop}
use Rattle.roundtrip.specs.Trip.{Plain}

-- a part of bytes is bytes

take-bytes : (n : ℕ) (xs : List ℕ) → Bytes xs → Bytes (take n xs)
unfolding Bytes
take-bytes zero xs b i = omega arith
take-bytes (suc n) [] b i = omega arith
take-bytes (suc n) (x ∷ xs) b zero = b 0
take-bytes (suc n) (x ∷ xs) b (suc i) = take-bytes n xs (λ j. b (suc j)) i

drop-bytes : (n : ℕ) (xs : List ℕ) → Bytes xs → Bytes (drop n xs)
unfolding Bytes
drop-bytes n xs b i = rw (get_or-drop n xs i 0) (b (n + i))

pub part_bytes : (n a : ℕ) (xs : List ℕ) → Bytes xs → Bytes (take n (drop a xs))
part_bytes n a xs b = take-bytes n (drop a xs) (drop-bytes a xs b)

-- the records that are read from bytes

module _ (xs : List ℕ) (b : Bytes xs) where
  plain_at : (p : ℕ) → Plain (rec_at xs p)
  unfolding rec_at Bytes
  plain_at p = record { ident = omega (arith, b (p + 4), b (p + 4 + 1)); bytes = part_bytes (word_at xs p - 4) (p + 6) xs b }

  plain-recs : (n p : ℕ) → All Plain (recs_at xs p n)
  unfolding recs_at All
  plain-recs zero p = tt
  plain-recs (suc n) p = (plain_at p, plain-recs n (next xs p))

  plain-ring : (g : Geo) (n k : ℕ) → All Plain (ring_recs g xs k n)
  unfolding ring_recs block_recs All
  plain-ring g zero k = tt
  plain-ring g (suc n) k =
      let a = k % g.blocks * block_bytes g in
      all_append Plain (recs_at xs (a + 4) (word_at xs a)) (ring_recs g xs (suc k) n) (plain-recs (word_at xs a) (a + 4)) (plain-ring g n (suc k))

  pub plain_back : (g : Geo) (block spent held : ℕ) → All Plain (read_back g xs block spent held)
  unfolding read_back
  plain_back g block spent held = all_take Plain held _ (all_drop Plain spent _ (plain-ring g g.blocks block))

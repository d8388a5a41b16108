-- Laws of a block that is zeroed, and of one record more in a block.
use Prim.Native.Nat.{ℕ, ◌+◌, ◌-◌, ◌*◌, ◌≤◌}
use mathlib.Core.Path.{◌≡◌, ◌∙◌}
use mathlib.Core.List.{List, [], ◌∷◌, ◌++◌}
use mathlib.Core.Logic.{◌⊎◌, inl, inr}
use native.Mathlib.Omega.{arith}
use lib.ListN.{length, length-append}
use lib.Seq.{sets, length-sets}
use Rattle.words.specs.Word.{word, word_at, zeros}
use Rattle.words.proofs.Runs.{length-zeros}
use Rattle.words.proofs.Stands.{BytesAt, join, left, other, same, Within, within-then, sets-within}
use Rattle.rules.specs.State.{Rec}
use Rattle.rules.specs.Store.{record_bytes, record_words, zeroed, added}
use Rattle.shares.specs.Image.{bytes_of, words_of, image}
use Rattle.shares.proofs.Image.{length-record_bytes, length-bytes_of, bytes_of-snoc, words_of-snoc, image-nil, Parts, apart, whole, image-put, image-used}

pub length-zeroed : (n : ℕ) → 4 ≤ n → length (zeroed n) ≡ n
unfolding zeroed
length-zeroed n h = omega (arith, length-zeros (n - 4))

-- a block that is zeroed holds no record
pub zeroed-stands : (n a : ℕ) (xs : List ℕ) → 4 ≤ n → a + n ≤ length xs → BytesAt (sets xs a (zeroed n)) a (image [])
zeroed-stands n a xs h k =
    let s : BytesAt (sets xs a (zeroed n)) a (zeroed n) = same (zeroed n) xs a (omega (arith, length-zeroed n h)) in
    left (image []) (zeros (n - 4)) (sets xs a (zeroed n)) a (rw (← image-nil n) s)

pub zeroed-within : (n a : ℕ) (xs : List ℕ) → 4 ≤ n → Within xs (sets xs a (zeroed n)) a n
zeroed-within n a xs h = sets-within (zeroed n) xs a a n (omega arith) (omega (arith, length-zeroed n h))

-- `added`, the block's first two words being known: c records, u words
unfoldable pub added_at : List ℕ → ℕ → ℕ → ℕ → Rec → List ℕ
added_at xs a c u r = sets (sets (sets xs (a + 2 * u) (record_bytes r)) a (word (c + 1))) (a + 2) (word (u + record_words r))

length-added_at : (xs : List ℕ) (a c u : ℕ) (r : Rec) → length (added_at xs a c u r) ≡ length xs
unfolding added_at
length-added_at xs a c u r =
    length-sets (sets (sets xs (a + 2 * u) (record_bytes r)) a (word (c + 1))) (a + 2) (word (u + record_words r))
    ∙ (length-sets (sets xs (a + 2 * u) (record_bytes r)) a (word (c + 1)) ∙ length-sets xs (a + 2 * u) (record_bytes r))

pub length-added : (xs : List ℕ) (a : ℕ) (r : Rec) → length (added xs a r) ≡ length xs
unfolding added added_at
length-added xs a r = length-added_at xs a (word_at xs a) (word_at xs (a + 2)) r

-- what stands apart from the three stores stays
added_at-other : (bs xs : List ℕ) (b a c u : ℕ) (r : Rec) → (b + length bs ≤ a + 2 * u) ⊎ (a + 2 * u + 2 * record_words r ≤ b) → a + 4 ≤ b
    → BytesAt xs b bs
    → BytesAt (added_at xs a c u r) b bs
unfolding added_at
added_at-other bs xs b a c u r d e h =
    let x₁ = sets xs (a + 2 * u) (record_bytes r) in
    let x₂ = sets x₁ a (word (c + 1)) in
    other bs (word (u + record_words r)) x₂ b (a + 2) (inr (omega arith)) (other bs (word (c + 1)) x₁ b a (inr (omega arith)) (first d))
  where
    first : (b + length bs ≤ a + 2 * u) ⊎ (a + 2 * u + 2 * record_words r ≤ b) → BytesAt (sets xs (a + 2 * u) (record_bytes r)) b bs
    first (inl k) = other bs (record_bytes r) xs b (a + 2 * u) (inl k) h
    first (inr k) = other bs (record_bytes r) xs b (a + 2 * u) (inr (omega (arith, length-record_bytes r))) h

added_at-parts : (xs : List ℕ) (a c w : ℕ) (bs : List ℕ) (r : Rec) → length bs ≡ 2 * w → a + 4 + 2 * w + 2 * record_words r ≤ length xs
    → Parts xs a c w bs → Parts (added_at xs a c (2 + w) r) a (c + 1) (w + record_words r) (bs ++ record_bytes r)
unfolding added_at
added_at-parts xs a c w bs r l k p =
    let m : length (record_bytes r) ≡ 2 * record_words r = length-record_bytes r in
    let x₁ = sets xs (a + 2 * (2 + w)) (record_bytes r) in
    let x₂ = sets x₁ a (word (c + 1)) in
    let v = word (2 + w + record_words r) in
    let l₁ : length x₁ ≡ length xs = length-sets xs (a + 2 * (2 + w)) (record_bytes r) in
    let l₂ : length x₂ ≡ length xs = length-sets x₁ a (word (c + 1)) ∙ l₁ in
    let h₁ : BytesAt x₁ (a + 2 * (2 + w)) (record_bytes r) = same (record_bytes r) xs (a + 2 * (2 + w)) (omega arith) in
    let h₂ : BytesAt x₂ (a + 2 * (2 + w)) (record_bytes r) = other (record_bytes r) (word (c + 1)) x₁ (a + 2 * (2 + w)) a (inr (omega arith)) h₁ in
    let h₃ : BytesAt (sets x₂ (a + 2) v) (a + 2 * (2 + w)) (record_bytes r) = other (record_bytes r) v x₂ (a + 2 * (2 + w)) (a + 2) (inr (omega arith)) h₂ in
    record {
      put = other (word (c + 1)) v x₂ a (a + 2) (inl (omega arith)) (same (word (c + 1)) x₁ a (omega arith));
      used = let e : 2 + (w + record_words r) ≡ 2 + w + record_words r = omega arith in rw e (same v x₂ (a + 2) (omega arith));
      recs = join bs (record_bytes r) (sets x₂ (a + 2) v) (a + 4) (a + 2 * (2 + w)) (omega arith)
          (added_at-other bs xs (a + 4) a c (2 + w) r (inl (omega arith)) (omega arith) p.recs) h₃;
    }

-- one record more
pub added-stands : (xs : List ℕ) (a n : ℕ) (rs : List Rec) (r : Rec) → 4 + 2 * (words_of rs + record_words r) ≤ n → a + n ≤ length xs
    → BytesAt xs a (image rs)
    → BytesAt (added xs a r) a (image (rs ++ (r ∷ [])))
unfolding added added_at
added-stands xs a n rs r f k h =
    let p = apart xs a rs h in
    let q = added_at-parts xs a (length rs) (words_of rs) (bytes_of rs) r (length-bytes_of rs) (omega arith) p in
    let o : length (rs ++ (r ∷ [])) ≡ length rs + 1 = length-append rs (r ∷ []) in
    rw (image-put xs a rs h, image-used xs a rs h)
    (whole (added_at xs a (length rs) (2 + words_of rs) r) a (rs ++ (r ∷ [])) (rw (o, words_of-snoc rs r, bytes_of-snoc rs r) q))

added_at-within : (xs : List ℕ) (a n c u : ℕ) (r : Rec) → 2 * (u + record_words r) ≤ n → 4 ≤ n → Within xs (added_at xs a c u r) a n
unfolding added_at
added_at-within xs a n c u r f h =
    let m : length (record_bytes r) ≡ 2 * record_words r = length-record_bytes r in
    let x₁ = sets xs (a + 2 * u) (record_bytes r) in
    let x₂ = sets x₁ a (word (c + 1)) in
    let x₃ = sets x₂ (a + 2) (word (u + record_words r)) in
    within-then xs x₁ x₃ a n (sets-within (record_bytes r) xs (a + 2 * u) a n (omega arith) (omega arith))
    (within-then x₁ x₂ x₃ a n (sets-within (word (c + 1)) x₁ a a n (omega arith) (omega arith)) (sets-within (word (u + record_words r)) x₂ (a + 2) a n (omega arith) (omega arith)))

pub added-within : (xs : List ℕ) (a n : ℕ) (rs : List Rec) (r : Rec) → 4 + 2 * (words_of rs + record_words r) ≤ n → BytesAt xs a (image rs)
    → Within xs (added xs a r) a n
unfolding added added_at
added-within xs a n rs r f h =
    rw (image-used xs a rs h) (added_at-within xs a n (word_at xs a) (2 + words_of rs) r (omega arith) (omega arith))

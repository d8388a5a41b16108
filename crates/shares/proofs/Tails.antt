-- A share is zero after its records: it begins so, and a put keeps it so. All else changes no byte.
use Prim.Native.Nat.{ℕ, zero, suc, ◌+◌, ◌-◌, ◌*◌, ◌/◌, ◌%◌, ◌≤◌, ◌<◌}
use mathlib.Core.Bool.{true}
use mathlib.Core.Path.{◌≡◌, refl, ◌∙◌, subst}
use mathlib.Core.List.{List, [], ◌∷◌, ◌++◌}
use mathlib.Core.Logic.{◌⊎◌, inl, inr}
use native.Mathlib.Omega.{arith}
use native.Mathlib.Nat.{mod-lt}
use native.Mathlib.Decide.{dec_lt}
use lib.Dec.{eqb}
use lib.ListN.{length, get_or}
use lib.Seq.{sets, length-sets}
use borrow.Author.Tests.{eqb-false}
use Rattle.words.specs.Word.{word, word_at, zeros, quiet}
use Rattle.words.proofs.Zeros.{quiet_step, quiet-end}
use Rattle.words.proofs.Stands.{BytesAt, right, same, get_d_sets, Within, word_same}
use Rattle.rules.specs.Limits.{share_bytes}
use Rattle.rules.specs.State.{Rec, Geo, Store}
use Rattle.rules.specs.Geometry.{capacity}
use Rattle.rules.specs.Store.{used, record_bytes, record_words, block_bytes, zeroed, added, tail, readied, inscribed, empty_store, put, put_all}
use Rattle.shares.specs.Image.{words_of}
use Rattle.shares.specs.Groups.{All, Small}
use Rattle.shares.specs.Holds.{Sized, InShare}
use Rattle.shares.specs.Tails.{tail_zero, blocks_zero, tails_zero}
use Rattle.rules.proofs.Split.{both, true-and}
use Rattle.shares.proofs.Image.{length-record_bytes, image-used}
use Rattle.shares.proofs.Added.{length-zeroed, zeroed-stands}
use Rattle.shares.proofs.Ring.{block-before, block_inside, block_bytes-places, block-fits-more}
use Rattle.shares.proofs.Put.{grown-put, holds-put}
use Rattle.shares.proofs.Blocks.{tail-room, tail-used}
use Rattle.shares.proofs.PutAll.{used-put}

-- all bytes from a to e are zero
abbrev pub Zero : List ℕ → ℕ → ℕ → Type 0
Zero xs a e = (i : ℕ) → a ≤ i → i < e → get_or xs i 0 ≡ 0

-- the block at a is zero after its last record
abbrev Tail : Geo → List ℕ → ℕ → Type 0
Tail g xs a = Zero xs (a + 2 * word_at xs (a + 2)) (a + block_bytes g)

pub record Tails (g : Geo) (xs : List ℕ) : Type 0 where
  pub each : (k : ℕ) → k < g.blocks → Tail g xs (k * block_bytes g)
  pub rest : Zero xs (g.blocks * block_bytes g) share_bytes

-- the test holds

pub quiet-zero : (xs : List ℕ) (n p : ℕ) → Zero xs p (p + n) → quiet xs p n ≡ true
quiet-zero xs zero p h = quiet-end xs p 0 (omega arith)
quiet-zero xs (suc n) p h =
    let z : suc n - 1 ≡ n = omega arith in
    quiet_step xs p (suc n) (omega arith) (h p (omega arith) (omega arith)) ∙ rw z (quiet-zero xs n (p + 1) (λ i l k. h i (omega arith) (omega arith)))

tail-true : (g : Geo) (xs : List ℕ) (a : ℕ) → Tail g xs a → tail_zero g xs a ≡ true
unfolding tail_zero
tail-true g xs a t = quiet-zero xs _ _ (λ i l h. t i l (omega arith))

blocks-true : (g : Geo) (xs : List ℕ) → Tails g xs → (n k : ℕ) → k + n ≤ g.blocks → blocks_zero g xs k n ≡ true
unfolding blocks_zero
blocks-true g xs t zero k h = refl
blocks-true g xs t (suc n) k h = true-and _ _ (tail-true g xs (k * block_bytes g) (t.each k (omega arith))) (blocks-true g xs t n (suc k) (omega arith))

pub tails-true : (g : Geo) (xs : List ℕ) → Tails g xs → tails_zero g xs ≡ true
unfolding tails_zero
tails-true g xs t = true-and _ _ (blocks-true g xs t g.blocks 0 (omega arith)) (quiet-zero xs _ _ (λ i l h. t.rest i l (omega arith)))

-- a block elsewhere

word_kept : (xs ys : List ℕ) (a n b : ℕ) → Within xs ys a n → (b + 2 ≤ a) ⊎ (a + n ≤ b) → word_at ys b ≡ word_at xs b
unfolding Within
word_kept xs ys a n b w (inl h) = rw (w b (inl (omega arith)), w (b + 1) (inl (omega arith)))
word_kept xs ys a n b w (inr h) = rw (w b (inr (omega arith)), w (b + 1) (inr (omega arith)))

tail-kept : (g : Geo) (xs ys : List ℕ) (a n b : ℕ) → Within xs ys a n → (b + block_bytes g ≤ a) ⊎ (a + n ≤ b) → Tail g xs b → Tail g ys b
unfolding Within
tail-kept g xs ys a n b w (inl h) t i l k =
    w i (inl (omega arith)) ∙ t i (omega (arith, word_kept xs ys a n (b + 2) w (inl (omega (arith, block_bytes-places g))))) k
tail-kept g xs ys a n b w (inr h) t i l k =
    w i (inr (omega arith)) ∙ t i (omega (arith, word_kept xs ys a n (b + 2) w (inr (omega arith)))) k

-- a block that is zeroed, and one with one record more

stands-zero : (xs : List ℕ) (n a : ℕ) → BytesAt xs a (zeros n) → Zero xs a (a + n)
unfolding BytesAt zeros
stands-zero xs zero a h i l k = absurd (omega arith)
stands-zero xs (suc n) a h i l k = go (dec_lt a i) (stands-zero xs n (suc a) h.1)
  where
    go : Dec (a < i) → Zero xs (suc a) (suc a + n) → get_or xs i 0 ≡ 0
    go (yes m) z = z i (omega arith) (omega arith)
    go (no m) z = let e : i ≡ a = omega arith in rw e h.0

zeroed-used : (n a : ℕ) (xs : List ℕ) → 4 ≤ n → a + n ≤ length xs → word_at (sets xs a (zeroed n)) (a + 2) ≡ 2
unfolding words_of
zeroed-used n a xs h k = image-used (sets xs a (zeroed n)) a [] (zeroed-stands n a xs h k)

zeroed_rest : (xs : List ℕ) (a n : ℕ) → BytesAt xs a (zeroed n) → BytesAt xs (a + 4) (zeros (n - 4))
unfolding zeroed
zeroed_rest xs a n s = right (word 2) (zeros (n - 4)) xs (a + 2) (a + 4) (omega arith) (right (word 0) (word 2 ++ zeros (n - 4)) xs a (a + 2) refl s)

tail-zeroed : (g : Geo) (xs : List ℕ) (a : ℕ) → a + block_bytes g ≤ length xs → Tail g (sets xs a (zeroed (block_bytes g))) a
tail-zeroed g xs a h i l k =
    let n = block_bytes g in
    let f : 4 ≤ n = omega (arith, block_bytes-places g) in
    let ys = sets xs a (zeroed n) in
    let s : BytesAt ys a (zeroed n) = same (zeroed n) xs a (omega (arith, length-zeroed n f)) in
    stands-zero ys (n - 4) (a + 4) (zeroed_rest ys a n s) i (omega (arith, zeroed-used n a xs f h)) (omega arith)

tail-added : (g : Geo) (xs : List ℕ) (a : ℕ) (r : Rec) → a + block_bytes g ≤ length xs → 2 ≤ word_at xs (a + 2) → 2 * (word_at xs (a + 2) + record_words r) ≤ block_bytes g
    → Tail g xs a → Tail g (added xs a r) a
unfolding added
tail-added g xs a r h low room t i l k =
    let c = word_at xs a in
    let u = word_at xs (a + 2) in
    let v = word (u + record_words r) in
    let x₁ = sets xs (a + 2 * u) (record_bytes r) in
    let x₂ = sets x₁ a (word (c + 1)) in
    let m : length x₂ ≡ length xs = length-sets x₁ a (word (c + 1)) ∙ length-sets xs (a + 2 * u) (record_bytes r) in
    let e : word_at (sets x₂ (a + 2) v) (a + 2) ≡ u + record_words r = word_same x₂ (a + 2) (u + record_words r) (omega arith) in
    get_d_sets v x₂ (a + 2) i (inr (omega arith))
    ∙ (get_d_sets (word (c + 1)) x₁ a i (inr (omega arith))
    ∙ (get_d_sets (record_bytes r) xs (a + 2 * u) i (inr (omega (arith, length-record_bytes r))) ∙ t i (omega arith) k))

-- a record that is put

module _ (g : Geo) (r : Rec) (s : Store) (o : Sized g) (w : record_words r ≤ g.words + 3) (h : InShare g s) where
  abbrev to : ℕ
  to = (s.block + used s / g.factor) % g.blocks

  -- its block
  tail-inscribed : to * block_bytes g + block_bytes g ≤ length s.share → Tail g s.share (to * block_bytes g) → Tail g (inscribed g r s) (to * block_bytes g)
  unfolding inscribed readied tail words_of All
  tail-inscribed l t =
      let n = block_bytes g in
      let a = to * n in
      both (λ (xs : List ℕ). Tail g (added xs a r) a) (eqb (used s % g.factor) 0)
      (λ e.
      let ys = sets s.share a (zeroed n) in
      let f : 4 + 2 * (0 + record_words r) ≤ n = block-fits-more g [] r o.factor tt w in
      let u : word_at ys (a + 2) ≡ 2 = zeroed-used n a s.share (omega arith) l in
      tail-added g ys a r (omega (arith, length-sets s.share a (zeroed n))) (omega arith) (omega arith) (tail-zeroed g s.share a l))
      (λ e.
      let z : 1 ≤ used s % g.factor = (let d : used s % g.factor ≡ 0 → ⊥ = eqb-false (used s % g.factor) 0 e in omega arith) in
      tail-added g s.share a r l (tail-used g s o h z) (tail-room g s r o h w z) t)

  pub tails-put : used s < capacity g.factor g.blocks → Tails g s.share → Tails g (inscribed g r s)
  tails-put c t =
      let n = block_bytes g in
      let m : to < g.blocks = mod-lt (s.block + used s / g.factor) o.blocks in
      let y : Within s.share (inscribed g r s) (to * n) n = unfold tail in (grown-put g r s o w c h).within in
      record {
        each = λ k l. each k l m y (dec_lt k to) (dec_lt to k);
        rest = λ i l k. unfold Within in (y i (inr (omega (arith, block-before to g.blocks n m))) ∙ t.rest i l k);
      }
    where
      each : (k : ℕ) → k < g.blocks → to < g.blocks → Within s.share (inscribed g r s) (to * block_bytes g) (block_bytes g) → Dec (k < to) → Dec (to < k) → Tail g (inscribed g r s) (k * block_bytes g)
      each k l m y (yes p) q = tail-kept g s.share (inscribed g r s) _ _ (k * block_bytes g) y (inl (block-before k to (block_bytes g) p)) (t.each k l)
      each k l m y (no p) (yes q) = tail-kept g s.share (inscribed g r s) _ _ (k * block_bytes g) y (inr (block-before to k (block_bytes g) q)) (t.each k l)
      each k l m y (no p) (no q) =
          let e : to ≡ k = omega arith in
          subst (λ (x : ℕ). Tail g (inscribed g r s) (x * block_bytes g)) e (tail-inscribed (omega (arith, block_inside g o to m, h.long)) (t.each to m))

-- a share of zeros, and records packed into it

zeros-zero : (n i : ℕ) → get_or (zeros n) i 0 ≡ 0
unfolding zeros
zeros-zero zero i = refl
zeros-zero (suc n) zero = refl
zeros-zero (suc n) (suc i) = zeros-zero n i

pub tails-empty : (g : Geo) → Tails g empty_store.share
unfolding empty_store
tails-empty g = record { each = λ k h i l m. zeros-zero share_bytes i; rest = λ i l m. zeros-zero share_bytes i }

pub tails-put_all : (g : Geo) (rs : List Rec) (s : Store) → Sized g → Small (g.words + 3) rs → used s + length rs ≤ capacity g.factor g.blocks → InShare g s → Tails g s.share
    → Tails g (put_all g rs s).share
unfolding put_all All put
tails-put_all g [] s o m c h t = t
tails-put_all g (r ∷ rs) s o m c h t =
    tails-put_all g rs (put g r s) o m.1 (omega (arith, used-put g r s)) (holds-put g r s o m.0 (omega arith) h) (tails-put g r s o m.0 h (omega arith) t)

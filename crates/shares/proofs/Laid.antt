-- What passes the test of a block is the image of the records that stand there, and the image of proper records passes.
use Prim.Native.Nat.{ℕ, zero, suc, ◌+◌, ◌-◌, ◌*◌, ◌%◌, ◌≤◌}
use mathlib.Core.Bool.{true, false, ◌||◌}
use mathlib.Core.Path.{◌≡◌, refl, sym, ap, ◌∙◌}
use mathlib.Core.List.{List, [], ◌∷◌, ◌++◌}
use mathlib.Core.Logic.{◌⊎◌, inl, inr}
use native.Mathlib.Omega.{arith}
use native.Mathlib.Numerals.{add-one}
use lib.Dec.{leb, eqb}
use lib.ListN.{length, get_or, take, drop, length-drop}
use lib.Seq.{length-take-le, drop-cons}
use borrow.Author.Tests.{le-leb, leb-true, eqb-true, eqb-false, eq-eqb, ne_eqb}
use Rattle.words.specs.Word.{word, word_at, Bytes}
use Rattle.words.proofs.Stands.{BytesAt, join, left, right}
use Rattle.rules.specs.Limits.{most_type}
use Rattle.rules.specs.State.{Rec, Geo}
use Rattle.rules.specs.Store.{pad, record_bytes, record_words, block_bytes}
use Rattle.shares.specs.Image.{bytes_of, words_of, image}
use Rattle.shares.specs.Groups.{All, Small}
use Rattle.shares.specs.Back.{rec_at, next, recs_at, block_recs}
use Rattle.shares.specs.Laid.{GoodRec, fair, walk, laid}
use Rattle.rules.proofs.Split.{by_cases, pick_true, and-true, true-and, or-true, true-or, pass-true}
use Rattle.shares.proofs.Image.{length-record_bytes, apart, whole, image-put, image-used}
use Rattle.shares.proofs.Back.{fields, next-stands}

-- What stands.

word_stands : (xs : List ℕ) (p : ℕ) → Bytes xs → BytesAt xs p (word (word_at xs p))
unfolding BytesAt Bytes
word_stands xs p b =
    let e : get_or xs (suc p) 0 ≡ get_or xs (p + 1) 0 = ap (λ (i : ℕ). get_or xs i 0) (sym (add-one p)) in
    (omega (arith, b (p + 1)), (omega (arith, b (p + 1)), tt))

part-stands : (xs : List ℕ) (n p : ℕ) → p + n ≤ length xs → BytesAt xs p (take n (drop p xs))
unfolding BytesAt
part-stands xs zero p h = tt
part-stands xs (suc n) p h = rw (drop-cons xs p 0 (omega arith)) (refl, part-stands xs n (suc p) (omega arith))

-- what the tests of a record say
pub record Fair (words : ℕ) (xs : List ℕ) (e p : ℕ) : Type 0 where
  pub room : p + 6 ≤ e
  pub low : 4 ≤ word_at xs p
  pub high : word_at xs p ≤ 4 + 2 * words
  pub inside : next xs p ≤ e
  pub kind : word_at xs (p + 2) ≤ most_type
  pub from : 1 ≤ word_at xs (p + 4)
  pub bare : (word_at xs (p + 2) ≡ 0) ⊎ (word_at xs p ≡ 4)
  pub even : (word_at xs p % 2 ≡ 0) ⊎ (get_or xs (p + 2 + word_at xs p) 0 ≡ 0)

or-equal : (a b c d : ℕ) → eqb a b || eqb c d ≡ true → (a ≡ b) ⊎ (c ≡ d)
or-equal a b c d h = go (or-true (eqb a b) (eqb c d) h)
  where
    go : (eqb a b ≡ true) ⊎ (eqb c d ≡ true) → (a ≡ b) ⊎ (c ≡ d)
    go (inl e) = inl (eqb-true a b e)
    go (inr e) = inr (eqb-true c d e)

pub fair-says : (words : ℕ) (xs : List ℕ) (e p : ℕ) → fair words xs e p ≡ true → Fair words xs e p
unfolding fair
fair-says words xs e p h =
    let q₇ = and-true _ (eqb (word_at xs p % 2) 0 || eqb (get_or xs (p + 2 + word_at xs p) 0) 0) h in
    let q₆ = and-true _ (eqb (word_at xs (p + 2)) 0 || eqb (word_at xs p) 4) q₇.0 in
    let q₅ = and-true _ (leb 1 (word_at xs (p + 4))) q₆.0 in
    let q₄ = and-true _ (leb (word_at xs (p + 2)) most_type) q₅.0 in
    let q₃ = and-true _ (leb (next xs p) e) q₄.0 in
    let q₂ = and-true _ (leb (word_at xs p) (4 + 2 * words)) q₃.0 in
    let q₁ = and-true (leb (p + 6) e) (leb 4 (word_at xs p)) q₂.0 in
    record {
      room = leb-true (p + 6) e q₁.0;
      low = leb-true 4 (word_at xs p) q₁.1;
      high = leb-true (word_at xs p) (4 + 2 * words) q₂.1;
      inside = leb-true (next xs p) e q₃.1;
      kind = leb-true (word_at xs (p + 2)) most_type q₄.1;
      from = leb-true 1 (word_at xs (p + 4)) q₅.1;
      bare = or-equal (word_at xs (p + 2)) 0 (word_at xs p) 4 q₆.1;
      even = or-equal (word_at xs p % 2) 0 (get_or xs (p + 2 + word_at xs p) 0) 0 q₇.1;
    }

pad-stands : (xs : List ℕ) (p w n : ℕ) → w ≡ 4 + n → (w % 2 ≡ 0) ⊎ (get_or xs (p + 2 + w) 0 ≡ 0) → BytesAt xs (p + 6 + n) (pad n)
unfolding pad BytesAt
pad-stands xs p w n e h = by_cases (eqb (n % 2) 0) (λ t. rw t tt) (λ t. rw t (odd (eqb-false (n % 2) 0 t) h, tt))
  where
    odd : (n % 2 ≡ 0 → ⊥) → (w % 2 ≡ 0) ⊎ (get_or xs (p + 2 + w) 0 ≡ 0) → get_or xs (p + 6 + n) 0 ≡ 0
    odd f (inl z) = absurd (f (omega arith))
    odd f (inr z) = let i : p + 6 + n ≡ p + 2 + w = omega arith in rw i z

-- a record that passes stands there
fair-stands : (words : ℕ) (xs : List ℕ) (e p : ℕ) → Bytes xs → e ≤ length xs → Fair words xs e p
    → BytesAt xs p (record_bytes (rec_at xs p)) × (record_words (rec_at xs p) ≤ words + 3) × (next xs p ≡ p + 2 * record_words (rec_at xs p)) × GoodRec (rec_at xs p)
unfolding rec_at record_bytes record_words next
fair-stands words xs e p b l f =
    let n = word_at xs p - 4 in
    let t = take n (drop (p + 6) xs) in
    let c : word_at xs p ≡ 4 + n = omega (arith, f.low) in
    let k : length t ≡ n = length-take-le n (drop (p + 6) xs) (rw length-drop (omega (arith, f.inside))) in
    let z = t ++ pad (length t) in
    let s₃ : BytesAt xs (p + 6) z = join t (pad (length t)) xs (p + 6) (p + 6 + n) (omega arith)
    (part-stands xs n (p + 6) (omega (arith, f.inside))) (rw k (pad-stands xs p (word_at xs p) n c f.even)) in
    let s₂ : BytesAt xs (p + 4) (word (word_at xs (p + 4)) ++ z) = join (word (word_at xs (p + 4))) z xs (p + 4) (p + 6) (omega arith) (word_stands xs (p + 4) b) s₃ in
    let s₁ : BytesAt xs (p + 2) (word (word_at xs (p + 2)) ++ (word (word_at xs (p + 4)) ++ z)) =
    join (word (word_at xs (p + 2))) (word (word_at xs (p + 4)) ++ z) xs (p + 2) (p + 4) (omega arith) (word_stands xs (p + 2) b) s₂ in
    let d : 4 + length t ≡ word_at xs p = omega arith in
    let s₀ : BytesAt xs p (word (4 + length t)) = rw d (word_stands xs p b) in (
      join (word (4 + length t)) (word (word_at xs (p + 2)) ++ (word (word_at xs (p + 4)) ++ z)) xs p (p + 2) refl s₀ s₁,
      omega (arith, f.high),
      omega arith,
      record { kind = f.kind; from = f.from; bare = bare f.bare },
    )
  where
    bare : (word_at xs (p + 2) ≡ 0) ⊎ (word_at xs p ≡ 4) → (word_at xs (p + 2) ≡ 0 → ⊥) → take (word_at xs p - 4) (drop (p + 6) xs) ≡ []
    bare (inl e) h = absurd (h e)
    bare (inr e) h = let z : word_at xs p - 4 ≡ 0 = omega arith in rw z

-- what a row of records that passes says
record Walked (words : ℕ) (xs : List ℕ) (e end p n : ℕ) : Type 0 where
  recs : BytesAt xs p (bytes_of (recs_at xs p n))
  small : Small (words + 3) (recs_at xs p n)
  proper : All GoodRec (recs_at xs p n)
  ends : p + 2 * words_of (recs_at xs p n) ≡ end

walk-stands : (words : ℕ) (xs : List ℕ) (e end : ℕ) → Bytes xs → e ≤ length xs → (n p : ℕ) → walk words xs e end p n ≡ true
    → Walked words xs e end p n
unfolding walk recs_at bytes_of words_of All BytesAt
walk-stands words xs e end b l zero p h =
    let v : p ≡ end = eqb-true p end h in
    record { recs = tt; small = tt; proper = tt; ends = omega arith }
walk-stands words xs e end b l (suc n) p h =
    let q = pass-true (fair words xs e p) (walk words xs e end (next xs p) n) h in
    let f = fair-stands words xs e p b l (fair-says words xs e p q.0) in
    let y = walk-stands words xs e end b l n (next xs p) q.1 in
    record {
      recs = join (record_bytes (rec_at xs p)) (bytes_of (recs_at xs (next xs p) n)) xs p (next xs p) (omega (arith, length-record_bytes (rec_at xs p), f.2)) f.0 y.recs;
      small = (f.1, y.small);
      proper = (f.3, y.proper);
      ends = omega (arith, y.ends, f.2);
    }

pub length-recs_at : (xs : List ℕ) (n p : ℕ) → length (recs_at xs p n) ≡ n
unfolding recs_at
length-recs_at xs zero p = refl
length-recs_at xs (suc n) p = ap suc (length-recs_at xs n (next xs p))

pub length-block_recs : (xs : List ℕ) (a : ℕ) → length (block_recs xs a) ≡ word_at xs a
unfolding block_recs
length-block_recs xs a = length-recs_at xs (word_at xs a) (a + 4)

pub laid-stands : (g : Geo) (xs : List ℕ) (a : ℕ) → Bytes xs → a + block_bytes g ≤ length xs → laid g xs a ≡ true
    → BytesAt xs a (image (block_recs xs a)) × Small (g.words + 3) (block_recs xs a) × All GoodRec (block_recs xs a)
unfolding laid block_recs
laid-stands g xs a b l h =
    let n = block_bytes g in
    let rs = recs_at xs (a + 4) (word_at xs a) in
    let y = walk-stands g.words xs (a + n) (a + 2 * word_at xs (a + 2)) b l (word_at xs a) (a + 4) h in
    let c : length rs ≡ word_at xs a = length-recs_at xs (word_at xs a) (a + 4) in
    let w : 2 + words_of rs ≡ word_at xs (a + 2) = omega (arith, y.ends) in
    (whole xs a rs (record { put = rw c (word_stands xs a b); used = rw w (word_stands xs (a + 2) b); recs = y.recs }), y.small, y.proper)

-- What passes.

pad-zero : (xs : List ℕ) (p n : ℕ) → (n % 2 ≡ 0 → ⊥) → BytesAt xs p (pad n) → get_or xs p 0 ≡ 0
unfolding pad BytesAt
pad-zero xs p n f h = let s : BytesAt xs p (0 ∷ []) = rw (ne_eqb (n % 2) 0 f) at h in s.0

equal-or : (a b c d : ℕ) → (a ≡ b) ⊎ (c ≡ d) → eqb a b || eqb c d ≡ true
equal-or a b c d (inl e) = true-or (eqb a b) (eqb c d) (λ q. absurd (eqb-false a b q e))
equal-or a b c d (inr e) = true-or (eqb a b) (eqb c d) (λ q. eq-eqb c d e)

pub fair-made : (words : ℕ) (xs : List ℕ) (e p : ℕ) → Fair words xs e p → fair words xs e p ≡ true
unfolding fair
fair-made words xs e p f =
    true-and _ _ (true-and _ _ (true-and _ _ (true-and _ _ (true-and _ _ (true-and _ _ (true-and _ _
    (le-leb (p + 6) e f.room)
    (le-leb 4 (word_at xs p) f.low))
    (le-leb (word_at xs p) (4 + 2 * words) f.high))
    (le-leb (next xs p) e f.inside))
    (le-leb (word_at xs (p + 2)) most_type f.kind))
    (le-leb 1 (word_at xs (p + 4)) f.from))
    (equal-or (word_at xs (p + 2)) 0 (word_at xs p) 4 f.bare))
    (equal-or (word_at xs p % 2) 0 (get_or xs (p + 2 + word_at xs p) 0) 0 f.even)

fair-true : (words : ℕ) (xs : List ℕ) (e p : ℕ) (r : Rec) → BytesAt xs p (record_bytes r) → p + 2 * record_words r ≤ e → record_words r ≤ words + 3
    → GoodRec r
    → fair words xs e p ≡ true
unfolding record_words
fair-true words xs e p r h k w t =
    let f = fields xs p r h in
    let n = length r.body in
    let i : p + 2 + word_at xs p ≡ p + 6 + n = omega (arith, f.size) in
    fair-made words xs e p (record {
      room = omega arith;
      low = omega (arith, f.size);
      high = omega (arith, f.size);
      inside = omega (arith, next-stands xs p r h);
      kind = omega (arith, f.kind, t.kind);
      from = omega (arith, f.from, t.from);
      bare = by_cases (eqb (word_at xs (p + 2)) 0)
          (λ q. inl (eqb-true (word_at xs (p + 2)) 0 q))
          (λ q. inr (omega (arith, f.size, ap length (t.bare (λ z. eqb-false (word_at xs (p + 2)) 0 q (f.kind ∙ z))))));
      even = by_cases (eqb (word_at xs p % 2) 0)
          (λ q. inl (eqb-true (word_at xs p % 2) 0 q))
          (λ q. inr (rw i (pad-zero xs (p + 6 + n) n (λ z. eqb-false (word_at xs p % 2) 0 q (omega (arith, f.size))) f.rest)));
    })

walk-true : (words : ℕ) (xs : List ℕ) (e end : ℕ) (rs : List Rec) (p : ℕ) → BytesAt xs p (bytes_of rs) → Small (words + 3) rs → All GoodRec rs
    → p + 2 * words_of rs ≡ end → end ≤ e
    → walk words xs e end p (length rs) ≡ true
unfolding walk bytes_of words_of All
walk-true words xs e end [] p h s t d l =
    let f : p ≡ end = omega arith in
    eq-eqb p end f
walk-true words xs e end (r ∷ rs) p h s t d l =
    let a = left (record_bytes r) (bytes_of rs) xs p h in
    let b : next xs p ≡ p + 2 * record_words r = next-stands xs p r a in
    let y = right (record_bytes r) (bytes_of rs) xs p (p + 2 * record_words r) (omega (arith, length-record_bytes r)) h in
    pick_true (fair words xs e p) (walk words xs e end (next xs p) (length rs)) false (fair-true words xs e p r a (omega arith) s.0 t.0)
    ∙ rw b (walk-true words xs e end rs (p + 2 * record_words r) y s.1 t.1 (omega arith) l)

pub laid-true : (g : Geo) (xs : List ℕ) (a : ℕ) (rs : List Rec) → 4 + 2 * words_of rs ≤ block_bytes g → Small (g.words + 3) rs → All GoodRec rs
    → BytesAt xs a (image rs)
    → laid g xs a ≡ true
unfolding laid
laid-true g xs a rs f s t h =
    let n = block_bytes g in
    let q = apart xs a rs h in
    let u : a + 4 + 2 * words_of rs ≡ a + 2 * (2 + words_of rs) = omega arith in
    rw (image-put xs a rs h, image-used xs a rs h)
    (walk-true g.words xs (a + n) (a + 2 * (2 + words_of rs)) rs (a + 4) q.recs s t u (omega arith))

-- Data records of the full size, and records without data: the plain test takes them and goes on after them.
use Prim.Native.Nat.{ℕ, ◌+◌, ◌-◌, ◌*◌, ◌/◌, ◌%◌, ◌≤◌, ◌<◌, min}
use mathlib.Core.Bool.{true}
use mathlib.Core.Path.{◌≡◌, sym, ap, ◌∙◌}
use mathlib.Core.List.{List}
use mathlib.Core.Logic.{inl}
use native.Mathlib.Omega.{arith}
use native.Mathlib.Nat.{add-mul, mul-le-mul_right}
use lib.Bits.{bit_or, bit_xor}
use lib.Dec.{eqb}
use Rattle.words.specs.Word.{word_at}
use Rattle.words.proofs.Ors.{or_left, or_right, xor_same}
use Rattle.rules.specs.Limits.{room_words}
use Rattle.shares.specs.Back.{next}
use Rattle.shares.specs.Laid.{fair, walk}
use Rattle.shares.proofs.Laid.{fair-made}
use Rattle.blocks.specs.Check.{turned}
use Rattle.blocks.proofs.check.Laws.{walk_step, walk_end}

-- the plain test takes such a record, and goes on right after it
whole-fair : (words : ℕ) (xs : List ℕ) (e p : ℕ) → p + (6 + 2 * words) ≤ e → word_at xs p ≡ 4 + 2 * words → word_at xs (p + 2) ≡ 0 → 1 ≤ word_at xs (p + 4)
    → (fair words xs e p ≡ true) × (next xs p ≡ p + (6 + 2 * words)) × (p + (6 + 2 * words) ≤ e)
unfolding next
whole-fair words xs e p room full typ from =
    let on : next xs p ≡ p + (6 + 2 * words) = omega (arith, full) in (
      fair-made words xs e p (record {
        room = omega arith;
        low = omega (arith, full);
        high = omega (arith, full);
        inside = omega (arith, on);
        kind = omega (arith, typ);
        from = from;
        bare = inl typ;
        even = inl (omega (arith, full));
      }),
      on,
      room,
    )

both_bytes : (q r s t : ℕ) → q < 256 → s < 256 → q + r * 256 ≡ s + t * 256 → (q ≡ s) × (r ≡ t)
both_bytes q r s t k l e = (omega arith, omega arith)

-- the head of a record of the full size, from the number that its two words make with their bytes turned
turned-head : (a b words : ℕ) → a < 65536 → b < 65536 → words ≤ room_words → turned a + turned b * 65536 ≡ turned (4 + 2 * words) → (a ≡ 4 + 2 * words) × (b ≡ 0)
turned-head a b words k l m e =
    let f = 4 + 2 * words in
    let z : turned b ≡ 0 = omega arith in
    let v = both_bytes (a / 256) (a % 256) (f / 256) (f % 256) (omega arith) (omega arith) (omega arith) in
    (omega (arith, v.0, v.1), omega arith)

turned-some : (a : ℕ) → 0 < turned a → 1 ≤ a
turned-some a h = omega arith

-- one of n records of the full size
one_place : (at n i m e : ℕ) → i < n → at + n * m ≤ e → at + i * m + m ≤ e
one_place at n i m e o h =
    let b : i + 1 ≤ n = omega arith in
    omega (arith, mul-le-mul_right m b, add-mul i 1 m)

-- there is room for the rest after k records without data
pub rest-room : (at n k words e : ℕ) → k ≤ n → at + n * (6 + 2 * words) ≤ e → at + 6 * k + (n - k) * (6 + 2 * words) ≤ e
rest-room at n k words e l h =
    let m = 6 + 2 * words in
    let d : n ≡ n - k + k = omega arith in
    let s : n * m ≡ (n - k) * m + k * m = ap (λ (x : ℕ). x * m) d ∙ add-mul (n - k) k m in
    omega (arith, s)

-- n records of the full size, starting at `at`: the loop has passed i and come to p, with the `or` of all differences and the least ID so far

module _ (words : ℕ) (xs : List ℕ) (at n : ℕ) where
  pub record Passed (p i all least : ℕ) : Type 0 where
    pub place : p ≡ at + i * (6 + 2 * words)
    pub same : all ≡ 0 → 0 < least → (e end : ℕ) → at + n * (6 + 2 * words) ≤ e → walk words xs e end at n ≡ walk words xs e end p (n - i)

  passed-room : (p i all least e : ℕ) → i < n → Passed p i all least → at + n * (6 + 2 * words) ≤ e → p + (6 + 2 * words) ≤ e
  passed-room p i all least e o s h = rw s.place (one_place at n i (6 + 2 * words) e o h)

  pub passed-one : (p i all least head two four : ℕ) → words ≤ room_words → i < n → head ≡ turned (4 + 2 * words)
      → four ≡ turned (word_at xs p) + turned (word_at xs (p + 2)) * 65536 → word_at xs p < 65536 → word_at xs (p + 2) < 65536 → two ≡ turned (word_at xs (p + 4))
      → Passed p i all least → Passed (p + (6 + 2 * words)) (i + 1) (bit_or all (bit_xor four head)) (min least two)
  passed-one p i all least head two four r o eh ef la lb et s = record {
    place = omega (arith, s.place, add-mul i 1 (6 + 2 * words));
    same = λ z k e end h.
        let v = turned-head (word_at xs p) (word_at xs (p + 2)) words la lb r (sym ef ∙ (xor_same four head (or_right all (bit_xor four head) z) ∙ eh)) in
        let f : 1 ≤ word_at xs (p + 4) = turned-some (word_at xs (p + 4)) (omega arith) in
        let w = whole-fair words xs e p (passed-room p i all least e o s h) v.0 v.1 f in
        let m : n - i - 1 ≡ n - (i + 1) = omega arith in
        s.same (or_left all (bit_xor four head) z) (omega arith) e end h
        ∙ walk_step words xs e end p (n - i) (p + (6 + 2 * words)) (omega arith) w.0 (sym w.1) ∙ ap (walk words xs e end (p + (6 + 2 * words))) m;
  }

  pub passed-all : (p i all least : ℕ) → n ≤ i → i ≤ n → all ≡ 0 → 0 < least → Passed p i all least → (e end : ℕ) → at + n * (6 + 2 * words) ≤ e
      → walk words xs e end at n ≡ eqb (at + n * (6 + 2 * words)) end
  passed-all p i all least o l z k s e end h =
      let y : i ≡ n = omega arith in
      let q : p ≡ at + n * (6 + 2 * words) = s.place ∙ ap (λ (x : ℕ). at + x * (6 + 2 * words)) y in
      s.same z k e end h ∙ walk_end words xs e end p (n - i) (omega arith) ∙ ap (λ (x : ℕ). eqb x end) q

-- n records, starting at `at`, the first k of them without data

module _ (xs : List ℕ) (at n : ℕ) where
  pub record Skipped (k : ℕ) : Type 0 where
    pub same : (words e end : ℕ) → at + 6 * n ≤ e → walk words xs e end at n ≡ walk words xs e end (at + 6 * k) (n - k)

  pub skipped-one : (k : ℕ) → k < n → ((words e : ℕ) → at + 6 * k + 6 ≤ e → (fair words xs e (at + 6 * k) ≡ true) × (next xs (at + 6 * k) ≡ at + 6 * k + 6)) → Skipped k → Skipped (k + 1)
  skipped-one k o f s = record {
    same = λ words e end h.
        let b = f words e (omega arith) in
        let q : at + 6 * (k + 1) ≡ next xs (at + 6 * k) = omega (arith, b.1) in
        let m : n - k - 1 ≡ n - (k + 1) = omega arith in
        s.same words e end h ∙ rw (← m) (walk_step words xs e end (at + 6 * k) (n - k) (at + 6 * (k + 1)) (omega arith) b.0 q);
  }

-- The steps of the loops.
use Prim.Native.Nat.{ℕ, zero, suc, ◌+◌, ◌-◌, ◌*◌, ◌%◌, ◌≤◌, ◌<◌, min}
use mathlib.Core.Bool.{Bool, true, false, ◌&&◌}
use mathlib.Core.Path.{◌≡◌, refl, sym, ap, ◌∙◌}
use mathlib.Core.List.{List}
use native.Mathlib.Omega.{arith}
use lib.Dec.{eqb}
use borrow.Author.Tests.{eq-eqb, ne_eqb}
use Rattle.words.specs.Word.{word_at}
use native.Mathlib.Nat.{mod-eq_of_lt, mod-mod, mul-le-mul_right}
use native.Mathlib.Numerals.{add-one}
use Rattle.rules.specs.State.{Geo}
use Rattle.rules.specs.Store.{block_bytes}
use Rattle.rules.proofs.Split.{pick_true, pick-false}
use Rattle.shares.specs.Back.{next}
use Rattle.shares.specs.Laid.{fair, walk, laid}
use Rattle.shares.specs.Sound.{sweep}
use Rattle.shares.proofs.Laid.{fair-says}
use Rattle.shares.proofs.Ring.{block_bytes-places}
use Rattle.shares.proofs.Sound.{sweep-mod}
use Rattle.ring.specs.declared.layout.Span.{Span}
use Rattle.ring.specs.Ring.{span_of, wrapped}
use Rattle.blocks.specs.Check.{laid_at}
use Rattle.ring.proofs.Laws.{wrapped-mod}

-- records one after another

module _ (words : ℕ) (xs : List ℕ) (e end p : ℕ) where
  pub walk_step : (n q : ℕ) → 0 < n → fair words xs e p ≡ true → q ≡ next xs p → walk words xs e end p n ≡ walk words xs e end q (n - 1)
  unfolding walk
  walk_step zero q o f c = absurd (omega arith)
  walk_step (suc n) q o f c = let z : suc n - 1 ≡ n = omega arith in rw (z, c) (pick_true (fair words xs e p) _ false f)

  walk-bad : (n : ℕ) → 0 < n → fair words xs e p ≡ false → walk words xs e end p n ≡ false
  unfolding walk
  walk-bad zero o f = absurd (omega arith)
  walk-bad (suc n) o f = pick-false (fair words xs e p) _ false f

  pub walk_end : (n : ℕ) → n ≤ 0 → walk words xs e end p n ≡ eqb p end
  unfolding walk
  walk_end zero o = refl
  walk_end (suc n) o = absurd (omega arith)

-- of n records after `at` the walk has passed i, and has come to p
module _ (words : ℕ) (xs : List ℕ) (e end at n : ℕ) where
  pub record Walked (p i : ℕ) : Type 0 where
    pub same : walk words xs e end at n ≡ walk words xs e end p (n - i)
    pub inside : p ≤ e

  module _ (p i : ℕ) (k : Walked p i) where
    pub walked_on : i < n → fair words xs e p ≡ true → (q : ℕ) → q ≡ next xs p → Walked q (i + 1)
    walked_on o f q c =
        let m : n - i - 1 ≡ n - (i + 1) = omega arith in
        record {
          same = k.same ∙ walk_step words xs e end p (n - i) q (omega arith) f c ∙ ap (walk words xs e end q) m;
          inside = rw c (fair-says words xs e p f).inside;
        }

    pub walked-bad : i < n → fair words xs e p ≡ false → false ≡ walk words xs e end at n
    walked-bad o f = sym (k.same ∙ walk-bad words xs e end p (n - i) (omega arith) f)

    pub walked-all : n ≤ i → eqb p end ≡ walk words xs e end at n
    walked-all o = sym (k.same ∙ walk_end words xs e end p (n - i) (omega arith))

-- blocks round the ring

-- a block has room for c records of the full size
pub sweep-room : (g : Geo) (k left c : ℕ) (b : Span) → b ≡ span_of g k → c ≡ min left g.factor → 4 + c * (6 + 2 * g.words) ≤ b.size
sweep-room g k left c b e m =
    let f : c ≤ g.factor = omega arith in
    rw e (omega (arith, mul-le-mul_right (g.words + 3) f, block_bytes-places g))

module _ (g : Geo) (xs : List ℕ) (k left : ℕ) where
  pub sweep-done : (n : ℕ) → left ≡ 0 → sweep g xs k n left ≡ true
  unfolding sweep
  sweep-done zero z = eq-eqb left 0 z
  sweep-done (suc n) z = pick_true (eqb left 0) true _ (eq-eqb left 0 z)

  pub sweep-end : (n : ℕ) → n ≤ 0 → sweep g xs k n left ≡ eqb left 0
  unfolding sweep
  sweep-end zero o = refl
  sweep-end (suc n) o = absurd (omega arith)

  abbrev start : ℕ
  start = k % g.blocks * block_bytes g

  sweep-next : (n : ℕ) → 0 < n → (left ≡ 0 → ⊥)
      → sweep g xs k n left ≡ laid g xs start && eqb (word_at xs start) (min left g.factor) && sweep g xs (suc k) (n - 1) (left - g.factor)
  unfolding sweep
  sweep-next zero o z = absurd (omega arith)
  sweep-next (suc n) o z = let m : suc n - 1 ≡ n = omega arith in rw m (pick-false (eqb left 0) true _ (ne_eqb left 0 z))

  -- the next block, its bytes and its count as the code has them
  module _ (n c : ℕ) (b : Span) (o : 0 < n) (z : left ≡ 0 → ⊥) (l : k < g.blocks) (e : b ≡ span_of g k) (m : c ≡ min left g.factor) where
    test : laid_at g.words xs b && eqb (word_at xs b.at) c ≡ laid g xs start && eqb (word_at xs start) (min left g.factor)
    unfolding laid_at laid
    test = rw (mod-eq_of_lt l, e, m)

    pub sweep-bad : laid_at g.words xs b && eqb (word_at xs b.at) c ≡ false → sweep g xs k n left ≡ false
    sweep-bad f = sweep-next n o z ∙ ap (λ (t : Bool). t && sweep g xs (suc k) (n - 1) (left - g.factor)) (sym test ∙ f)

    pub sweep-step : (j : ℕ) → j ≡ wrapped g.blocks (k + 1) → laid_at g.words xs b && eqb (word_at xs b.at) c ≡ true
        → sweep g xs k n left ≡ sweep g xs j (n - 1) (left - c)
    sweep-step j w f =
        let d = g.blocks in
        let r : left - g.factor ≡ left - c = omega arith in
        let y : j ≡ (k + 1) % d = w ∙ wrapped-mod d (k + 1) (omega arith) in
        let q : suc k % d ≡ j % d = rw (← add-one k) (sym (mod-mod (k + 1) d) ∙ ap (λ (x : ℕ). x % d) (sym y)) in
        sweep-next n o z
        ∙ (ap (λ (t : Bool). t && sweep g xs (suc k) (n - 1) (left - g.factor)) (sym test ∙ f)
        ∙ (sweep-mod g xs (n - 1) (suc k) j (left - g.factor) q ∙ ap (sweep g xs j (n - 1)) r))

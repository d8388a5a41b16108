-- A cursor stands at the oldest record of its ring: that record can be read, the rest are those of the ring without it, and one step on the cursor stands there.
use Prim.Native.Nat.{ℕ, zero, suc, ◌+◌, ◌-◌, ◌*◌, ◌≤◌, ◌<◌}
use mathlib.Core.Path.{◌≡◌, refl, sym, ap, ap₂, ◌∙◌}
use mathlib.Core.List.{List, [], ◌∷◌}
use native.Mathlib.Omega.{arith}
use native.Mathlib.Numerals.{add-one}
use lib.Dec.{leb}
use lib.ListN.{length, take, drop}
use borrow.Author.Tests.{le-leb, lt-leb, leb-true, leb-false}
use Rattle.words.specs.Word.{word_at}
use Rattle.rules.specs.Limits.{share_bytes}
use Rattle.rules.specs.State.{Rec, Geo, Store}
use Rattle.rules.specs.Store.{block_bytes}
use Rattle.rules.proofs.Split.{by_cases, pick_true, pick-false}
use Rattle.shares.specs.Back.{rec_at, next, ring_recs, read_back}
use Rattle.shares.specs.Places.{skip, place_in, head_at}
use Rattle.shares.proofs.Image.{record_words-least}
use Rattle.shares.proofs.Says.{spent-empty}
use Rattle.shares.proofs.Places.{Whole, head_at-stands, head_at-read, head_at-full}
use Rattle.ring.specs.declared.Ring.{Ring}
use Rattle.ring.specs.declared.layout.Span.{Span}
use Rattle.ring.specs.Ring.{geo, span_of, Ranged, advanced}
use Rattle.ring.specs.Held.{Held}
use Rattle.ring.proofs.Laws.{advanced-inside}
use Rattle.ring.proofs.Held.{own, held-long, held-ranged, held-recs, held-advanced, held-rest}
use Rattle.records.specs.declared.cursor.Cursor.{Cursor}
use Rattle.records.specs.Reading.{Readable}
use Rattle.records.specs.Cursor.{head_place, held_recs, Behind, AtRecord}
use Rattle.records.proofs.reading.Stores.{readable-head}

-- Skip.

skip_step : (xs : List ℕ) (e p q n : ℕ) → 0 < n → p + 6 ≤ e → q ≡ next xs p → skip xs e p n ≡ skip xs e q (n - 1)
unfolding skip
skip_step xs e p q zero o h f = absurd (omega arith)
skip_step xs e p q (suc n) o h f =
    let z : suc n - 1 ≡ n = omega arith in
    rw (z, f) (pick_true (leb (p + 6) e) (skip xs e (next xs p) n) e (le-leb (p + 6) e h))

skip_stop : (xs : List ℕ) (e p n : ℕ) → 0 < n → e < p + 6 → skip xs e p n ≡ e
unfolding skip
skip_stop xs e p zero o h = absurd (omega arith)
skip_stop xs e p (suc n) o h = pick-false (leb (p + 6) e) (skip xs e (next xs p) n) e (lt-leb (p + 6) e h)

-- a record's head that stands n records on has one before it at each step
skip-within : (xs : List ℕ) (e p n : ℕ) → 0 < n → skip xs e p n + 6 ≤ e → p + 6 ≤ e
skip-within xs e p n o h = by_cases (leb (p + 6) e) (λ t. leb-true (p + 6) e t) (λ t. absurd (omega (arith, skip_stop xs e p n o (leb-false (p + 6) e t))))

skip-end : (xs : List ℕ) (e p n : ℕ) → n ≤ 0 → skip xs e p n ≡ p
unfolding skip
skip-end xs e p zero h = refl
skip-end xs e p (suc n) h = absurd (omega arith)

-- of n records after `at` the walk has passed i, and has come to p
module _ (xs : List ℕ) (at n : ℕ) where
  pub record Passed (p i : ℕ) : Type 0 where
    pub same : (e : ℕ) → Behind xs e at n → skip xs e at n ≡ skip xs e p (n - i)

  module _ (p i : ℕ) (k : Passed p i) where
    -- a record stands under each step
    pub passed-under : i < n → (e : ℕ) → Behind xs e at n → p + 6 ≤ e
    passed-under o e h = skip-within xs e p (n - i) (omega arith) (omega (arith, k.same e h, h (omega arith)))

    pub passed_on : i < n → (q : ℕ) → q ≡ next xs p → Passed q (i + 1)
    passed_on o q f = record {
      same = λ e h.
          let m : n - i - 1 ≡ n - (i + 1) = omega arith in
          k.same e h ∙ skip_step xs e p q (n - i) (omega arith) (passed-under o e h) f ∙ ap (skip xs e q) m;
    }

    pub passed-all : n ≤ i → (e : ℕ) → Behind xs e at n → p ≡ skip xs e at n
    passed-all o e h = sym (k.same e h ∙ skip-end xs e p (n - i) (omega arith))

-- one record more
skip-more : (xs : List ℕ) (e n p : ℕ) → skip xs e p (suc n) ≡ skip xs e (skip xs e p n) 1
unfolding skip
skip-more xs e zero p = refl
skip-more xs e (suc n) p = by_cases (leb (p + 6) e)
    (λ t. let a : skip xs e p (suc n) ≡ skip xs e (next xs p) n = pick_true (leb (p + 6) e) (skip xs e (next xs p) n) e t in
    let b : skip xs e p (suc (suc n)) ≡ skip xs e (next xs p) (suc n) = pick_true (leb (p + 6) e) (skip xs e (next xs p) (suc n)) e t in
    b ∙ (skip-more xs e n (next xs p) ∙ ap (λ (q : ℕ). skip xs e q 1) (sym a)))
    (λ t. let f : e < p + 6 = leb-false (p + 6) e t in
    skip_stop xs e p (suc (suc n)) (omega arith) f ∙ (sym (skip_stop xs e e 1 (omega arith) (omega arith)) ∙ ap (λ (q : ℕ). skip xs e q 1) (sym (skip_stop xs e p (suc n) (omega arith) f))))

-- the block's bytes being as the code has them
pub head-made : (g : Geo) (xs : List ℕ) (k i : ℕ) (b : Span) → b ≡ span_of g k → (p : ℕ) → p ≡ skip xs (b.at + b.size) (b.at + 4) i → p ≡ place_in g xs k i
unfolding place_in
head-made g xs k i b e p f = f ∙ ap (λ (s : Span). skip xs (s.at + s.size) (s.at + 4) i) e

-- no records
pub recs-none : (w : ℕ) (r : Ring) (xs : List ℕ) → r.held ≤ 0 → held_recs w r xs ≡ []
unfolding read_back
recs-none w r xs l =
    let z : r.held ≡ 0 = omega arith in
    ap (λ (n : ℕ). take n (drop r.spent (ring_recs (geo w r) xs r.block r.blocks))) z

oldest-of : (l : List Rec) → 0 < length l → (q : Rec) × (rest : List Rec) × (l ≡ q ∷ rest)
oldest-of [] n = absurd (omega arith)
oldest-of (q ∷ rest) n = (q, rest, refl)

-- a ring that holds a record
module _ (w : ℕ) (r : Ring) (xs : List ℕ) (h : Held w r xs) where
  abbrev g : Geo
  g = geo w r

  abbrev s : Store
  s = h.store

  pub held-head : (q : Rec) (rest : List Rec) → s.recs ≡ q ∷ rest → Readable xs (head_place w r xs) × (rec_at xs (head_place w r xs) ≡ q)
  unfolding head_at
  held-head q rest e =
      own w r xs h (λ (t : Ring) (ys : List ℕ). Readable ys (place_in g ys t.block t.spent) × (rec_at ys (place_in g ys t.block t.spent) ≡ q))
      (readable-head g s h.fitted.sized h.holds q rest e, head_at-read g s q rest h.fitted.sized h.holds e)

  -- the oldest record lies whole in its block
  head-inside : (q : Rec) (rest : List Rec) → s.recs ≡ q ∷ rest → head_place w r xs + 6 ≤ r.block * block_bytes g + block_bytes g
  unfolding head_at Whole
  head-inside q rest e =
      own w r xs h (λ (t : Ring) (ys : List ℕ). place_in g ys t.block t.spent + 6 ≤ t.block * block_bytes g + block_bytes g)
      (omega (arith, (head_at-stands g s q rest h.fitted.sized h.holds e).1, record_words-least q))

  -- the spent records of the oldest block are passed one by one
  pub head-behind : (b : Span) → b ≡ span_of g r.block → Behind xs (b.at + b.size) (b.at + 4) r.spent
  unfolding place_in
  head-behind b e o = rw e (held-on-spent s.recs refl)
    where
      held-on-spent : (l : List Rec) → s.recs ≡ l → head_place w r xs + 6 ≤ r.block * block_bytes g + block_bytes g
      held-on-spent [] n = absurd (omega (arith, spent-empty g s h.holds n, ap (λ (t : Ring). t.spent) h.ring))
      held-on-spent (q ∷ rest) n = head-inside q rest n

  -- all records of its block being of the full size
  pub stands-full : (b : Span) → b ≡ span_of g r.block → word_at xs (b.at + 2) ≡ 2 + word_at xs b.at * (w + 3) → (p : ℕ) → p ≡ b.at + 4 + r.spent * (6 + 2 * w)
      → AtRecord w xs (record { ring = r; at = p })
  unfolding head_at
  stands-full b e t p f =
      let at : b.at ≡ r.block * block_bytes g = ap (λ (x : Span). x.at) e in
      let t' : word_at xs (r.block * block_bytes g + 2) ≡ 2 + word_at xs (r.block * block_bytes g) * (w + 3) = rw at at t in
      let place : word_at xs (r.block * block_bytes g + 2) ≡ 2 + word_at xs (r.block * block_bytes g) * (w + 3) → head_place w r xs ≡ r.block * block_bytes g + 4 + r.spent * (2 * (w + 3)) =
      own w r xs h
      (λ (t : Ring) (ys : List ℕ). word_at ys (t.block * block_bytes g + 2) ≡ 2 + word_at ys (t.block * block_bytes g) * (w + 3) → place_in g ys t.block t.spent ≡ t.block * block_bytes g + 4 + t.spent * (2 * (w + 3)))
      (head_at-full g s h.holds) in
      let z : 6 + 2 * w ≡ 2 * (w + 3) = omega arith in
      record { held = h; at = f ∙ (ap (λ (x : ℕ). x + 4 + r.spent * (6 + 2 * w)) at ∙ (ap (λ (x : ℕ). r.block * block_bytes g + 4 + r.spent * x) z ∙ sym (place t'))) }

  module _ (l : 0 < r.held) where
    first : (q : Rec) × (rest : List Rec) × (s.recs ≡ q ∷ rest)
    first = oldest-of s.recs (omega (arith, ap (λ (t : Ring). t.held) h.ring))

    pub head-readable : Readable xs (head_place w r xs)
    head-readable = (held-head first.0 first.1 first.2).0

    pub recs-on : held_recs w r xs ≡ rec_at xs (head_place w r xs) ∷ held_recs w (advanced r) xs
    recs-on =
        let e = first.2 in
        sym (held-recs w r xs h) ∙ (e ∙ ap₂ {C = List Rec} (λ (q : Rec) (rest : List Rec). q ∷ rest) (sym (held-head first.0 first.1 e).1) (held-rest w r xs h first.0 first.1 e))

    pub held_on : Held w (advanced r) xs
    held_on = held-advanced w r xs h first.0 first.1 first.2

    -- the record after the oldest one in its block
    head-next : ((advanced r).spent ≡ 0 → ⊥) → next xs (head_place w r xs) ≡ head_place w (advanced r) xs
    unfolding place_in skip
    head-next n =
        let b = r.block * block_bytes g in
        let e = b + block_bytes g in
        rw (advanced-inside r n, add-one r.spent)
        (sym (skip-more xs e r.spent (b + 4) ∙ skip_step xs e (head_place w r xs) (next xs (head_place w r xs)) 1 (omega arith) (head-inside first.0 first.1 first.2) refl))

-- Cursors.

module _ (w : ℕ) (xs : List ℕ) (c : Cursor) (S : AtRecord w xs c) where
  pub stands-long : length xs ≡ share_bytes
  stands-long = held-long w c.ring xs S.held

  pub stands-ranged : Ranged c.ring
  stands-ranged = held-ranged w c.ring xs S.held

  module _ (l : 0 < c.ring.held) where
    pub stands-readable : Readable xs c.at
    stands-readable = rw S.at (head-readable w c.ring xs S.held l)

    -- the records still to go are the one under the cursor and those of the ring without it
    pub stands-recs : held_recs w c.ring xs ≡ rec_at xs c.at ∷ held_recs w (advanced c.ring) xs
    stands-recs = rw S.at (recs-on w c.ring xs S.held l)

    pub stands-held : (z : Ring) → z ≡ advanced c.ring → Held w z xs
    stands-held z e = rw e (held_on w c.ring xs S.held l)

    -- the cursor one record further is at the start of the next block, or right after the record
    pub stands-start : (z : Ring) → z ≡ advanced c.ring → (b : Span) → b ≡ span_of (geo w z) z.block → z.spent ≡ 0 → AtRecord w xs (record { ring = z; at = b.at + 4 })
    unfolding place_in skip
    stands-start z e b f n = record {
      held = stands-held z e;
      at = ap (λ (t : Span). t.at + 4) f ∙ ap (λ (i : ℕ). place_in (geo w z) xs z.block i) (sym n);
    }

    pub stands-next : (z : Ring) → z ≡ advanced c.ring → (z.spent ≡ 0 → ⊥) → (p : ℕ) → p ≡ next xs c.at → AtRecord w xs (record { ring = z; at = p })
    stands-next z e n p f = record {
      held = stands-held z e;
      at = f ∙ (ap (next xs) S.at ∙ (head-next w c.ring xs S.held l (λ y. n (ap (λ (t : Ring). t.spent) e ∙ y)) ∙ ap (λ (t : Ring). head_place w t xs) (sym e)));
    }

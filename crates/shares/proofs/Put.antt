-- A record that is put comes after those held.
use Prim.Native.Nat.{ℕ, zero, suc, ◌+◌, ◌*◌, ◌/◌, ◌%◌, ◌≤◌, ◌<◌}
use mathlib.Core.Path.{◌≡◌, refl, sym, ap, ◌∙◌}
use mathlib.Core.List.{List, [], ◌∷◌, ◌++◌}
use mathlib.Core.Logic.{◌⊎◌, inl, inr}
use native.Mathlib.Omega.{arith}
use native.Mathlib.Nat.{suc-mul, mul_comm, mod-lt, div-add-mod', div-lt_iff_lt-mul}
use lib.Dec.{ltb, eqb}
use lib.ListN.{length, drop}
use lib.Seq.{sets, length-sets, drop-append-le}
use borrow.Author.Tests.{lt-ltb, le-ltb, ne_eqb}
use Rattle.words.proofs.Stands.{BytesAt, Within, within-then, kept}
use Rattle.rules.specs.Limits.{share_bytes}
use Rattle.rules.specs.State.{Rec, Geo, Store}
use Rattle.rules.specs.Geometry.{capacity}
use Rattle.rules.specs.Store.{used, record_words, block_bytes, zeroed, added, tail, readied, inscribed, put}
use Rattle.shares.specs.Image.{words_of, image}
use Rattle.shares.specs.Inscribed.{inscribed_at}
use Rattle.shares.specs.Groups.{All, flat, Shape, add_to}
use Rattle.shares.specs.Holds.{Sized, At, InShare}
use Rattle.rules.proofs.Split.{both, pick_true, pick-false}
use Rattle.shares.proofs.Added.{zeroed-stands, zeroed-within, length-added, added-stands, added-within}
use Rattle.shares.proofs.Says.{used-flat}
use Rattle.shares.proofs.Groups.{all_snoc, begun-flat, shape-full, shape-last, flat-add_to, shape-add_to, begun-add_to, length-add_to}
use Rattle.shares.proofs.Ring.{ring-inside, ring-apart, block-fits-more, length-block}

pub length-inscribed_at : (n : ℕ) (xs : List ℕ) (a i : ℕ) (r : Rec) → length (inscribed_at n xs a i r) ≡ length xs
unfolding inscribed_at
length-inscribed_at n xs a i r = length-added _ a r ∙ both (λ (ys : List ℕ). length ys ≡ length xs) (eqb i 0) (λ e. length-sets xs a (zeroed n)) (λ e. refl)

-- all that a put changes lies in its block, which then holds the record
unfoldable pub Inscribed : ℕ → List ℕ → List ℕ → ℕ → List Rec → Type 0
Inscribed n xs ys a rs = BytesAt ys a (image rs) × Within xs ys a n

-- a block's first record
pub inscribed-first : (n : ℕ) (xs : List ℕ) (a : ℕ) (r : Rec) → 4 + 2 * record_words r ≤ n → a + n ≤ length xs
    → Inscribed n xs (inscribed_at n xs a 0 r) a (r ∷ [])
unfolding inscribed_at words_of Inscribed
inscribed-first n xs a r f h =
    let ys = sets xs a (zeroed n) in
    let o : BytesAt ys a (image []) = zeroed-stands n a xs (omega arith) h in
    let l : length ys ≡ length xs = length-sets xs a (zeroed n) in (
      added-stands ys a n [] r (omega arith) (omega arith) o,
      within-then xs ys (added ys a r) a n (zeroed-within n a xs (omega arith)) (added-within ys a n [] r (omega arith) o),
    )

-- a record put after others
pub inscribed-next : (n : ℕ) (xs : List ℕ) (a i : ℕ) (rs : List Rec) (r : Rec) → 1 ≤ i → 4 + 2 * (words_of rs + record_words r) ≤ n → a + n ≤ length xs
    → BytesAt xs a (image rs)
    → Inscribed n xs (inscribed_at n xs a i r) a (rs ++ (r ∷ []))
unfolding inscribed_at Inscribed
inscribed-next n xs a i rs r z f h s =
    rw (pick-false (eqb i 0) (sets xs a (zeroed n)) xs (ne_eqb i 0 (λ e. omega arith)))
    (added-stands xs a n rs r f h s, added-within xs a n rs r f s)

-- what is no longer than a block stands apart from another block
shorter : (b m n a : ℕ) → m ≤ n → (b + n ≤ a) ⊎ (a + n ≤ b) → (b + m ≤ a) ⊎ (a + n ≤ b)
shorter b m n a h (inl k) = inl (omega arith)
shorter b m n a h (inr k) = inr k

-- Where the groups have j * factor + i records, one more goes to the block j further on.
module _ (g : Geo) (o : Sized g) (r : Rec) (w : record_words r ≤ g.words + 3) (xs : List ℕ) (l : length xs ≡ share_bytes) (i : ℕ) (p : i < g.factor) where
  abbrev place : ℕ → ℕ
  place k = k % g.blocks * block_bytes g

  abbrev after : ℕ → List ℕ
  after k = inscribed_at (block_bytes g) xs (place k) i r

  -- the new record's block, and what was in it
  at-put : (qs : List (List Rec)) (k j : ℕ) → length (flat qs) ≡ j * g.factor + i → Shape g.factor qs → j < g.blocks → At g xs k qs
      → At g (after (k + j)) k (add_to g.factor qs r) × Within xs (after (k + j)) (place (k + j)) (block_bytes g)
  unfolding flat add_to At Shape All Inscribed words_of
  at-put [] k zero u s q a =
      let e : i ≡ 0 = omega arith in
      let f : k + 0 ≡ k = omega arith in
      let c : 4 + 2 * (0 + record_words r) ≤ block_bytes g = block-fits-more g [] r o.factor tt w in
      let y = inscribed-first (block_bytes g) xs (place k) r (omega arith) (omega (arith, ring-inside g o k)) in
      rw (e, f) (((w, tt), y.0, tt), y.1)
  at-put [] k (suc j) u s q a = absurd (omega (arith, suc-mul j g.factor, o.factor))
  at-put (t ∷ qs) k zero u s q a =
      let f : k + 0 ≡ k = omega arith in
      let c = shape-last g.factor i t qs s u p in
      let y = inscribed-next (block_bytes g) xs (place k) i t r c.1 (block-fits-more g t r c.0 a.0 w) (omega (arith, ring-inside g o k)) a.1 in
      rw (f, c.2, pick_true (ltb (length t) g.factor) ((t ++ (r ∷ [])) ∷ []) (t ∷ add_to g.factor [] r) (lt-ltb (length t) g.factor c.0))
      ((all_snoc _ t r a.0 w, y.0, tt), y.1)
  at-put (t ∷ qs) k (suc j) u s q a =
      let f : k + suc j ≡ suc k + j = omega arith in
      let c = shape-full g.factor j i t qs s u in
      let y = at-put qs (suc k) j c.1 s.3 (omega arith) a.2 in
      let z : length (image t) ≤ block_bytes g = length-block g t s.1 a.0 in
      let d = ring-apart g.blocks (block_bytes g) k (suc k + j) (omega arith) (omega arith) in
      rw (f, pick-false (ltb (length t) g.factor) ((t ++ (r ∷ [])) ∷ qs) (t ∷ add_to g.factor qs r) (le-ltb (length t) g.factor (omega (arith, c.0)))) (
        (a.0, kept (image t) xs (after (suc k + j)) (place k) (place (suc k + j)) (block_bytes g) y.1 (shorter (place k) (length (image t)) (block_bytes g) (place (suc k + j)) z d) a.1, y.0),
        y.1,
      )

pub inscribed-at : (g : Geo) (r : Rec) (s : Store) → inscribed g r s ≡ inscribed_at (block_bytes g) s.share (tail g s) (used s % g.factor) r
unfolding inscribed readied inscribed_at
inscribed-at g r s = refl

pub length-inscribed : (g : Geo) (r : Rec) (s : Store) → length (inscribed g r s) ≡ length s.share
length-inscribed g r s = ap length (inscribed-at g r s) ∙ length-inscribed_at (block_bytes g) s.share (tail g s) (used s % g.factor) r

-- a store to which r was put
pub record Grown (g : Geo) (r : Rec) (s : Store) (h : InShare g s) : Type 0 where
  pub holds : InShare g (put g r s)
  pub more : flat holds.groups ≡ flat h.groups ++ (r ∷ [])
  -- all that changed lies in the block that took it
  pub within : Within s.share (inscribed g r s) (tail g s) (block_bytes g)

pub grown-put : (g : Geo) (r : Rec) (s : Store) → Sized g → record_words r ≤ g.words + 3 → used s < capacity g.factor g.blocks
    → (h : InShare g s)
    → Grown g r s h
unfolding put inscribed readied inscribed_at tail capacity
grown-put g r s o w c h =
    let b = g.factor in
    let j = used s / b in
    let i = used s % b in
    let u : length (flat h.groups) ≡ j * b + i = sym (used-flat g s h) ∙ sym (div-add-mod' (used s) b) in
    let p : i < b = mod-lt (used s) o.factor in
    let q : j < g.blocks = (div-lt_iff_lt-mul o.factor).1 (omega (arith, mul_comm b g.blocks)) in
    let y = at-put g o r w s.share h.long i p h.groups s.block j u h.shape q h.at in
    record {
      holds = record {
        long = length-inscribed g r s ∙ h.long;
        block = h.block;
        groups = add_to b h.groups r;
        few = omega (arith, q, length-add_to b j i h.groups r u p h.shape);
        shape = shape-add_to b o.factor h.groups r h.shape;
        begun = begun-add_to b s.spent h.groups r h.begun;
        recs = ap (drop s.spent) (flat-add_to b h.groups r h.shape)
            ∙ (drop-append-le s.spent (flat h.groups) (r ∷ []) (begun-flat s.spent h.groups h.begun) ∙ ap (λ (q : List Rec). q ++ (r ∷ [])) h.recs);
        at = y.0;
      };
      more = flat-add_to b h.groups r h.shape;
      within = y.1;
    }

-- where the ring has a place for one more
pub holds-put : (g : Geo) (r : Rec) (s : Store) → Sized g → record_words r ≤ g.words + 3 → used s < capacity g.factor g.blocks → InShare g s
    → InShare g (put g r s)
holds-put g r s o w c h = (grown-put g r s o w c h).holds

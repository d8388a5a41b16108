-- A record stands at its place, and can be read there.
use Prim.Native.Nat.{ℕ, suc, ◌+◌, ◌*◌, ◌/◌, ◌%◌, ◌≤◌, ◌<◌}
use mathlib.Core.Path.{◌≡◌, refl, sym, ap, ◌∙◌}
use mathlib.Core.List.{List, [], ◌∷◌, ◌++◌}
use native.Mathlib.Omega.{arith}
use native.Mathlib.Nat.{add-zero, add-mul, mod-lt, mod-eq_of_lt, div-eq_of_lt, div-add-mod'}
use lib.Dec.{leb}
use lib.ListN.{length, get_or, take, drop, length-append, length-take, length-drop, take-append-drop}
use lib.Seq.{split_at, length-take-le, get_or-take, get_or-drop}
use borrow.Author.Tests.{le-leb}
use Rattle.words.proofs.Stands.{BytesAt, left, right}
use Rattle.rules.specs.State.{Rec, Geo, Store}
use Rattle.rules.specs.Store.{used, record_bytes, record_words, block_bytes}
use Rattle.words.specs.Word.{word_at}
use Rattle.shares.specs.Groups.{Small, Shape, Begun}
use Rattle.shares.specs.Image.{bytes_of, words_of, image}
use Rattle.shares.specs.Holds.{Sized, At, InShare}
use Rattle.shares.specs.Back.{rec_at, next, used_recs, group_at}
use Rattle.shares.specs.Places.{skip, place_in, place_of, head_at}
use Rattle.rules.proofs.Split.{pick_true}
use Rattle.shares.proofs.Image.{length-record_bytes, record_words-least, words_of-append, apart, image-put, image-used}
use Rattle.shares.proofs.Groups.{all_take, all_drop, words_of-small}
use Rattle.shares.proofs.Ring.{block_inside, ring-inside, block-fits}
use Rattle.shares.proofs.Says.{spent-most}
use Rattle.shares.proofs.Back.{rec_at-stands, next-stands}
use Rattle.shares.proofs.Used.{length-used_recs, drop-used_recs}
use Rattle.shares.proofs.Blocks.{block-stands, length-group_at, small-group_at}

-- a record that ends no later than at e
unfoldable pub Whole : List ℕ → ℕ → ℕ → Rec → Type 0
Whole xs p e r = BytesAt xs p (record_bytes r) × (p + 2 * record_words r ≤ e)

skip-stands : (xs : List ℕ) (e : ℕ) (f t : List Rec) (p : ℕ) → p + 2 * words_of f ≤ e → BytesAt xs p (bytes_of (f ++ t))
    → (skip xs e p (length f) ≡ p + 2 * words_of f) × BytesAt xs (p + 2 * words_of f) (bytes_of t)
unfolding skip words_of bytes_of
skip-stands xs e [] t p l h = let z : p + 2 * 0 ≡ p = omega arith in rw z (refl, h)
skip-stands xs e (r ∷ f) t p l h =
    let q : next xs p ≡ p + 2 * record_words r = next-stands xs p r (left (record_bytes r) (bytes_of (f ++ t)) xs p h) in
    let y = skip-stands xs e f t (p + 2 * record_words r) (omega arith)
    (right (record_bytes r) (bytes_of (f ++ t)) xs p (p + 2 * record_words r) (omega (arith, length-record_bytes r)) h) in
    let z : p + 2 * (record_words r + words_of f) ≡ p + 2 * record_words r + 2 * words_of f = omega arith in
    rw (pick_true (leb (p + 6) e) (skip xs e (next xs p) (length f)) e (le-leb (p + 6) e (omega (arith, record_words-least r))), q, z) y

-- in a block that holds rs
skip-image : (xs : List ℕ) (a n : ℕ) (rs : List Rec) (i : ℕ) (d : Rec) → 4 + 2 * words_of rs ≤ n → BytesAt xs a (image rs) → i < length rs
    → Whole xs (skip xs (a + n) (a + 4) i) (a + n) (get_or rs i d)
unfolding Whole words_of bytes_of
skip-image xs a n rs i d l h k =
    let f = take i rs in
    let r = get_or rs i d in
    let t = drop (suc i) rs in
    let e : rs ≡ f ++ (r ∷ t) = split_at rs i d k in
    let m : length f ≡ i = length-take-le i rs (omega arith) in
    let w : words_of rs ≡ words_of f + (record_words r + words_of t) = ap words_of e ∙ words_of-append f (r ∷ t) in
    let b : BytesAt xs (a + 4) (bytes_of (f ++ (r ∷ t))) = rw e at (apart xs a rs h).recs in
    let y = skip-stands xs (a + n) f (r ∷ t) (a + 4) (omega arith) b in
    let s : skip xs (a + n) (a + 4) i ≡ a + 4 + 2 * words_of f = ap (skip xs (a + n) (a + 4)) (sym m) ∙ y.0 in
    rw s (left (record_bytes r) (bytes_of t) xs (a + 4 + 2 * words_of f) y.1, omega arith)

-- the record that has u before it since the start of the oldest block
pub place_of-stands : (g : Geo) (s : Store) → Sized g → InShare g s → (u : ℕ) (d : Rec) → u < used s
    → Whole s.share (place_of g s.share s.block u) ((s.block + u / g.factor) % g.blocks * block_bytes g + block_bytes g) (get_or (used_recs g s) u d)
unfolding place_of place_in group_at
place_of-stands g s o h u d l =
    let b = g.factor in
    let j = u / b in
    let i = u % b in
    let c : j * b + i ≡ u = div-add-mod' u b in
    let v : i < b = mod-lt u o.factor in
    let e : get_or (group_at g s j) i d ≡ get_or (used_recs g s) u d =
    get_or-take b (drop (j * b) (used_recs g s)) i d v ∙ (get_or-drop (j * b) (used_recs g s) i d ∙ ap (λ (n : ℕ). get_or (used_recs g s) n d) c) in
    let m : i < length (group_at g s j) = omega (arith, length-take b (drop (j * b) (used_recs g s)), length-drop (j * b) (used_recs g s), length-used_recs g s o h) in
    let y = skip-image s.share ((s.block + j) % g.blocks * block_bytes g) (block_bytes g) (group_at g s j) i d
    (block-fits g (group_at g s j) (length-group_at g s j) (small-group_at g s o h j)) (block-stands g s o h j (omega arith)) m in
    rw e at y

-- the record that has i before it among those held
pub place_of-held : (g : Geo) (s : Store) → Sized g → InShare g s → (i : ℕ) (d : Rec) → i < length s.recs
    → rec_at s.share (place_of g s.share s.block (s.spent + i)) ≡ get_or s.recs i d
unfolding used Whole
place_of-held g s o h i d l =
    let u = s.spent + i in
    let e : get_or (used_recs g s) u d ≡ get_or s.recs i d = sym (get_or-drop s.spent (used_recs g s) i d) ∙ ap (λ (rs : List Rec). get_or rs i d) (drop-used_recs g s o h) in
    let y = place_of-stands g s o h u d (omega arith) in
    rec_at-stands s.share (place_of g s.share s.block u) (get_or (used_recs g s) u d) (omega (arith, y.1, h.long, ring-inside g o (s.block + u / g.factor))) y.0 ∙ e

place_of-head : (g : Geo) (s : Store) → Sized g → InShare g s → place_of g s.share s.block s.spent ≡ head_at g s
unfolding place_of head_at
place_of-head g s o h =
    let v : s.spent < g.factor = spent-most g s o h in
    rw (div-eq_of_lt v, mod-eq_of_lt v, add-zero, mod-eq_of_lt h.block)

-- the oldest record held stands whole in the oldest block
pub head_at-stands : (g : Geo) (s : Store) (r : Rec) (rest : List Rec) → Sized g → InShare g s → s.recs ≡ r ∷ rest
    → Whole s.share (head_at g s) (s.block * block_bytes g + block_bytes g) r
unfolding used
head_at-stands g s r rest o h e =
    let v : s.spent < g.factor = spent-most g s o h in
    let z : get_or (used_recs g s) s.spent r ≡ r =
    ap (λ (n : ℕ). get_or (used_recs g s) n r) (sym (add-zero s.spent))
    ∙ (sym (get_or-drop s.spent (used_recs g s) 0 r) ∙ ap (λ (rs : List Rec). get_or rs 0 r) (drop-used_recs g s o h ∙ e)) in
    let y = place_of-stands g s o h s.spent r (omega (arith, ap length e)) in
    rw (place_of-head g s o h, z, div-eq_of_lt v, add-zero s.block, mod-eq_of_lt h.block) at y

pub head_at-read : (g : Geo) (s : Store) (r : Rec) (rest : List Rec) → Sized g → InShare g s → s.recs ≡ r ∷ rest → rec_at s.share (head_at g s) ≡ r
unfolding Whole
head_at-read g s r rest o h e =
    let y = head_at-stands g s r rest o h e in
    rec_at-stands s.share (head_at g s) r (omega (arith, y.1, h.long, block_inside g o s.block h.block)) y.0

-- Records of the full size, one right after another: their places follow from their number. Words used say that all of a block are so.

full-part : (m : ℕ) (f t : List Rec) → words_of (f ++ t) ≡ length (f ++ t) * m → Small m f → Small m t → words_of f ≡ length f * m
full-part m f t e a b =
    let n : length (f ++ t) * m ≡ (length f + length t) * m = ap (λ (n : ℕ). n * m) (length-append f t) in
    omega (arith, words_of-append f t, words_of-small m f a, words_of-small m t b, add-mul (length f) (length t) m)

full_at : (g : Geo) (xs : List ℕ) (k i : ℕ) (qs : List (List Rec)) → k < g.blocks → Shape g.factor qs → Begun i qs → At g xs k qs
    → word_at xs (k * block_bytes g + 2) ≡ 2 + word_at xs (k * block_bytes g) * (g.words + 3)
    → place_in g xs k i ≡ k * block_bytes g + 4 + i * (2 * (g.words + 3))
unfolding place_in skip Shape Begun At
full_at g xs k i [] l c b a e = rw b (omega arith)
full_at g xs k i (q ∷ qs) l c b a e =
    let m = g.words + 3 in
    let p = k * block_bytes g in
    let f = take i q in
    let t = drop i q in
    let z : f ++ t ≡ q = take-append-drop i q in
    let y : BytesAt xs p (image q) = rw (mod-eq_of_lt l) at a.1 in
    let n : length f ≡ i = length-take-le i q (omega arith) in
    let u : words_of q ≡ length q * m = omega (arith, e, image-used xs p q y, ap (λ (x : ℕ). x * m) (image-put xs p q y)) in
    let v : words_of f ≡ length f * m = full-part m f t (rw z u) (all_take (λ (r : Rec). record_words r ≤ m) i q a.0) (all_drop (λ (r : Rec). record_words r ≤ m) i q a.0) in
    let w : words_of q ≡ words_of f + words_of t = ap words_of (sym z) ∙ words_of-append f t in
    let r = skip-stands xs (p + block_bytes g) f t (p + 4) (omega (arith, block-fits g q c.1 a.0)) (rw z (apart xs p q y).recs) in
    ap (skip xs (p + block_bytes g) (p + 4)) (sym n) ∙ (r.0 ∙ omega (arith, v, ap (λ (x : ℕ). x * m) n))

pub head_at-full : (g : Geo) (s : Store) → InShare g s
    → word_at s.share (s.block * block_bytes g + 2) ≡ 2 + word_at s.share (s.block * block_bytes g) * (g.words + 3)
    → head_at g s ≡ s.block * block_bytes g + 4 + s.spent * (2 * (g.words + 3))
unfolding head_at
head_at-full g s h e = full_at g s.share s.block s.spent h.groups h.block h.shape h.begun h.at e

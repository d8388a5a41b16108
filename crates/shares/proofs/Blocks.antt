-- The bytes of each held block follow from the records put there; and the block that is begun has room for one more.
use Prim.Native.Nat.{ℕ, zero, suc, ◌+◌, ◌*◌, ◌/◌, ◌%◌, ◌≤◌, ◌<◌}
use mathlib.Core.Path.{◌≡◌, sym, ap, ◌∙◌}
use mathlib.Core.List.{List, [], ◌∷◌, ◌++◌, append-nil}
use native.Mathlib.Omega.{arith}
use native.Mathlib.Nat.{suc-mul, zero-mul, mod-lt, div-add-mod'}
use lib.Dec.{ltb}
use lib.ListN.{length, take, drop, length-drop, length-take, drop_of_length-le}
use lib.Seq.{take_all, take_at, drop_at, drop-drop}
use borrow.Author.Tests.{ltb-true, ltb-false}
use Rattle.words.specs.Word.{word_at}
use Rattle.words.proofs.Stands.{BytesAt}
use Rattle.rules.specs.State.{Rec, Geo, Store}
use Rattle.rules.specs.Store.{used, record_words, block_bytes, tail}
use Rattle.shares.specs.Image.{words_of, image}
use Rattle.shares.specs.Groups.{Small, flat, Shape}
use Rattle.shares.specs.Holds.{Sized, At, InShare}
use Rattle.shares.specs.Back.{used_recs, group_at}
use Rattle.rules.proofs.Split.{by_cases}
use Rattle.shares.proofs.Image.{image-put, image-used}
use Rattle.shares.proofs.Groups.{all_take, all_drop}
use Rattle.shares.proofs.Ring.{block-fits-more}
use Rattle.shares.proofs.Says.{used-flat, small-flat}
use Rattle.shares.proofs.Used.{used_recs-flat, length-used_recs}

-- the first group is the first b records, or all
shape-take : (b : ℕ) (q : List Rec) (qs : List (List Rec)) → Shape b (q ∷ qs) → take b (flat (q ∷ qs)) ≡ q
unfolding Shape flat
shape-take b q qs s = by_cases (ltb (length q) b)
    (λ e. let v : length q < b = ltb-true (length q) b e in rw (s.2 v, append-nil q) (take_all b q (omega arith)))
    (λ e. let v : b ≤ length q = ltb-false (length q) b e in take_at q (flat qs) b (omega (arith, s.1)))

shape-drop : (b : ℕ) (q : List Rec) (qs : List (List Rec)) → Shape b (q ∷ qs) → drop b (flat (q ∷ qs)) ≡ flat qs
unfolding Shape flat
shape-drop b q qs s = by_cases (ltb (length q) b)
    (λ e. let v : length q < b = ltb-true (length q) b e in rw (s.2 v, append-nil q) (drop_of_length-le q (let w : length q ≤ b = omega arith in w)))
    (λ e. let v : b ≤ length q = ltb-false (length q) b e in drop_at q (flat qs) b (omega (arith, s.1)))

at_block : (g : Geo) (xs : List ℕ) (qs : List (List Rec)) (k j : ℕ) → Shape g.factor qs → At g xs k qs → j * g.factor < length (flat qs)
    → BytesAt xs ((k + j) % g.blocks * block_bytes g) (image (take g.factor (drop (j * g.factor) (flat qs))))
unfolding At flat Shape
at_block g xs [] k j s a h = absurd (omega arith)
at_block g xs (q ∷ qs) k zero s a h =
    let e : k + 0 ≡ k = omega arith in
    rw (e, zero-mul g.factor, shape-take g.factor q qs s) a.1
at_block g xs (q ∷ qs) k (suc j) s a h =
    let b = g.factor in
    let e : k + suc j ≡ suc k + j = omega arith in
    let f : suc j * b ≡ b + j * b = omega (arith, suc-mul j b) in
    let d : drop (suc j * b) (flat (q ∷ qs)) ≡ drop (j * b) (flat qs) =
    ap (λ (n : ℕ). drop n (flat (q ∷ qs))) f ∙ (sym (drop-drop (j * b) b (flat (q ∷ qs))) ∙ ap (drop (j * b)) (shape-drop b q qs s)) in
    rw (e, d) (at_block g xs qs (suc k) j s.3 a.2 (omega (arith, ap length (shape-drop b q qs s), length-drop b (q ++ flat qs))))

pub block-stands : (g : Geo) (s : Store) → Sized g → InShare g s → (j : ℕ) → j * g.factor < used s
    → BytesAt s.share ((s.block + j) % g.blocks * block_bytes g) (image (group_at g s j))
unfolding group_at
block-stands g s o h j l = rw (used_recs-flat g s o h) (at_block g s.share h.groups s.block j h.shape h.at (omega (arith, used-flat g s h)))

pub length-group_at : (g : Geo) (s : Store) (j : ℕ) → length (group_at g s j) ≤ g.factor
unfolding group_at
length-group_at g s j = omega (arith, length-take g.factor (drop (j * g.factor) (used_recs g s)))

pub small-group_at : (g : Geo) (s : Store) → Sized g → InShare g s → (j : ℕ) → Small (g.words + 3) (group_at g s j)
unfolding group_at
small-group_at g s o h j =
    rw (used_recs-flat g s o h) (all_take _ g.factor (drop (j * g.factor) (flat h.groups)) (all_drop _ (j * g.factor) (flat h.groups) (small-flat g s h)))

-- the last block, where it is begun
pub length-group_at-last : (g : Geo) (s : Store) → Sized g → InShare g s → length (group_at g s (used s / g.factor)) ≡ used s % g.factor
unfolding group_at
length-group_at-last g s o h =
    let b = g.factor in
    let j = used s / b in
    let d : length (drop (j * b) (used_recs g s)) ≡ used s % b =
    length-drop (j * b) (used_recs g s) ∙ omega (arith, length-used_recs g s o h, div-add-mod' (used s) b) in
    ap length (take_all b (drop (j * b) (used_recs g s)) (omega (arith, mod-lt (used s) o.factor))) ∙ d

pub tail-put : (g : Geo) (s : Store) → Sized g → InShare g s → 1 ≤ used s % g.factor → word_at s.share (tail g s) ≡ used s % g.factor
unfolding tail
tail-put g s o h z =
    let j = used s / g.factor in
    let a = (s.block + j) % g.blocks * block_bytes g in
    image-put s.share a (group_at g s j) (block-stands g s o h j (omega (arith, div-add-mod' (used s) g.factor))) ∙ length-group_at-last g s o h

pub tail-used : (g : Geo) (s : Store) → Sized g → InShare g s → 1 ≤ used s % g.factor → 2 ≤ word_at s.share (tail g s + 2)
unfolding tail
tail-used g s o h z =
    let j = used s / g.factor in
    let a = (s.block + j) % g.blocks * block_bytes g in
    omega (arith, image-used s.share a (group_at g s j) (block-stands g s o h j (omega (arith, div-add-mod' (used s) g.factor))))

pub tail-room : (g : Geo) (s : Store) (r : Rec) → Sized g → InShare g s → record_words r ≤ g.words + 3 → 1 ≤ used s % g.factor
    → 2 * (word_at s.share (tail g s + 2) + record_words r) ≤ block_bytes g
unfolding tail
tail-room g s r o h w z =
    let j = used s / g.factor in
    let a = (s.block + j) % g.blocks * block_bytes g in
    let q = group_at g s j in
    let e : word_at s.share (a + 2) ≡ 2 + words_of q = image-used s.share a q (block-stands g s o h j (omega (arith, div-add-mod' (used s) g.factor))) in
    rw e (omega (arith, block-fits-more g q r (omega (arith, length-group_at-last g s o h, mod-lt (used s) o.factor)) (small-group_at g s o h j) w))

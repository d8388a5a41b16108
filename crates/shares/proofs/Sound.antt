-- A share passes the test exactly where it holds proper records; and the store that it then stands for is the one read back.
use Prim.Native.Nat.{ℕ, zero, suc, ◌+◌, ◌-◌, ◌*◌, ◌%◌, ◌≤◌, ◌<◌, min}
use mathlib.Core.Bool.{true, ◌&&◌, ◌||◌}
use mathlib.Core.Path.{◌≡◌, refl, sym, ap, ◌∙◌}
use mathlib.Core.List.{List, [], ◌∷◌, ◌++◌}
use mathlib.Core.Logic.{◌⊎◌, inl, inr}
use native.Mathlib.Omega.{arith}
use lib.Dec.{ltb, eqb}
use lib.ListN.{length, take, drop, length-append, length-drop}
use lib.Seq.{take_at, drop_at, drop-append-le}
use borrow.Author.Tests.{ltb-true, ltb-false, lt-ltb, eqb-true, eqb-false, eq-eqb, ne_eqb}
use Rattle.words.specs.Word.{word_at, Bytes}
use Rattle.rules.specs.Limits.{share_bytes}
use Rattle.rules.specs.State.{Rec, Geo, Store}
use Rattle.rules.specs.Store.{used, block_bytes}
use Rattle.shares.specs.Groups.{All, flat, Shape, Begun}
use Rattle.shares.specs.Holds.{Sized, At, InShare}
use Rattle.shares.specs.Back.{block_recs, ring_recs, used_recs, read_back}
use Rattle.shares.specs.Laid.{GoodRec, laid}
use Rattle.shares.specs.Sound.{sweep, sound, store_at}
use Rattle.rules.proofs.Split.{by_cases, pick_true, pick-false, and-true, true-and, or-true, true-or}
use Rattle.shares.proofs.Image.{image-put}
use Rattle.shares.proofs.Groups.{all_append, all_take, all_drop, shape-none}
use Rattle.shares.proofs.Ring.{mod-next, ring-inside, block-fits}
use Rattle.shares.proofs.Says.{used-flat, spent-most, spent-empty}
use Rattle.shares.proofs.Back.{ring_recs-at}
use Rattle.shares.proofs.Used.{used_recs-flat}
use Rattle.shares.proofs.Laid.{length-block_recs, laid-stands, laid-true}

-- a sweep that passes finds the groups
record Swept (g : Geo) (xs : List ℕ) (k n left : ℕ) : Type 0 where
  groups : List (List Rec)
  shape : Shape g.factor groups
  few : length groups ≤ n
  count : length (flat groups) ≡ left
  at : At g xs k groups
  proper : All GoodRec (flat groups)

swept_none : (g : Geo) (xs : List ℕ) (k n left : ℕ) → left ≡ 0 → Swept g xs k n left
unfolding Shape flat At All
swept_none g xs k n left e = record { groups = []; shape = tt; few = omega arith; count = sym e; at = tt; proper = tt }

sweep-swept : (g : Geo) (xs : List ℕ) → Sized g → Bytes xs → length xs ≡ share_bytes → (n k left : ℕ) → sweep g xs k n left ≡ true
    → Swept g xs k n left
unfolding sweep Shape flat At
sweep-swept g xs o b l zero k left h = swept_none g xs k 0 left (eqb-true left 0 h)
sweep-swept g xs o b l (suc n) k left h =
    by_cases (eqb left 0)
    (λ t. swept_none g xs k (suc n) left (eqb-true left 0 t))
    (λ t. let a = k % g.blocks * block_bytes g in
    let p = and-true (laid g xs a && eqb (word_at xs a) (min left g.factor)) (sweep g xs (suc k) n (left - g.factor)) (sym (pick-false (eqb left 0) true _ t) ∙ h) in
    let q = and-true (laid g xs a) (eqb (word_at xs a) (min left g.factor)) p.0 in
    let c : word_at xs a ≡ min left g.factor = eqb-true (word_at xs a) (min left g.factor) q.1 in
    let v : length (block_recs xs a) ≡ word_at xs a = length-block_recs xs a in
    let z : (left ≡ 0 → ⊥) = eqb-false left 0 t in
    let s = laid-stands g xs a b (omega (arith, ring-inside g o k)) q.0 in
    let r = sweep-swept g xs o b l n (suc k) (left - g.factor) p.1 in
    record {
      groups = block_recs xs a ∷ r.groups;
      shape = (omega (arith, o.factor), omega arith, (λ x. shape-none g.factor r.groups r.shape (omega (arith, r.count))), r.shape);
      few = omega (arith, r.few);
      count = omega (arith, length-append (block_recs xs a) (flat r.groups), r.count);
      at = (s.1, s.0, r.at);
      proper = all_append GoodRec (block_recs xs a) (flat r.groups) s.2 r.proper;
    })

-- groups that stand pass the test
sweep-true : (g : Geo) (xs : List ℕ) → (qs : List (List Rec)) (k n left : ℕ) → Shape g.factor qs → length qs ≤ n → length (flat qs) ≡ left
    → At g xs k qs → All GoodRec (flat qs)
    → sweep g xs k n left ≡ true
unfolding sweep Shape flat At
sweep-true g xs [] k zero left s f c a t = eq-eqb left 0 (sym c)
sweep-true g xs [] k (suc n) left s f c a t = pick_true (eqb left 0) true _ (eq-eqb left 0 (sym c))
sweep-true g xs (q ∷ qs) k zero left s f c a t = absurd (omega arith)
sweep-true g xs (q ∷ qs) k (suc n) left s f c a t =
    let p = k % g.blocks * block_bytes g in
    let m : length (q ++ flat qs) ≡ length q + length (flat qs) = length-append q (flat qs) in
    let e : (length q ≡ min left g.factor) × (length (flat qs) ≡ left - g.factor) = by_cases (ltb (length q) g.factor)
    (λ x. let v : length q < g.factor = ltb-true (length q) g.factor x in
    let z : length (flat qs) ≡ 0 = ap (λ (w : List (List Rec)). length (flat w)) (s.2 v) in
    (omega arith, omega arith))
    (λ x. let v : g.factor ≤ length q = ltb-false (length q) g.factor x in (omega (arith, s.1), omega (arith, s.1))) in
    let tq : All GoodRec q = rw (take_at q (flat qs) (length q) refl) at (all_take GoodRec (length q) (q ++ flat qs) t) in
    let tqs : All GoodRec (flat qs) = rw (drop_at q (flat qs) (length q) refl) at (all_drop GoodRec (length q) (q ++ flat qs) t) in
    pick-false (eqb left 0) true _ (ne_eqb left 0 (λ z. omega (arith, s.0)))
    ∙ true-and (laid g xs p && eqb (word_at xs p) (min left g.factor)) (sweep g xs (suc k) n (left - g.factor))
    (true-and (laid g xs p) (eqb (word_at xs p) (min left g.factor))
    (laid-true g xs p q (block-fits g q s.1 a.0) a.0 tq a.1)
    (eq-eqb (word_at xs p) (min left g.factor) (image-put xs p q a.1 ∙ e.0)))
    (sweep-true g xs qs (suc k) n (left - g.factor) s.3 (omega arith) e.1 a.2 tqs)

-- the count of blocks may begin anew
pub sweep-mod : (g : Geo) (xs : List ℕ) (n k l left : ℕ) → k % g.blocks ≡ l % g.blocks → sweep g xs k n left ≡ sweep g xs l n left
unfolding sweep
sweep-mod g xs zero k l left e = refl
sweep-mod g xs (suc n) k l left e = by_cases (eqb left 0)
    (λ t. pick_true (eqb left 0) true _ t ∙ sym (pick_true (eqb left 0) true _ t))
    (λ t. pick-false (eqb left 0) true _ t ∙ (rw (e, sweep-mod g xs n (suc k) (suc l) (left - g.factor) (mod-next g.blocks k l e)) refl ∙ sym (pick-false (eqb left 0) true _ t)))

swept-begun : (b spent held : ℕ) (qs : List (List Rec)) → Shape b qs → length (flat qs) ≡ spent + held → (spent ≡ 0) ⊎ ((spent < b) × (0 < held))
    → Begun spent qs
unfolding Begun Shape flat
swept-begun b spent held [] s c d = omega arith
swept-begun b spent held (q ∷ qs) s c (inl e) = omega (arith, s.0)
swept-begun b spent held (q ∷ qs) s c (inr e) = by_cases (ltb (length q) b)
    (λ x. let z : length (flat qs) ≡ 0 = ap (λ (w : List (List Rec)). length (flat w)) (s.2 (ltb-true (length q) b x)) in
    omega (arith, length-append q (flat qs), e.1))
    (λ x. omega (arith, ltb-false (length q) b x, e.0))

-- the store that a share stands for which passes
pub sound-holds : (g : Geo) (xs : List ℕ) (block spent held : ℕ) → Sized g → Bytes xs → length xs ≡ share_bytes → sound g xs block spent held ≡ true
    → InShare g (store_at g xs block spent held) × All GoodRec (used_recs g (store_at g xs block spent held)) × (length (read_back g xs block spent held) ≡ held)
unfolding sound store_at read_back
sound-holds g xs block spent held o b l h =
    let p = and-true (ltb block g.blocks && (eqb spent 0 || (ltb spent g.factor && ltb 0 held))) (sweep g xs block g.blocks (spent + held)) h in
    let q = and-true (ltb block g.blocks) (eqb spent 0 || (ltb spent g.factor && ltb 0 held)) p.0 in
    let y = sweep-swept g xs o b l g.blocks block (spent + held) p.1 in
    let e = g.blocks - length y.groups in
    let z = ring_recs g xs (block + length y.groups) e in
    let d : (spent ≡ 0) ⊎ ((spent < g.factor) × (0 < held)) = begun (or-true (eqb spent 0) (ltb spent g.factor && ltb 0 held) q.1) in
    let m : length (drop spent (flat y.groups)) ≡ held = length-drop spent (flat y.groups) ∙ omega (arith, y.count) in
    let r : take held (drop spent (ring_recs g xs block g.blocks)) ≡ drop spent (flat y.groups) =
    ap (λ (rs : List Rec). take held (drop spent rs)) (ring_recs-at g o xs l y.groups block g.blocks e (omega (arith, y.few)) y.shape y.at)
    ∙ (ap (take held) (drop-append-le spent (flat y.groups) z (omega (arith, y.count))) ∙ take_at (drop spent (flat y.groups)) z held m) in
    let k : InShare g (store_at g xs block spent held) = record {
      long = l;
      block = ltb-true block g.blocks q.0;
      groups = y.groups;
      few = y.few;
      shape = y.shape;
      begun = swept-begun g.factor spent held y.groups y.shape y.count d;
      recs = sym r;
      at = y.at;
    } in
    (k, rw (used_recs-flat g (store_at g xs block spent held) o k) y.proper, ap length r ∙ m)
  where
    begun : (eqb spent 0 ≡ true) ⊎ (ltb spent g.factor && ltb 0 held ≡ true) → (spent ≡ 0) ⊎ ((spent < g.factor) × (0 < held))
    begun (inl e) = inl (eqb-true spent 0 e)
    begun (inr e) =
        let y = and-true (ltb spent g.factor) (ltb 0 held) e in
        inr (ltb-true spent g.factor y.0, ltb-true 0 held y.1)

-- all that holds proper records passes
pub holds-sound : (g : Geo) (s : Store) → Sized g → InShare g s → All GoodRec (used_recs g s)
    → sound g s.share s.block s.spent (length s.recs) ≡ true
unfolding sound used
holds-sound g s o h t =
    let n = length s.recs in
    true-and (ltb s.block g.blocks && (eqb s.spent 0 || (ltb s.spent g.factor && ltb 0 n))) (sweep g s.share s.block g.blocks (s.spent + n))
    (true-and (ltb s.block g.blocks) (eqb s.spent 0 || (ltb s.spent g.factor && ltb 0 n))
    (lt-ltb s.block g.blocks h.block)
    (true-or (eqb s.spent 0) (ltb s.spent g.factor && ltb 0 n)
    (λ q. true-and (ltb s.spent g.factor) (ltb 0 n) (lt-ltb s.spent g.factor (spent-most g s o h)) (lt-ltb 0 n (some s.recs refl (eqb-false s.spent 0 q))))))
    (sweep-true g s.share h.groups s.block g.blocks (s.spent + n) h.shape h.few (sym (used-flat g s h)) h.at (rw (← used_recs-flat g s o h) t))
  where
    some : (rs : List Rec) → s.recs ≡ rs → (s.spent ≡ 0 → ⊥) → 0 < length rs
    some [] e f = absurd (f (spent-empty g s h e))
    some (r ∷ rs) e f = omega arith

-- An empty file holds its records, none; and what takes records away, which changes no byte, leaves the rest held.
use Prim.Native.Nat.{ℕ, ◌+◌, ◌%◌, ◌≤◌, ◌<◌}
use mathlib.Core.Bool.{Bool, true, false}
use mathlib.Core.Path.{◌≡◌, refl, sym, ap, ◌∙◌, subst}
use mathlib.Core.List.{List, [], ◌∷◌, ◌++◌}
use native.Mathlib.Omega.{arith}
use native.Mathlib.Nat.{mod-lt}
use lib.Dec.{ltb, eqb}
use lib.ListN.{length, drop, length-append, length-drop}
use lib.Seq.{drop_at, drop-drop}
use borrow.Author.Tests.{ltb-true, ltb-false, eqb-true, eqb-false}
use Rattle.words.proofs.Runs.{length-zeros}
use Rattle.rules.specs.Limits.{share_bytes}
use Rattle.rules.specs.State.{Rec, Geo, Store}
use Rattle.rules.specs.Store.{empty_store, advance, advance_by, dropped, discard, purge, take_head, fetch}
use Rattle.shares.specs.Groups.{flat, Shape, Begun}
use Rattle.shares.specs.Holds.{Sized, At, InShare}
use Rattle.rules.proofs.Split.{by_cases, both}
use Rattle.shares.proofs.Groups.{begun-zero}
use Rattle.shares.proofs.Ring.{at_next}
use Rattle.shares.proofs.Taken.{advance-last, advance-more, recs-advance, share-advance, share-advance_by, take_head-none, take_head-some}

-- an empty file, wherever it goes on and whatever its blocks have left
pub holds-none : (g : Geo) (k : ℕ) (xs : List ℕ) → length xs ≡ share_bytes → k < g.blocks
    → InShare g (record { block = k; spent = 0; recs = []; share = xs })
unfolding Shape At flat Begun
holds-none g k xs l h = record { long = l; block = h; groups = []; few = omega arith; shape = tt; begun = refl; recs = refl; at = tt }

pub holds-empty : (g : Geo) → Sized g → InShare g empty_store
unfolding empty_store
holds-empty g o = holds-none g 0 _ (length-zeros share_bytes) o.blocks

-- Advance.

module _ (g : Geo) (k sp : ℕ) (r q : Rec) (rest : List Rec) (xs : List ℕ) (l : length xs ≡ share_bytes) (h : k < g.blocks) where
  -- the oldest block is spent
  holds-spent : (qs : List (List Rec)) → Shape g.factor qs → length qs ≤ g.blocks → Begun sp qs → drop sp (flat qs) ≡ r ∷ q ∷ rest → At g xs k qs
      → sp + 1 ≡ g.factor → InShare g (record { block = (k + 1) % g.blocks; spent = 0; recs = q ∷ rest; share = xs })
  unfolding Shape At flat Begun
  holds-spent [] s f b e a t = absurd (omega (arith, ap length e, length-drop {A = Rec} sp []))
  holds-spent (p ∷ qs) s f b e a t =
      let n : length p ≡ sp + 1 = omega (arith, s.1) in
      record {
        long = l;
        block = mod-lt (k + 1) (omega arith);
        groups = qs;
        few = omega arith;
        shape = s.3;
        begun = begun-zero g.factor qs s.3;
        recs = sym (drop_at p (flat qs) (sp + 1) n) ∙ (sym (drop-drop 1 sp (p ++ flat qs)) ∙ ap (drop 1) e);
        at = at_next g xs k qs a.2;
      }

  -- the oldest block holds more
  holds-onward : (qs : List (List Rec)) → Shape g.factor qs → length qs ≤ g.blocks → Begun sp qs → drop sp (flat qs) ≡ r ∷ q ∷ rest → At g xs k qs
      → (sp + 1 ≡ g.factor → ⊥) → InShare g (record { block = k; spent = sp + 1; recs = q ∷ rest; share = xs })
  unfolding Shape flat Begun
  holds-onward [] s f b e a t = absurd (omega (arith, ap length e, length-drop {A = Rec} sp []))
  holds-onward (p ∷ qs) s f b e a t =
      record {
        long = l;
        block = h;
        groups = p ∷ qs;
        few = f;
        shape = s;
        begun = by_cases (ltb (length p) g.factor)
            (λ x. let z : length (flat qs) ≡ 0 = ap (λ (w : List (List Rec)). length (flat w)) (s.2 (ltb-true (length p) g.factor x)) in
            omega (arith, ap length e, length-drop sp (p ++ flat qs), length-append p (flat qs)))
            (λ x. let z : g.factor ≤ length p = ltb-false (length p) g.factor x in omega (arith, s.1));
        recs = sym (drop-drop 1 sp (p ++ flat qs)) ∙ ap (drop 1) e;
        at = a;
      }

pub holds-advance : (g : Geo) (s : Store) (r : Rec) (rest : List Rec) → s.recs ≡ r ∷ rest → InShare g s → InShare g (advance g s)
holds-advance g s r [] e h =
    subst (InShare g) (sym (advance-last g s r e)) (holds-none g ((s.block + 1) % g.blocks) s.share h.long (mod-lt (s.block + 1) (omega (arith, h.block))))
holds-advance g s r (q ∷ rest) e h = subst (InShare g) (sym (advance-more g s r q rest e)) (both (InShare g) (eqb (s.spent + 1) g.factor)
    (λ t. holds-spent g s.block s.spent r q rest s.share h.long h.block h.groups h.shape
    h.few h.begun (h.recs ∙ e) h.at (eqb-true (s.spent + 1) g.factor t))
    (λ t. holds-onward g s.block s.spent r q rest s.share h.long h.block h.groups h.shape
    h.few h.begun (h.recs ∙ e) h.at (eqb-false (s.spent + 1) g.factor t)))

-- Discard, fetch, purge.

holds-dropped : (g : Geo) (l : List Rec) (s : Store) → s.recs ≡ l → InShare g s → InShare g (advance_by (length (dropped l)) g s)
unfolding dropped advance_by
holds-dropped g [] s e h = h
holds-dropped g (r ∷ rest) s e h = both (λ (x : List Rec). InShare g (advance_by (length x) g s)) (eqb r.typ 0) (λ t. h)
    (λ t. holds-dropped g rest (advance g s) (recs-advance g s r rest e) (holds-advance g s r rest e h))

pub holds-discard : (g : Geo) (s : Store) → InShare g s → InShare g (discard g s)
unfolding discard
holds-discard g s h = holds-dropped g s.recs s refl h

pub share-discard : (g : Geo) (s : Store) → (discard g s).share ≡ s.share
unfolding discard
share-discard g s = share-advance_by (length (dropped s.recs)) g s

holds-take_head : (g : Geo) (keep : Bool) (went : List Rec) (s : Store) (l : List Rec) → s.recs ≡ l → InShare g s → InShare g (take_head g keep went s).store
holds-take_head g keep went s [] e h = rw (take_head-none g keep went s e) h
holds-take_head g true went s (r ∷ rest) e h = rw (take_head-some g true went s r rest e) h
holds-take_head g false went s (r ∷ rest) e h = rw (take_head-some g false went s r rest e) (holds-advance g s r rest e h)

share-take_head : (g : Geo) (keep : Bool) (went : List Rec) (s : Store) (l : List Rec) → s.recs ≡ l → (take_head g keep went s).store.share ≡ s.share
share-take_head g keep went s [] e = rw (take_head-none g keep went s e) refl
share-take_head g true went s (r ∷ rest) e = rw (take_head-some g true went s r rest e) refl
share-take_head g false went s (r ∷ rest) e = rw (take_head-some g false went s r rest e) (share-advance g s)

pub holds-fetch : (g : Geo) (typed keep : Bool) (s : Store) → InShare g s → InShare g (fetch g typed keep s).store
unfolding fetch
holds-fetch g true keep s h = holds-take_head g keep [] s s.recs refl h
holds-fetch g false keep s h = holds-take_head g keep (dropped s.recs) (discard g s) (discard g s).recs refl (holds-discard g s h)

pub share-fetch : (g : Geo) (typed keep : Bool) (s : Store) → (fetch g typed keep s).store.share ≡ s.share
unfolding fetch
share-fetch g true keep s = share-take_head g keep [] s s.recs refl
share-fetch g false keep s = share-take_head g keep (dropped s.recs) (discard g s) (discard g s).recs refl ∙ share-discard g s

pub holds-purge : (g : Geo) (s : Store) → InShare g s → InShare g (purge g s)
unfolding purge
holds-purge g s h = holds-none g _ s.share h.long (mod-lt _ (let o : 0 < g.blocks = omega (arith, h.block) in o))

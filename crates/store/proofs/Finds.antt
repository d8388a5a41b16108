-- What a read finds, from the cursor that stands at it: no record, or one, for every store that ring and share stand for.
use Prim.Native.Nat.{ℕ}
use mathlib.Core.Path.{◌≡◌, refl, sym, ap, ◌∙◌}
use mathlib.Core.Bool.{Bool, true, false, cond}
use mathlib.Core.List.{List, [], ◌∷◌}
use native.Mathlib.Omega.{arith}
use lib.ListN.{length}
use Rattle.rules.specs.State.{Rec, Geo, Store}
use Rattle.rules.specs.Store.{advance}
use Rattle.shares.specs.Holds.{InShare}
use Rattle.shares.specs.Places as shares
use Rattle.shares.proofs.Holds.{holds-discard, share-discard}
use Rattle.ring.specs.declared.Ring.{Ring}
use Rattle.ring.specs.Ring.{geo, ring_of}
use Rattle.ring.proofs.Stores.{ring-advance}
use Rattle.records.specs.declared.cursor.Cursor.{Cursor}
use Rattle.records.specs.Cursor.{head_place, AtRecord}
use Rattle.records.specs.Fetch.{Stores, ahead}
use Rattle.records.proofs.fetch.Laws.{empty-or}
use Rattle.records.proofs.fetch.Finds.{fetch-none, fetch-some}
use Rattle.midst.specs.declared.File as hand
use Rattle.store.specs.declared.Fetched.{Fetched}
use Rattle.store.specs.Door.{taken_ring, is_some, fetched_of}

pub holds-ahead : (g : Geo) (typed : Bool) (s : Store) → InShare g s → InShare g (ahead g typed s)
unfolding ahead
holds-ahead g true s h = h
holds-ahead g false s h = holds-discard g s h

pub share-ahead : (g : Geo) (typed : Bool) (s : Store) → (ahead g typed s).share ≡ s.share
unfolding ahead
share-ahead g true s = refl
share-ahead g false s = share-discard g s

same : (w : ℕ) (t u : Bool) (p q : ℕ) (y z : Ring) → t ≡ u → p ≡ q → y ≡ z → ◌≡◌ {A = Fetched} (record { got = t; at = p; file = record { words = w; ring = y } }) (record { got = u; at = q; file = record { words = w; ring = z } })
same w t u p q y z e h k = rw (e, h, k) refl

module _ (x : hand.File) (xs : List ℕ) (typed keep : Bool) (k : Cursor) (stands : AtRecord x.words xs k) (s : Store) (S : Stores x.words x.ring xs s)
    (found : k.ring ≡ ring_of (geo x.words x.ring) (ahead (geo x.words x.ring) typed s)) where
  abbrev g : Geo
  g = geo x.words x.ring

  abbrev t : Store
  t = ahead g typed s

  at-is : k.at ≡ shares.head_at g t
  unfolding shares.head_at
  at-is =
      stands.at ∙ ap (λ (z : Ring). head_place x.words z xs) found
      ∙ ap (λ (zs : List ℕ). head_place x.words (ring_of g t) zs) (sym (share-ahead g typed s ∙ S.share))

  count : length t.recs ≡ k.ring.held
  count = ap (λ (z : Ring). z.held) (sym found)

  pub finds-none : k.ring.held ≡ 0 → record { got = false; at = k.at; file = record { words = x.words; ring = k.ring } } ≡ fetched_of x typed keep s
  unfolding fetched_of
  finds-none z =
      let e : t.recs ≡ [] = empty-or (λ l. l ≡ []) t.recs (λ _. refl) (λ d rest q. absurd (omega (arith, ap length q, count))) in
      let n = fetch-none g typed keep s e in
      same x.words false _ _ _ _ _ (sym (ap is_some n.0 ∙ (unfold is_some in refl))) at-is (found ∙ ap (ring_of g) (sym n.1))

  taken-ring : (d : Rec) (rest : List Rec) → t.recs ≡ d ∷ rest → (w : Bool) → taken_ring w (ring_of g t) ≡ ring_of g (cond w t (advance g t))
  unfolding taken_ring
  taken-ring d rest e true = refl
  taken-ring d rest e false = sym (ring-advance g t d rest (holds-ahead g typed s S.holds).block e)

  pub finds-some : (k.ring.held ≡ 0 → ⊥) → (z : Ring) → z ≡ taken_ring keep k.ring
      → record { got = true; at = k.at; file = record { words = x.words; ring = z } } ≡ fetched_of x typed keep s
  unfolding fetched_of
  finds-some h z q = go t.recs refl
    where
      go : (l : List Rec) → t.recs ≡ l → record { got = true; at = k.at; file = record { words = x.words; ring = z } } ≡ fetched_of x typed keep s
      go [] e = absurd (h (sym count ∙ ap length e))
      go (d ∷ rest) e =
          let n = fetch-some g typed keep s d rest e in
          same x.words true _ _ _ _ _ (sym (ap is_some n.0 ∙ (unfold is_some in refl))) at-is
          (q ∙ ap (taken_ring keep) found ∙ taken-ring d rest e keep ∙ ap (ring_of g) (sym n.1))

-- A share that stands for a store: its numbers are in their ranges, and it stands for the rules' store after a record is gone and after a purge.
use Prim.Native.Nat.{ℕ}
use mathlib.Core.Path.{◌≡◌, refl, sym, ap, ◌∙◌, subst}
use mathlib.Core.List.{List, ◌∷◌}
use lib.ListN.{length}
use Rattle.rules.specs.Limits.{share_bytes}
use Rattle.rules.specs.State.{Rec, Geo, Store}
use Rattle.rules.specs.Store.{advance}
use Rattle.shares.specs.Holds.{InShare}
use Rattle.shares.specs.Back.{read_back}
use Rattle.shares.proofs.Holds.{holds-advance}
use Rattle.shares.proofs.Taken.{recs-advance, share-advance}
use Rattle.shares.proofs.Back.{back}
use Rattle.ring.specs.declared.Ring.{Ring}
use Rattle.ring.specs.Ring.{geo, Fitted, Ranged, ring_of, advanced}
use Rattle.ring.specs.Held.{Held}
use Rattle.ring.proofs.Stores.{ranged, ring-advance}

-- any store that holds its records
pub held_of : (w : ℕ) (r t : Ring) (xs : List ℕ) (s : Store) → Fitted w r → InShare (geo w r) s → ring_of (geo w r) s ≡ t → s.share ≡ xs → Held w t xs
held_of w r t xs s f h e c =
    let k : Held w (ring_of (geo w r) s) s.share =
    record { fitted = record { words = f.words; factor = f.factor; sized = f.sized }; store = s; holds = h; ring = refl; share = refl } in
    subst (λ (q : Ring). Held w q xs) e (subst (Held w (ring_of (geo w r) s)) c k)

module _ (w : ℕ) (r : Ring) (xs : List ℕ) (h : Held w r xs) where
  abbrev g : Geo
  g = geo w r

  abbrev s : Store
  s = h.store

  -- what is so of the store's own numbers and bytes
  pub own : (P : Ring → List ℕ → Type 0) → P (ring_of g s) s.share → P r xs
  own P p = subst (P r) h.share (subst (λ (t : Ring). P t s.share) h.ring p)

  pub held-long : length xs ≡ share_bytes
  held-long = ap length (sym h.share) ∙ h.holds.long

  pub held-ranged : Ranged r
  held-ranged = own (λ (t : Ring) (ys : List ℕ). Ranged t) (ranged g s h.fitted.sized h.holds)

  pub held-recs : s.recs ≡ read_back g xs r.block r.spent r.held
  held-recs = own (λ (t : Ring) (ys : List ℕ). s.recs ≡ read_back g ys t.block t.spent t.held) (sym (back g s h.fitted.sized h.holds))

  -- The oldest record gone, all gone.

  pub held-advanced : (q : Rec) (rest : List Rec) → s.recs ≡ q ∷ rest → Held w (advanced r) xs
  held-advanced q rest e =
      held_of w r (advanced r) xs (advance g s) h.fitted (holds-advance g s q rest e h.holds)
      (ring-advance g s q rest h.holds.block e ∙ ap advanced h.ring) (share-advance g s ∙ h.share)

  -- the rest is read back
  pub held-rest : (q : Rec) (rest : List Rec) → s.recs ≡ q ∷ rest → rest ≡ read_back (geo w (advanced r)) xs (advanced r).block (advanced r).spent (advanced r).held
  held-rest q rest e =
      subst (λ (ys : List ℕ). rest ≡ read_back (geo w (advanced r)) ys (advanced r).block (advanced r).spent (advanced r).held) (share-advance g s ∙ h.share)
      (subst (λ (t : Ring). rest ≡ read_back (geo w t) (advance g s).share t.block t.spent t.held) (ring-advance g s q rest h.holds.block e ∙ ap advanced h.ring)
      (sym (back g (advance g s) h.fitted.sized (holds-advance g s q rest e h.holds) ∙ recs-advance g s q rest e)))

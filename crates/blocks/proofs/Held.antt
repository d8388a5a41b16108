-- A share that stands for a store: a record can be put, and the share then stands for the rules' store after the put; the check passes just such shares.
use Prim.Native.Nat.{ℕ, ◌+◌, ◌≤◌}
use mathlib.Core.Path.{◌≡◌}
use mathlib.Core.List.{List}
use lib.ListN.{length}
use Rattle.rules.specs.State.{Rec, Geo, Store}
use Rattle.rules.specs.Store.{record_words}
use Rattle.rules.specs.Store as rules
use Rattle.ring.specs.declared.Ring.{Ring}
use Rattle.ring.specs.Ring.{geo}
use Rattle.ring.specs.Held.{Held}
use Rattle.ring.proofs.Held.{own}
use Rattle.blocks.specs.Writing.{Ready, inscribed}
use Rattle.blocks.proofs.writing.Stores.{ready, inscribed-put}

module _ (w : ℕ) (r : Ring) (xs : List ℕ) (h : Held w r xs) where
  abbrev g : Geo
  g = geo w r

  abbrev s : Store
  s = h.store

  pub held-ready : (q : Rec) → record_words q ≤ w + 3 → Ready w r xs (length q.body)
  held-ready q m = own w r xs h (λ (t : Ring) (ys : List ℕ). Ready w t ys (length q.body)) (ready g s q h.fitted.sized h.fitted.words h.fitted.factor m h.holds)

  pub held-inscribed : (q : Rec) → inscribed w r q xs ≡ (rules.put g q s).share
  held-inscribed q = own w r xs h (λ (t : Ring) (ys : List ℕ). inscribed w t q ys ≡ (rules.put g q s).share) (inscribed-put g s q h.fitted.sized h.holds)

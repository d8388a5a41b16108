-- What a share that holds its records says of the store.
use Prim.Native.Nat.{ℕ, suc, ◌+◌, ◌*◌, ◌≤◌, ◌<◌}
use mathlib.Core.Path.{◌≡◌, ap, ◌∙◌}
use mathlib.Core.List.{List, [], ◌∷◌}
use native.Mathlib.Omega.{arith}
use native.Mathlib.Nat.{suc-mul, mul_comm, mul-le-mul_right}
use lib.ListN.{length, length-append, length-drop}
use Rattle.rules.specs.State.{Rec, Geo, Store}
use Rattle.rules.specs.Geometry.{capacity}
use Rattle.rules.specs.Store.{used}
use Rattle.shares.specs.Groups.{All, Small, flat, Shape, Begun}
use Rattle.shares.specs.Holds.{Sized, At, InShare}
use Rattle.shares.proofs.Groups.{begun-flat, all_append, all_drop}

pub used-flat : (g : Geo) (s : Store) (h : InShare g s) → used s ≡ length (flat h.groups)
unfolding used
used-flat g s h = omega (arith, ap length h.recs, length-drop s.spent (flat h.groups), begun-flat s.spent h.groups h.begun)

length-flat : (b : ℕ) (qs : List (List Rec)) → Shape b qs → length (flat qs) ≤ length qs * b
unfolding Shape flat
length-flat b [] s = omega arith
length-flat b (q ∷ qs) s = omega (arith, length-append q (flat qs), length-flat b qs s.3, s.1, suc-mul (length qs) b)

pub used-most : (g : Geo) (s : Store) → InShare g s → used s ≤ capacity g.factor g.blocks
unfolding capacity
used-most g s h =
    let e : length h.groups * g.factor ≤ g.blocks * g.factor = mul-le-mul_right g.factor h.few in
    omega (arith, used-flat g s h, length-flat g.factor h.groups h.shape, mul_comm g.factor g.blocks)

spent-groups : (b sp : ℕ) (qs : List (List Rec)) → 0 < b → Shape b qs → Begun sp qs → sp < b
unfolding Shape Begun
spent-groups b sp [] o s h = omega arith
spent-groups b sp (q ∷ qs) o s h = omega (arith, s.1)

pub spent-most : (g : Geo) (s : Store) → Sized g → InShare g s → s.spent < g.factor
spent-most g s o h = spent-groups g.factor s.spent h.groups o.factor h.shape h.begun

spent-gone : (sp : ℕ) (qs : List (List Rec)) → Begun sp qs → length (flat qs) ≤ sp → sp ≡ 0
unfolding Begun flat
spent-gone sp [] h l = h
spent-gone sp (q ∷ qs) h l = absurd (omega (arith, length-append q (flat qs)))

-- "A file that becomes empty has used = 0"
pub spent-empty : (g : Geo) (s : Store) → InShare g s → s.recs ≡ [] → s.spent ≡ 0
spent-empty g s h e = spent-gone s.spent h.groups h.begun (omega (arith, length-drop s.spent (flat h.groups), ap length (h.recs ∙ e)))

all-flat : (g : Geo) (xs : List ℕ) (k : ℕ) (qs : List (List Rec)) → At g xs k qs → Small (g.words + 3) (flat qs)
unfolding At flat All
all-flat g xs k [] a = tt
all-flat g xs k (q ∷ qs) a = all_append _ q (flat qs) a.0 (all-flat g xs (suc k) qs a.2)

-- no record in a held block is longer than its place
pub small-flat : (g : Geo) (s : Store) (h : InShare g s) → Small (g.words + 3) (flat h.groups)
small-flat g s h = all-flat g s.share s.block h.groups h.at

pub small-recs : (g : Geo) (s : Store) → InShare g s → Small (g.words + 3) s.recs
small-recs g s h = rw (← h.recs) (all_drop _ s.spent (flat h.groups) (small-flat g s h))

-- Records that are put one after another are held.
use Prim.Native.Nat.{suc, ◌+◌, ◌≤◌}
use mathlib.Core.Path.{◌≡◌, refl, sym, ◌∙◌}
use mathlib.Core.List.{List, [], ◌∷◌, ◌++◌, append-nil, append_assoc}
use native.Mathlib.Omega.{arith}
use lib.ListN.{length, length-append}
use Rattle.rules.specs.State.{Rec, Geo, Store}
use Rattle.rules.specs.Geometry.{capacity}
use Rattle.rules.specs.Store.{used, empty_store, put, put_all}
use Rattle.shares.specs.Groups.{All, Small}
use Rattle.shares.specs.Holds.{Sized, InShare}
use Rattle.shares.proofs.Holds.{holds-empty}
use Rattle.shares.proofs.Put.{holds-put}

pub used-put : (g : Geo) (r : Rec) (s : Store) → used (put g r s) ≡ suc (used s)
unfolding used put
used-put g r s = omega (arith, length-append s.recs (r ∷ []))

pub holds-put_all : (g : Geo) (rs : List Rec) (s : Store) → Sized g → Small (g.words + 3) rs → used s + length rs ≤ capacity g.factor g.blocks
    → InShare g s
    → InShare g (put_all g rs s)
unfolding put_all All
holds-put_all g [] s o m c h = h
holds-put_all g (r ∷ rs) s o m c h = holds-put_all g rs (put g r s) o m.1 (omega (arith, used-put g r s)) (holds-put g r s o m.0 (omega arith) h)

pub recs-put_all : (g : Geo) (rs : List Rec) (s : Store) → (put_all g rs s).recs ≡ s.recs ++ rs
unfolding put_all put
recs-put_all g [] s = sym (append-nil s.recs)
recs-put_all g (r ∷ rs) s = recs-put_all g rs (put g r s) ∙ append_assoc s.recs (r ∷ []) rs

pub block-put_all : (g : Geo) (rs : List Rec) (s : Store) → (put_all g rs s).block ≡ s.block
unfolding put_all put
block-put_all g [] s = refl
block-put_all g (r ∷ rs) s = block-put_all g rs (put g r s)

pub spent-put_all : (g : Geo) (rs : List Rec) (s : Store) → (put_all g rs s).spent ≡ s.spent
unfolding put_all put
spent-put_all g [] s = refl
spent-put_all g (r ∷ rs) s = spent-put_all g rs (put g r s)

-- "Load packs the records from the share's first block"
pub holds-loaded : (g : Geo) (rs : List Rec) → Sized g → Small (g.words + 3) rs → length rs ≤ capacity g.factor g.blocks
    → InShare g (put_all g rs empty_store)
unfolding empty_store used
holds-loaded g rs o m c = holds-put_all g rs empty_store o m (omega arith) (holds-empty g o)

-- The records of the held blocks, those spent among them: what a put and what takes records away make of them.
use Prim.Native.Nat.{ℕ, ◌+◌, ◌-◌, ◌≤◌, ◌<◌}
use mathlib.Core.Bool.{Bool, true, false}
use mathlib.Core.Path.{◌≡◌, refl, sym, ap, ◌∙◌, subst}
use mathlib.Core.List.{List, [], ◌∷◌, ◌++◌}
use native.Mathlib.Omega.{arith}
use lib.Dec.{eqb}
use lib.ListN.{length, take, drop}
use lib.Seq.{take_at}
use Rattle.rules.specs.State.{Rec, Geo, Store}
use Rattle.rules.specs.Geometry.{capacity}
use Rattle.rules.specs.Store.{used, record_words, put, advance, advance_by, dropped, discard, purge, take_head, fetch, put_all}
use Rattle.shares.specs.Groups.{All, Small, flat}
use Rattle.shares.specs.Holds.{Sized, InShare}
use Rattle.shares.specs.Back.{ring_recs, used_recs}
use Rattle.rules.proofs.Split.{both}
use Rattle.shares.proofs.Groups.{all_drop, all_snoc}
use Rattle.shares.proofs.Says.{used-flat}
use Rattle.shares.proofs.Put.{grown-put, holds-put}
use Rattle.shares.proofs.Taken.{advance-last, advance-more, recs-advance, take_head-none, take_head-some}
use Rattle.shares.proofs.Holds.{holds-advance, holds-discard, holds-purge}
use Rattle.shares.proofs.PutAll.{used-put}
use Rattle.shares.proofs.Back.{ring_recs-at}

pub used_recs-flat : (g : Geo) (s : Store) → Sized g → (h : InShare g s) → used_recs g s ≡ flat h.groups
unfolding used_recs
used_recs-flat g s o h =
    let qs = h.groups in
    let e = g.blocks - length qs in
    ap (take (used s)) (ring_recs-at g o s.share h.long qs s.block g.blocks e (omega (arith, h.few)) h.shape h.at)
    ∙ take_at (flat qs) (ring_recs g s.share (s.block + length qs) e) (used s) (sym (used-flat g s h))

pub length-used_recs : (g : Geo) (s : Store) → Sized g → InShare g s → length (used_recs g s) ≡ used s
length-used_recs g s o h = ap length (used_recs-flat g s o h) ∙ sym (used-flat g s h)

-- the records held are those that are not spent
pub drop-used_recs : (g : Geo) (s : Store) → Sized g → InShare g s → drop s.spent (used_recs g s) ≡ s.recs
drop-used_recs g s o h = ap (drop s.spent) (used_recs-flat g s o h) ∙ h.recs

pub used_recs-put : (g : Geo) (r : Rec) (s : Store) → Sized g → record_words r ≤ g.words + 3 → used s < capacity g.factor g.blocks → InShare g s
    → used_recs g (put g r s) ≡ used_recs g s ++ (r ∷ [])
used_recs-put g r s o w c h =
    let y = grown-put g r s o w c h in
    used_recs-flat g (put g r s) o y.holds
    ∙ (y.more ∙ ap (λ (q : List Rec). q ++ (r ∷ [])) (sym (used_recs-flat g s o h)))

-- What holds of each record of the held blocks goes on to do so.
module _ (P : Rec → Type 0) (g : Geo) (o : Sized g) where
  -- where none is spent, they are the records held
  pub all-unspent : (s : Store) → InShare g s → s.spent ≡ 0 → All P s.recs → All P (used_recs g s)
  all-unspent s h e a = rw (ap (λ (n : ℕ). drop n (used_recs g s)) (sym e) ∙ drop-used_recs g s o h) a

  all-recs : (s : Store) → InShare g s → All P (used_recs g s) → All P s.recs
  all-recs s h a = rw (← drop-used_recs g s o h) (all_drop P s.spent (used_recs g s) a)

  -- the same block is the oldest: the used records are the same
  all-onward : (s : Store) (r : Rec) (rest : List Rec) → s.recs ≡ r ∷ rest → All P (used_recs g s)
      → All P (used_recs g (record { block = s.block; spent = s.spent + 1; recs = rest; share = s.share }))
  unfolding used_recs used
  all-onward s r rest e a =
      let u : s.spent + 1 + length rest ≡ s.spent + length s.recs = omega (arith, ap length e) in
      rw u a

  pub all-put : (r : Rec) (s : Store) → record_words r ≤ g.words + 3 → used s < capacity g.factor g.blocks → P r → InShare g s
      → All P (used_recs g s)
      → All P (used_recs g (put g r s))
  all-put r s w c p h a = rw (used_recs-put g r s o w c h) (all_snoc P (used_recs g s) r a p)

  all-advance : (s : Store) (r : Rec) (rest : List Rec) → s.recs ≡ r ∷ rest → InShare g s → All P (used_recs g s) → All P (used_recs g (advance g s))
  unfolding All
  all-advance s r [] e h a =
      let last = advance-last g s r e in
      rw last (all-unspent _ (subst (InShare g) last (holds-advance g s r [] e h)) refl tt)
  all-advance s r (q ∷ rest) e h a =
      let more = advance-more g s r q rest e in
      rw more (
      both (λ (t : Store). InShare g t → All P (used_recs g t)) (eqb (s.spent + 1) g.factor)
      (λ t k. all-unspent _ k refl (let b : All P (r ∷ q ∷ rest) = rw e at (all-recs s h a) in b.1))
      (λ t k. all-onward s r (q ∷ rest) e a)
      (subst (InShare g) more (holds-advance g s r (q ∷ rest) e h))
      )

  all-dropped : (l : List Rec) (s : Store) → s.recs ≡ l → InShare g s → All P (used_recs g s) → All P (used_recs g (advance_by (length (dropped l)) g s))
  unfolding dropped advance_by
  all-dropped [] s e h a = a
  all-dropped (r ∷ rest) s e h a =
      both (λ (x : List Rec). All P (used_recs g (advance_by (length x) g s))) (eqb r.typ 0) (λ t. a)
      (λ t. all-dropped rest (advance g s) (recs-advance g s r rest e) (holds-advance g s r rest e h) (all-advance s r rest e h a))

  all-discard : (s : Store) → InShare g s → All P (used_recs g s) → All P (used_recs g (discard g s))
  unfolding discard
  all-discard s h a = all-dropped s.recs s refl h a

  all-take_head : (keep : Bool) (went : List Rec) (s : Store) (l : List Rec) → s.recs ≡ l → InShare g s → All P (used_recs g s)
      → All P (used_recs g (take_head g keep went s).store)
  all-take_head keep went s [] e h a = rw (take_head-none g keep went s e) a
  all-take_head true went s (r ∷ rest) e h a = rw (take_head-some g true went s r rest e) a
  all-take_head false went s (r ∷ rest) e h a = rw (take_head-some g false went s r rest e) (all-advance s r rest e h a)

  pub all-fetch : (typed keep : Bool) (s : Store) → InShare g s → All P (used_recs g s) → All P (used_recs g (fetch g typed keep s).store)
  unfolding fetch
  all-fetch true keep s h a = all-take_head keep [] s s.recs refl h a
  all-fetch false keep s h a = all-take_head keep (dropped s.recs) (discard g s) (discard g s).recs refl (holds-discard g s h) (all-discard s h a)

  pub all-purge : (s : Store) → InShare g s → All P (used_recs g (purge g s))
  unfolding purge All
  all-purge s h = all-unspent (purge g s) (holds-purge g s h) refl tt

  pub all-put_all : (rs : List Rec) (s : Store) → Small (g.words + 3) rs → used s + length rs ≤ capacity g.factor g.blocks → All P rs
      → InShare g s → All P (used_recs g s)
      → All P (used_recs g (put_all g rs s))
  unfolding put_all All
  all-put_all [] s m c p h a = a
  all-put_all (r ∷ rs) s m c p h a =
      let room : used s < capacity g.factor g.blocks = omega arith in
      all-put_all rs (put g r s) m.1 (omega (arith, used-put g r s)) p.1 (holds-put g r s o m.0 room h) (all-put r s m.0 room p.0 h a)

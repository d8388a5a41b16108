-- The ring's numbers are the store's: after a put, after a record is gone and after a purge, and where the next record goes.
use Prim.Native.Nat.{ℕ, ◌+◌, ◌-◌, ◌*◌, ◌/◌, ◌%◌, ◌≤◌, ◌<◌}
use mathlib.Core.Bool.{Bool, true, false}
use mathlib.Core.Path.{◌≡◌, refl, sym, ap, ◌∙◌}
use mathlib.Core.List.{List, [], ◌∷◌}
use native.Mathlib.Omega.{arith}
use native.Mathlib.Nat.{add-mul, mul_comm, mul-one, mul-le-mul_left, mod-lt, mod-add-mod, div-add-mod', div-eq_of_lt-le}
use lib.Dec.{leb, eqb}
use lib.ListN.{length, length-append}
use borrow.Author.Tests.{le-leb, lt-leb, eqb-true, eqb-false}
use Rattle.rules.specs.Limits.{room_words, most_factor}
use Rattle.rules.specs.State.{Rec, Geo, Store}
use Rattle.rules.specs.Geometry.{divided_up, capacity, block_size}
use Rattle.rules.specs.Store.{block_bytes, advance, purge}
use Rattle.rules.specs.Store as rules
use Rattle.rules.proofs.Split.{both, pick_true, pick-false}
use Rattle.shares.specs.Holds.{Sized, InShare}
use Rattle.shares.proofs.Taken.{advance-last, advance-more}
use Rattle.shares.proofs.Says.{used-most, spent-most}
use Rattle.ring.specs.declared.Ring.{Ring}
use Rattle.ring.specs.Ring.{ring_of, Fitted, Ranged, wrapped, place, tail, at, put, advanced, purged}
use Rattle.ring.proofs.Laws.{wrapped-mod, rounds}

-- all numbers of a store that is held are in their ranges
pub ranged : (g : Geo) (s : Store) → Sized g → InShare g s → Ranged (ring_of g s)
unfolding rules.used capacity block_size
ranged g s o h =
    let n = block_size g.words g.factor in
    let b : g.factor ≤ n = omega (arith, add-mul g.words 3 g.factor) in
    let c : g.blocks * g.factor ≤ g.blocks * n = mul-le-mul_left g.blocks b in
    let e : g.blocks * 1 ≤ g.blocks * n = mul-le-mul_left g.blocks (omega arith) in
    record {
      factor = o.factor;
      block = h.block;
      blocks = omega (arith, mul-one g.blocks, o.fits);
      room = omega (arith, mul_comm g.factor g.blocks, o.fits);
      spent = spent-most g s o h;
      used = used-most g s h;
    }

pub fitted : (g : Geo) (s : Store) → g.words ≤ room_words → g.factor ≤ most_factor → Sized g → Fitted g.words (ring_of g s)
fitted g s w b o = record { words = w; factor = b; sized = o }

pub ring-put : (g : Geo) (r : Rec) (s : Store) → ring_of g (rules.put g r s) ≡ put (ring_of g s)
unfolding rules.put
ring-put g r s = ap (at (ring_of g s) s.block s.spent) (length-append s.recs (r ∷ []))

pub ring-advance : (g : Geo) (s : Store) (r : Rec) (rest : List Rec) → s.block < g.blocks → s.recs ≡ r ∷ rest
    → ring_of g (advance g s) ≡ advanced (ring_of g s)
unfolding advanced
ring-advance g s r [] o e =
    let w : wrapped g.blocks (s.block + 1) ≡ (s.block + 1) % g.blocks = wrapped-mod g.blocks (s.block + 1) (omega arith) in
    ap (ring_of g) (advance-last g s r e) ∙ ap (λ (k : ℕ). at (ring_of g s) k 0 0) (sym w) ∙ sym (pick_true (leb (length s.recs) 1) _ _ (le-leb (length s.recs) 1 (omega (arith, ap length e))))
ring-advance g s r (q ∷ rest) o e =
    let w : wrapped g.blocks (s.block + 1) ≡ (s.block + 1) % g.blocks = wrapped-mod g.blocks (s.block + 1) (omega arith) in
    let n : length (q ∷ rest) ≡ length s.recs - 1 = omega (arith, ap length e) in
    ap (ring_of g) (advance-more g s r q rest e) ∙ moved (eqb (s.spent + 1) g.factor) w n ∙ sym (pick-false (leb (length s.recs) 1) _ _ (lt-leb (length s.recs) 1 (omega (arith, ap length e))))
  where
    moved : (t : Bool) → wrapped g.blocks (s.block + 1) ≡ (s.block + 1) % g.blocks → length (q ∷ rest) ≡ length s.recs - 1
        → ring_of g
        (elim t as (λ (b : Bool). Store) [
          | true ↦ record { block = (s.block + 1) % g.blocks; spent = 0; recs = q ∷ rest; share = s.share }
          | false ↦ record { block = s.block; spent = s.spent + 1; recs = q ∷ rest; share = s.share }
        ])
        ≡ elim t as (λ (b : Bool). Ring) [
          | true ↦ at (ring_of g s) (wrapped g.blocks (s.block + 1)) 0 (length s.recs - 1)
          | false ↦ at (ring_of g s) s.block (s.spent + 1) (length s.recs - 1)
        ]
    moved true w n = rw (w, n)
    moved false w n = rw n

-- rounded up
divided_up-even : (n m : ℕ) → 0 < m → n % m ≡ 0 → divided_up n m ≡ n / m
unfolding divided_up
divided_up-even n m o z = div-eq_of_lt-le m (omega (arith, div-add-mod' n m)) (omega (arith, div-add-mod' n m, add-mul (n / m) 1 m))

divided_up-odd : (n m : ℕ) → 0 < m → (n % m ≡ 0 → ⊥) → divided_up n m ≡ n / m + 1
unfolding divided_up
divided_up-odd n m o z =
    div-eq_of_lt-le m (omega (arith, div-add-mod' n m, add-mul (n / m) 1 m)) (omega (arith, div-add-mod' n m, mod-lt n o, add-mul (n / m + 1) 1 m, add-mul (n / m) 1 m))

-- where the next record goes
module _ (g : Geo) (s : Store) (o : Sized g) (h : InShare g s) where
  full : rules.used s / g.factor ≤ g.blocks
  unfolding capacity
  full = rounds g.factor g.blocks (rules.used s) (used-most g s h)

  tail-block : (tail (ring_of g s)).block ≡ (s.block + rules.used s / g.factor) % g.blocks
  unfolding tail place rules.used
  tail-block = wrapped-mod g.blocks (s.block + rules.used s / g.factor) (omega (arith, full, h.block))

  pub ring-tail : (tail (ring_of g s)).block * block_bytes g ≡ rules.tail g s
  unfolding rules.tail
  ring-tail = ap (λ (k : ℕ). k * block_bytes g) tail-block

  pub ring-index : (tail (ring_of g s)).index ≡ rules.used s % g.factor
  unfolding tail place rules.used
  ring-index = refl

  even : rules.used s % g.factor ≡ 0 → ring_of g (purge g s) ≡ at (ring_of g s) (tail (ring_of g s)).block 0 0
  unfolding purge
  even z = ap (λ (k : ℕ). at (ring_of g s) k 0 0) (ap (λ (n : ℕ). (s.block + n) % g.blocks) (divided_up-even (rules.used s) g.factor o.factor z) ∙ sym tail-block)

  odd : (rules.used s % g.factor ≡ 0 → ⊥) → ring_of g (purge g s) ≡ at (ring_of g s) (wrapped g.blocks ((tail (ring_of g s)).block + 1)) 0 0
  unfolding purge
  odd z =
      let d = g.blocks in
      let q = rules.used s / g.factor in
      let u : s.block + divided_up (rules.used s) g.factor ≡ s.block + q + 1 = omega (arith, divided_up-odd (rules.used s) g.factor o.factor z) in
      let m : (s.block + q) % d < d = mod-lt (s.block + q) o.blocks in
      let w : wrapped d ((s.block + q) % d + 1) ≡ ((s.block + q) % d + 1) % d = wrapped-mod d ((s.block + q) % d + 1) (omega arith) in
      ap (λ (k : ℕ). at (ring_of g s) k 0 0)
      (ap (λ (n : ℕ). n % d) u ∙ (sym (mod-add-mod (s.block + q) d 1) ∙ (sym w ∙ ap (λ (n : ℕ). wrapped d (n + 1)) (sym tail-block))))

  pub ring-purge : ring_of g (purge g s) ≡ purged (ring_of g s)
  unfolding purged
  ring-purge = both (λ (q : Ring). ring_of g (purge g s) ≡ q) (eqb (tail (ring_of g s)).index 0)
      (λ e. even (sym ring-index ∙ eqb-true (tail (ring_of g s)).index 0 e))
      (λ e. odd (λ z. eqb-false (tail (ring_of g s)).index 0 e (ring-index ∙ z)))

-- The readers of a file whose last writer goes: what the functions of the walk hand each other.
use Prim.Native.Nat.{ℕ, ◌-◌, ◌<◌}
use mathlib.Core.Path.{◌≡◌, sym, ap, ◌∙◌, subst}
use mathlib.Core.Bool.{Bool, true, false}
use mathlib.Core.List.{List}
use native.Mathlib.Omega.{arith}
use borrow.Author.Tests.{ltb-true, ltb-false, eq-eqb, ne_eqb}
use lib.Dec.{ltb, eqb}
use lib.ListN.{length}
use Rattle.rules.specs.Limits.{files, entries}
use Rattle.rules.specs.State.{Built}
use Rattle.rules.specs.Requests.{writers}
use Rattle.rules.specs.Close.{end_readers, last_gone}
use Rattle.rules.proofs.Split.{pick_true, pick-false}
use Rattle.segment.specs.declared.PlaceRow.{PlaceRow}
use Rattle.segment.specs.Layout.{link_at, file_rows, segment_words, segment_bytes, desk_places}
use Rattle.segment.specs.Table.{nth}
use Rattle.segment.specs.Fields.{entry_at, place_at}
use Rattle.buffers.specs.Buffer.{buffers_bytes}
use Rattle.requests.specs.Moves.{completed}
use Rattle.accessors.specs.Sides.{count_side}
use Rattle.settling.specs.Turns.{Counts}
use Rattle.settling.proofs.Beside.{mid-writers, mid-counts}
use Rattle.midst.specs.declared.File as hand
use Rattle.midst.specs.Mid.{Start, Mid}
use Rattle.midst.proofs.Begins.{mid-lengths}
use Rattle.midst.proofs.Walks.{Owed}
use Rattle.buffers.specs.Buffer.{emptied}
use Rattle.closing.specs.Walk.{end_words, Walk}
use Rattle.closing.specs.Leaving.{Gone, Stops, Walked}
use Rattle.closing.proofs.Walks.{walk-slot, walk-size, walk-next}
use Rattle.closing.proofs.Passes.{next_place, next-kept, next-ended}
use Rattle.memory.specs.Memories.{Memories, memories}

-- the walk stands at an entry

module _ (xs ys : List ℕ) (slot e : ℕ) where
  pub stop-size : Stops xs ys slot e → (length xs ≡ segment_bytes) × (length ys ≡ buffers_bytes) × (slot < file_rows)
  stop-size ((n, f, blocks, x, o, b, left, W), h, k) = ((walk-size W).0, (walk-size W).1, walk-slot W)

  pub stop-place : (p : ℕ) → p ≡ (entry_at xs e).place → Stops xs ys slot e → p < desk_places
  stop-place p at ((n, f, blocks, x, o, b, left, W), h, k) = rw at (next_place W e (walk-next W e h k))

module _ {n f : ℕ} {o : Start} {m : Memories} {x : hand.File} {from : Built} {slot left : ℕ} (W : Walk (Owed n) f o m x from slot left)
    (e : ℕ) (h : e ≡ nth m.segment slot) (k : e < entries) (p : ℕ) (at : p ≡ (entry_at m.segment e).place) (row : PlaceRow) (is : row ≡ place_at m.segment p) where
  extended-is : row.extended ≡ (place_at m.segment (entry_at m.segment e).place).extended
  extended-is = ap (λ (r : PlaceRow). r.extended) (is ∙ ap (place_at m.segment) at)

  pub stays : row.extended ≡ 1 → (r : ℕ) → r ≡ link_at e → Walk (Owed n) f o m x from r (left - 1)
  stays u r v = subst (λ (s : ℕ). Walk (Owed n) f o m x from s (left - 1)) (sym v) (next-kept W e (walk-next W e h k) (sym extended-is ∙ u))

  pub ends : (row.extended ≡ 1 → ⊥) → (xs' ys' : List ℕ) → xs' ≡ completed m.segment slot p (end_words p) → ys' ≡ emptied p m.buffers
      → Walk (Owed n) f o (memories xs' m.blocks ys') x from slot (left - 1)
  ends u xs' ys' v w =
      next-ended W e (walk-next W e h k) (λ z. u (extended-is ∙ z)) xs' ys'
      (v ∙ ap (λ (i : ℕ). completed m.segment slot i (end_words i)) at) (w ∙ ap (λ (i : ℕ). emptied i m.buffers) at)

-- the walk

module _ (f : ℕ) (xs₀ ys₀ xs ys : List ℕ) (slot left : ℕ) (K : Walked f xs₀ ys₀ xs ys slot left) where
  pub walked-size : Gone f xs₀ ys₀ → (length xs ≡ segment_bytes) × (slot < segment_words)
  walked-size (n, blocks, x, o, b, M) = let W = K n blocks x o b M in ((walk-size W).0, omega (arith, walk-slot W))

  pub walked-stops : Gone f xs₀ ys₀ → (e : ℕ) → e ≡ nth xs slot → e < entries → Stops xs ys slot e
  walked-stops (n, blocks, x, o, b, M) e h k = ((n, f, blocks, x, o, b, left, K n blocks x o b M), h, k)

pub gone-size : (f : ℕ) (xs ys : List ℕ) → Gone f xs ys → (length xs ≡ segment_bytes) × (f < files)
gone-size f xs ys (n, blocks, x, o, b, M) = (mid-lengths M, M.file)

pub gone-counts : (f : ℕ) (xs ys : List ℕ) → Gone f xs ys → Counts f xs
gone-counts f xs ys (n, blocks, x, o, b, M) = mid-counts M M.good.1.0 M.good.0.1

-- "for the last writer"
module _ {n f : ℕ} {o : Start} {m : Memories} {x : hand.File} {b : Built} (M : Mid (Owed n) f o m x b) (t : Bool) (is : t ≡ ltb 0 (count_side m.segment f 2)) where
  counted : t ≡ ltb 0 (writers b)
  counted = is ∙ ap (ltb 0) (mid-writers M)

  none_left : t ≡ false → writers b ≡ 0
  none_left z = omega (arith, ltb-false 0 (writers b) (sym counted ∙ z))

  some_left : t ≡ true → writers b ≡ 0 → ⊥
  some_left z u = omega (arith, ltb-true 0 (writers b) (sym counted ∙ z))

  pub last-ends : t ≡ false → (xs' ys' : List ℕ) → Mid (Owed n) f o (memories xs' m.blocks ys') x (end_readers b.rq b) → Mid (Owed n) f o (memories xs' m.blocks ys') x (last_gone b)
  unfolding last_gone
  last-ends z xs' ys' N =
      subst (λ (c : Built). Mid (Owed n) f o (memories xs' m.blocks ys') x c) (sym (pick_true (eqb (writers b) 0) (end_readers b.rq b) b (eq-eqb (writers b) 0 (none_left z)))) N

  pub last-not : t ≡ true → Mid (Owed n) f o m x (last_gone b)
  unfolding last_gone
  last-not z =
      subst (λ (c : Built). Mid (Owed n) f o m x c) (sym (pick-false (eqb (writers b) 0) (end_readers b.rq b) b (ne_eqb (writers b) 0 (some_left z)))) M

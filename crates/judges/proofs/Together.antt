-- Who is open together, and the room for an open record, as a file's rows show them.
use Prim.Native.Nat.{ℕ, suc, ◌+◌, ◌*◌, ◌<◌}
use mathlib.Core.Path.{◌≡◌, refl, sym, ap, ap₂, ◌∙◌}
use mathlib.Core.Bool.{Bool, true, false, cond, ◌&&◌}
use mathlib.Core.List.{List, [], ◌∷◌}
use mathlib.Core.Option.{Option, none, some}
use native.Mathlib.Omega.{arith}
use borrow.Author.Tests.{lt-ltb, le-leb, lt-leb, eq-eqb, ne_eqb}
use lib.Dec.{ltb, leb, eqb}
use lib.ListN.{length, get_or}
use Rattle.occurrences.specs.Count.{bit}
use Rattle.rules.specs.Limits.{places}
use Rattle.rules.specs.Geometry.{capacity}
use Rattle.rules.specs.State.{Acc, Built}
use Rattle.rules.specs.Store.{used, purge}
use Rattle.rules.specs.Requests.{count_acc, opened, writers, readers, capacity_of, with_store, say}
use Rattle.rules.specs.Open.{sharing_of, other_share, crowded, purged, room_to_open}
use Rattle.segment.specs.Fields.{file_at, file_row_of, place_at}
use Rattle.memory.specs.Image.{file_words}
use Rattle.accessors.specs.Sides.{count_side, purges_at, side_of}
use Rattle.judges.specs.Sharing.{differs, others_from}
use Rattle.accessors.specs.Shown.{Shown}
use Rattle.judges.specs.Verdicts.{forbidden}
use Rattle.accessors.proofs.Counted.{Rows, rows-rest, rows-first, side-is, share-is, file-rows, count-writers, count-readers, count-closed, purges-is}

-- another share

differs_none : (s : List ℕ) (share i : ℕ) → (place_at s i).side ≡ 0 → differs s share i ≡ false
unfolding differs
differs_none s share i e = rw (eq-eqb (place_at s i).side 0 e)

differs-some : (s : List ℕ) (share i : ℕ) (a : Acc) → (place_at s i).side ≡ side_of (some a) → (place_at s i).share ≡ a.sharing → differs s share i ≡ other_share share a
unfolding differs other_share side_of
differs-some s share i a e k = rw (ne_eqb (place_at s i).side 0 (λ u. omega (arith, e)), k)

others-from : (s : List ℕ) (share i : ℕ) (l : List (Option Acc)) → Rows s i l → others_from s share i (length l) ≡ ltb 0 (count_acc (other_share share) l)
unfolding others_from count_acc
others-from s share i [] h = refl
others-from s share i (none ∷ l) h =
    rw (differs_none s share i (unfold side_of in side-is s i none (rows-first s i none l h))) (others-from s share (suc i) l (rows-rest s i none l h))
others-from s share i (some a ∷ l) h =
    rw (differs-some s share i a (side-is s i (some a) (rows-first s i (some a) l h)) (share-is s i a (rows-first s i (some a) l h)), others-from s share (suc i) l (rows-rest s i (some a) l h))
    (go (other_share share a))
  where
    go : (t : Bool) → cond t true (ltb 0 (count_acc (other_share share) l)) ≡ ltb 0 (bit t + count_acc (other_share share) l)
    go true = sym (lt-ltb 0 (1 + count_acc (other_share share) l) (omega arith))
    go false = let e : count_acc (other_share share) l ≡ 0 + count_acc (other_share share) l = omega arith in ap (ltb 0) e

-- the purge test, with the closed places counted
pub purge-known : (xs : List ℕ) (f access n : ℕ) {t : Bool} → n ≡ count_side xs f 0 → t ≡ (eqb access 1 && eqb n places) → t ≡ purges_at xs f access
unfolding purges_at
purge-known xs f access n e k = k ∙ ap (λ (m : ℕ). eqb access 1 && eqb m places) e

module _ (xs : List ℕ) (f : ℕ) (b : Built) (S : Shown xs f b) where
  pub others-are : (share : ℕ) → others_from xs share (places * f) places ≡ ltb 0 (count_acc (other_share share) b.accs)
  others-are share = ap (others_from xs share (places * f)) (sym S.eight) ∙ others-from xs share (places * f) b.accs (file-rows xs f b S.eight S.rows)

  pub writers-are : count_side xs f 2 ≡ writers b
  writers-are = count-writers xs f b S.eight S.rows

  readers-are : count_side xs f 1 ≡ readers b
  readers-are = count-readers xs f b S.eight S.rows

  closed-are : count_side xs f 0 + opened b ≡ places
  closed-are = count-closed xs f b S.eight S.rows

  -- a second accessor
  pub crowds-readers : (share n : ℕ) → share < 3 → n ≡ count_side xs f 1 → ltb 0 n ≡ crowded false share b
  unfolding crowded
  crowds-readers share n e k = rw (lt-ltb share 3 e) (ap (ltb 0) (k ∙ readers-are))

  -- what forbids an open
  pub forbids-multi : (access share multi : ℕ) → multi ≡ 3 → true ≡ forbidden access share multi b
  unfolding forbidden
  forbids-multi access share multi e = rw (eq-eqb multi 3 e)

  module _ (access share multi s : ℕ) (d : multi ≡ 3 → ⊥) (k : s ≡ sharing_of share) (t : Bool) (o : t ≡ others_from xs s (places * f) places) where
    pub forbids-other : t ≡ true → true ≡ forbidden access share multi b
    unfolding forbidden
    forbids-other e = rw (ne_eqb multi 3 d, ← k, ← others-are s, ← o, e)

    pub forbids-crowd : (r : Bool) → t ≡ false → r ≡ crowded (ltb 0 access) s b → r ≡ forbidden access share multi b
    unfolding forbidden
    forbids-crowd r e c = rw (ne_eqb multi 3 d, ← k, ← others-are s, ← o, e) c

  -- eight accessors open
  pub full_is : (n : ℕ) → n ≡ count_side xs f 0 → n ≡ 0 → leb places (opened b) ≡ true
  full_is n e k = le-leb places (opened b) (omega (arith, closed-are, e))

  pub not_full : (n : ℕ) → n ≡ count_side xs f 0 → (n ≡ 0 → ⊥) → leb places (opened b) ≡ false
  not_full n e k = lt-leb places (opened b) (some-closed n k (omega (arith, closed-are, e)))
    where
      some-closed : (n : ℕ) → (n ≡ 0 → ⊥) → n + opened b ≡ places → opened b < places
      some-closed n k i = omega arith

  -- what is used where the open purges, and where not
  ruled : (access : ℕ) (t : Bool) → purges_at xs f access ≡ t → (eqb access 1 && eqb (opened b) 0) ≡ t
  ruled access t e = sym (purges-is xs f b S.eight S.rows access) ∙ e

  pub used-purged : (access : ℕ) → purges_at xs f access ≡ true → used (purged access b).store ≡ 0
  unfolding used purged say with_store purge
  used-purged access e = rw (purged, ruled access true e)

  pub used-kept : (access : ℕ) → purges_at xs f access ≡ false → (file_at xs f).spent + (file_at xs f).held ≡ used (purged access b).store
  unfolding used purged file_at file_row_of file_words
  used-kept access e =
      rw (purged, ruled access false e) (ap (λ (r : List ℕ). get_or r 4 0 + get_or r 5 0) S.file)

  -- blocking factor times blocks is the rules' capacity
  pub room-is : (file_at xs f).factor * (file_at xs f).blocks ≡ capacity_of b
  unfolding capacity_of capacity file_at file_row_of file_words
  room-is = ap (λ (r : List ℕ). get_or r 1 0 * get_or r 2 0) S.file

  pub has_room : (access n w : ℕ) → n ≡ used (purged access b).store → w ≡ count_side xs f 2
      → leb (n + w + 2) ((file_at xs f).factor * (file_at xs f).blocks) ≡ room_to_open access b
  unfolding room_to_open
  has_room access n w e k = ap₂ {C = Bool} (λ x y. leb (x + y + 2) ((file_at xs f).factor * (file_at xs f).blocks)) e (k ∙ writers-are) ∙ ap (leb (used (purged access b).store + writers b + 2)) room-is

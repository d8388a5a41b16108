-- What `put` asks holds of a share that holds its store's records, and what it leaves is the rules' share with the record put.
use Prim.Native.Nat.{ℕ, ◌+◌, ◌*◌, ◌/◌, ◌%◌, ◌≤◌}
use mathlib.Core.Path.{◌≡◌, sym}
use mathlib.Core.List.{List, []}
use native.Mathlib.Omega.{arith}
use native.Mathlib.Nat.{mod-lt}
use lib.Dec.{eqb}
use lib.ListN.{length}
use lib.Seq.{sets}
use borrow.Author.Tests.{eqb-false}
use Rattle.rules.specs.Limits.{room_words, most_factor}
use Rattle.rules.specs.State.{Rec, Geo, Store}
use Rattle.rules.specs.Store.{record_words, block_bytes, zeroed}
use Rattle.rules.specs.Store as rules
use Rattle.rules.proofs.Split.{both}
use Rattle.shares.specs.Image.{words_of}
use Rattle.shares.specs.Groups.{All}
use Rattle.shares.specs.Holds.{Sized, InShare}
use Rattle.shares.proofs.Image.{image-put, image-used}
use Rattle.shares.proofs.Added.{zeroed-stands}
use Rattle.shares.proofs.Ring.{ring-inside, block-fits-more}
use Rattle.shares.proofs.Blocks.{tail-put, tail-room}
use Rattle.shares.proofs.Put.{inscribed-at}
use Rattle.ring.specs.Ring.{ring_of, tail}
use Rattle.blocks.specs.Writing.{begun, Roomy, tail_at, Ready, inscribed}
use Rattle.ring.proofs.Stores.{fitted, ranged, ring-tail, ring-index}
use Rattle.blocks.proofs.writing.Laws.{size-words}

-- a block with a place left, zeroed or begun
module _ (g : Geo) (s : Store) (r : Rec) (o : Sized g) (b : g.factor ≤ most_factor) (w : record_words r ≤ g.words + 3) (h : InShare g s) where
  roomy-first : Roomy (block_bytes g) (sets s.share (rules.tail g s) (zeroed (block_bytes g))) (rules.tail g s) (length r.body)
  unfolding words_of rules.tail All
  roomy-first =
      let n = block_bytes g in
      let a = rules.tail g s in
      let ys = sets s.share a (zeroed n) in
      let f : 4 + 2 * (0 + record_words r) ≤ n = block-fits-more g [] r o.factor tt w in
      let z = zeroed-stands n a s.share (omega arith) (omega (arith, h.long, ring-inside g o (s.block + rules.used s / g.factor))) in
      record {
        count = omega (arith, image-put ys a [] z);
        space = omega (arith, image-used ys a [] z, size-words r);
      }

  roomy-next : 1 ≤ rules.used s % g.factor → Roomy (block_bytes g) s.share (rules.tail g s) (length r.body)
  roomy-next z = record {
    count = omega (arith, tail-put g s o h z, mod-lt (rules.used s) o.factor);
    space = omega (arith, tail-room g s r o h w z, size-words r);
  }

  roomy : Roomy (block_bytes g) (begun (block_bytes g) s.share (tail_at g.words (ring_of g s)) (tail (ring_of g s)).index) (tail_at g.words (ring_of g s)) (length r.body)
  unfolding begun
  roomy = rw (ring-tail g s o h, ring-index g s o h)
      (both (λ (xs : List ℕ). Roomy (block_bytes g) xs (rules.tail g s) (length r.body)) (eqb (rules.used s % g.factor) 0)
      (λ e. roomy-first)
      (λ e. roomy-next (let z : (rules.used s % g.factor ≡ 0 → ⊥) = eqb-false (rules.used s % g.factor) 0 e in omega arith)))

pub ready : (g : Geo) (s : Store) (r : Rec) → Sized g → g.words ≤ room_words → g.factor ≤ most_factor → record_words r ≤ g.words + 3 → InShare g s
    → Ready g.words (ring_of g s) s.share (length r.body)
ready g s r o v b w h = record { ranged = ranged g s o h; fitted = fitted g s v b o; roomy = roomy g s r o b w h }

pub inscribed-put : (g : Geo) (s : Store) (r : Rec) → Sized g → InShare g s → inscribed g.words (ring_of g s) r s.share ≡ (rules.put g r s).share
unfolding inscribed rules.put
inscribed-put g s r o h = rw (ring-tail g s o h, ring-index g s o h) (sym (inscribed-at g r s))

-- An accessor goes: its row is zeroed, and a writer's close record is put.
use Prim.Native.Nat.{ℕ, ◌+◌, ◌*◌, ◌<◌}
use mathlib.Core.Path.{◌≡◌, refl, sym, ap, ◌∙◌, subst}
use mathlib.Core.Bool.{Bool, true, false}
use mathlib.Core.List.{List, []}
use mathlib.Core.Option.{Option, some}
use native.Mathlib.Omega.{arith}
use lib.ListN.{length}
use Rattle.occurrences.specs.Count.{bit}
use Rattle.rules.specs.Limits.{files, places}
use Rattle.rules.specs.State.{idle, Acc, Built}
use Rattle.rules.specs.Requests.{acc_at, put_rec}
use Rattle.rules.specs.Close.{close_rec, last_gone, vacate, closed}
use Rattle.rules.specs.Allocation.{place_of}
use Rattle.rules.specs.Memories.{share_at}
use Rattle.rules.proofs.Split.{pick_true, pick-false}
use Rattle.segment.specs.declared.PlaceRow.{PlaceRow}
use Rattle.segment.specs.Layout.{segment_bytes, place_row_at}
use Rattle.segment.specs.Table.{fill}
use Rattle.segment.specs.Fields.{place_words, place_at, place_row_of}
use Rattle.blocks.specs.Writing.{rec_of, Ready}
use Rattle.blocks.specs.Memory.{blocks_bytes}
use Rattle.memory.specs.Memories.{Memories, memories}
use Rattle.memory.specs.Image as image
use Rattle.memory.specs.Fine.{Fine}
use Rattle.midst.specs.declared.File as hand
use Rattle.midst.specs.Mid.{Start, Mid}
use Rattle.midst.proofs.Begins.{mid-lengths, mid-place}
use Rattle.midst.proofs.Changes.{mid-below}
use Rattle.midst.proofs.Rows.{mid-vacate}
use Rattle.midst.proofs.Walks.{Owed, fine-walks}
use Rattle.store.specs.Door.{Keeps}
use Rattle.store.proofs.Hands.{owed-stored, hand-ready, through}

-- the close record

module _ {n f : ℕ} {o : Start} {m : Memories} {x : hand.File} {b : Built} (M : Mid (Owed n) f o m x b) where
  pub close-ready : ((length m.blocks ≡ blocks_bytes) × (f < files)) × Ready x.words x.ring (share_at f m.blocks) 0
  unfolding close_rec
  close-ready = hand-ready M (owed-stored n b M.good) (close_rec n) (omega arith)

  pub close-put : (blocks' : List ℕ) (y : hand.File) → Keeps f (put_rec (rec_of 2 n [])) m.blocks x blocks' y → Mid Fine f o (memories m.segment blocks' m.buffers) y (put_rec (close_rec n) b)
  unfolding close_rec
  close-put blocks' y keeps = through M (put_rec (close_rec n)) blocks' y keeps (owed-stored n b M.good) (fine-walks.closes n b M.good)

-- the row

-- a row that is zero in each field
pub vacant : (r : PlaceRow)
    → (r.side ≡ 0) × ((r.id ≡ 0) × ((r.share ≡ 0) × ((r.timeout ≡ 0) × ((r.extended ≡ 0) × ((r.typed ≡ 0) × ((r.keep ≡ 0) × (r.first ≡ 0)))))))
    → r ≡ record { side = 0; id = 0; share = 0; timeout = 0; extended = 0; typed = 0; keep = 0; first = 0 }
vacant r (a, (b, (c, (d, (e, (f, (g, h))))))) = go r.side r.id r.share r.timeout r.extended r.typed r.keep r.first a b c d e f g h
  where
    go : (side id share timeout extended typed keep first : ℕ)
        → side ≡ 0 → id ≡ 0 → share ≡ 0 → timeout ≡ 0 → extended ≡ 0 → typed ≡ 0 → keep ≡ 0 → first ≡ 0
        → ◌≡◌ {A = PlaceRow} (record { side = side; id = id; share = share; timeout = timeout; extended = extended; typed = typed; keep = keep; first = first })
        (record { side = 0; id = 0; share = 0; timeout = 0; extended = 0; typed = 0; keep = 0; first = 0 })
    go side id share timeout extended typed keep first a b c d e f g h = rw (a, b, c, d, e, f, g, h)

module _ {f : ℕ} {o : Start} {ms : Memories} {x : hand.File} {b : Built} (M : Mid Fine f o ms x b) (p : ℕ) (a : Acc) (e : acc_at b p ≡ some a) where
  pub leave-size : (length ms.segment ≡ segment_bytes) × (f < files) × (p < places)
  leave-size = (mid-lengths M, M.file, mid-below M p a e)

  module _ (still : a.req ≡ idle) (row : PlaceRow) (is : row ≡ place_at ms.segment (places * f + p)) (xs' : List ℕ)
      (u : xs' ≡ fill ms.segment (place_row_at (places * f + p)) (place_words (record { side = 0; id = 0; share = 0; timeout = 0; extended = 0; typed = 0; keep = 0; first = 0 }))) where
    row_is : row ≡ place_row_of (image.place_words (some a))
    unfolding place_of
    row_is = is ∙ mid-place M p (mid-below M p a e) ∙ ap (λ (z : Option Acc). place_row_of (image.place_words z)) e

    side-is : row.side ≡ 1 + bit a.writer
    unfolding place_row_of image.place_words
    side-is = ap (λ (r : PlaceRow). r.side) row_is

    id-is : row.id ≡ a.ident
    unfolding place_row_of image.place_words
    id-is = ap (λ (r : PlaceRow). r.id) row_is

    reader : (row.side ≡ 2 → ⊥) → a.writer ≡ false
    reader n = go a.writer refl
      where
        go : (t : Bool) → a.writer ≡ t → a.writer ≡ false
        go true q = absurd (n (side-is ∙ ap (λ (t : Bool). 1 + bit t) q))
        go false q = q

    writer : row.side ≡ 2 → a.writer ≡ true
    writer h = go a.writer refl
      where
        go : (t : Bool) → a.writer ≡ t → a.writer ≡ true
        go true q = q
        go false q = absurd (omega (arith, side-is, ap bit q))

    vacated : {J : Built → Type 0} → J (vacate p b) → Mid J f o (memories xs' ms.blocks ms.buffers) x (vacate p b)
    unfolding place_of place_words image.place_words
    vacated {J} j = rw u (mid-vacate {J = J} M p a _ e still j refl)

    -- a reader
    pub reader-gone : (row.side ≡ 2 → ⊥) → Mid Fine f o (memories xs' ms.blocks ms.buffers) x (closed p a b)
    unfolding closed
    reader-gone n =
        subst (λ (c : Built). Mid Fine f o (memories xs' ms.blocks ms.buffers) x c) (sym (pick-false a.writer (put_rec (close_rec a.ident) (last_gone (vacate p b))) (vacate p b) (reader n)))
        (vacated {J = Fine} (fine-walks.leaves p a b e still (reader n) M.good))

    -- a writer
    pub writer-gone : row.side ≡ 2 → Mid (Owed row.id) f o (memories xs' ms.blocks ms.buffers) x (vacate p b)
    writer-gone h = vacated {J = Owed row.id} (subst (λ (m : ℕ). Owed m (vacate p b)) (sym id-is) (fine-walks.parts p a b e still (writer h) M.good))

    writer-closed : row.side ≡ 2 → put_rec (close_rec row.id) (last_gone (vacate p b)) ≡ closed p a b
    unfolding closed
    writer-closed h =
        ap (λ (m : ℕ). put_rec (close_rec m) (last_gone (vacate p b))) id-is
        ∙ sym (pick_true a.writer (put_rec (close_rec a.ident) (last_gone (vacate p b))) (vacate p b) (writer h))

    pub writer-done : row.side ≡ 2 → {xs bs ys : List ℕ} {y : hand.File} → Mid Fine f o (memories xs bs ys) y (put_rec (close_rec row.id) (last_gone (vacate p b)))
        → Mid Fine f o (memories xs bs ys) y (closed p a b)
    writer-done h {xs} {bs} {ys} {y} N = subst (λ (c : Built). Mid Fine f o (memories xs bs ys) y c) (writer-closed h) N

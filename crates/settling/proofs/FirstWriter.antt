-- The first waiting writer: what the segment and its buffer say of it.
use Prim.Native.Nat.{ℕ, ◌*◌, ◌≤◌, ◌<◌}
use mathlib.Core.Path.{◌≡◌, refl, sym, ap, ◌∙◌, subst}
use mathlib.Core.Bool.{true}
use mathlib.Core.List.{List, [], ◌∷◌}
use mathlib.Core.Option.{Option, some}
use native.Mathlib.Omega.{arith}
use lib.ListN.{length, take}
use Rattle.occurrences.specs.Count.{bit}
use Rattle.rules.specs.Limits.{places, entries, buffer_bytes}
use Rattle.rules.specs.State.{Offered, Req, writing, Acc, Built}
use Rattle.rules.specs.Requests.{acc_at}
use Rattle.rules.specs.Allocation.{place_of}
use Rattle.rules.specs.Memories.{buffer_at}
use Rattle.rules.specs.Buffers.{lies}
use Rattle.laws.specs.Outstanding.{req_of}
use Rattle.laws.specs.Bounds.{Bounded}
use Rattle.laws.proofs.Bounds.{bounds-at}
use Rattle.laws.proofs.Happenings.{place-of-desk}
use Rattle.segment.specs.declared.Entry.{Entry}
use Rattle.segment.specs.declared.PlaceRow.{PlaceRow}
use Rattle.segment.specs.Layout.{write_queue, desk_places}
use Rattle.segment.specs.Table.{nth, row}
use Rattle.segment.specs.Fields.{entry_words, waiting_write, entry_of, entry_at, place_at, place_row_of}
use Rattle.memory.specs.Memories.{Memories}
use Rattle.memory.specs.Image.{req_words, place_words}
use Rattle.memory.specs.Fine.{Fine}
use Rattle.memory.proofs.Frames.{lies-there}
use Rattle.midst.specs.declared.File as hand
use Rattle.midst.specs.Mid.{Start, Mid}
use Rattle.midst.proofs.Begins.{mid-place}
use Rattle.midst.proofs.Heads.{writes_at, head-none, head-some}
use Rattle.midst.proofs.Changes.{mid-below}
use Rattle.settling.specs.Turns.{data_of}

-- the writer at the head of the queue
pub record Writer (xs : List ℕ) (f : ℕ) (b : Built) : Type 0 where
  pub place : ℕ
  pub rest : List ℕ
  pub acc : Acc
  pub offered : Offered
  pub first : b.wq ≡ place ∷ rest
  pub opens : acc_at b place ≡ some acc
  pub asks : acc.req ≡ writing offered
  pub entry : entry_at xs (nth xs (write_queue f)) ≡ waiting_write (place_of f place) (bit offered.by_words) (length offered.bytes)

module _ {f : ℕ} {o : Start} {ms : Memories} {x : hand.File} {b : Built} (M : Mid Fine f o ms x b) where
  writer-at : (p : ℕ) (rest : List ℕ) → b.wq ≡ p ∷ rest → Writer ms.segment f b
  unfolding entry_of req_words req_of entry_words
  writer-at p rest q =
      let (a, w, e, r) = writes_at b p rest M.good.queues q in
      record {
        place = p;
        rest = rest;
        acc = a;
        offered = w;
        first = q;
        opens = e;
        asks = r;
        entry = unfold entry_at in ap entry_of ((head-some M true p rest q).1 ∙ ap (req_words (place_of f p)) (ap req_of e ∙ r));
      }

  -- there is one exactly where the head is an entry's number
  pub writer-or : (P : List ℕ → Type 0) → (entries ≤ nth ms.segment (write_queue f) → b.wq ≡ [] → P []) → ((r : Writer ms.segment f b) → nth ms.segment (write_queue f) < entries → P b.wq) → P b.wq
  writer-or P n s = go b.wq refl
    where
      go : (l : List ℕ) → b.wq ≡ l → P l
      go [] e = n (head-none M true e) e
      go (p ∷ rest) e = subst P e (s (writer-at p rest e) (head-some M true p rest e).0)

  pub writer_of : nth ms.segment (write_queue f) < entries → Writer ms.segment f b
  writer_of h = writer-or (λ _. Writer ms.segment f b) (λ n _. absurd (omega arith)) (λ r _. r)

  module _ (r : Writer ms.segment f b) where
    writer-below : r.place < places
    writer-below = mid-below M r.place r.acc r.opens

    pub writer-place : place_of f r.place < desk_places
    writer-place = place-of-desk f r.place M.file writer-below

    pub writer-id : (m : Entry) (row : PlaceRow) → m ≡ entry_at ms.segment (nth ms.segment (write_queue f)) → row ≡ place_at ms.segment m.place → row.id ≡ r.acc.ident
    unfolding place_row_of place_words
    writer-id m row e u =
        ap (λ (y : PlaceRow). y.id)
        (u ∙ ap (place_at ms.segment) (ap (λ (n : Entry). n.place) (e ∙ r.entry)) ∙ mid-place M r.place writer-below ∙ ap (λ (z : Option Acc). place_row_of (place_words z)) r.opens)

    pub writer-short : length r.offered.bytes ≤ 2 * b.geo.words
    unfolding Bounded
    writer-short = bounds-at r.place r.acc _ b r.opens r.asks M.good.bounds

    -- the waiting writer's data lie in its buffer
    writer-lies : take (length r.offered.bytes) (buffer_at (place_of f r.place) ms.buffers) ≡ r.offered.bytes
    unfolding acc_at req_of lies
    writer-lies =
        subst (λ (q : Req). take (length (lies q)) (buffer_at (place_of f r.place) ms.buffers) ≡ lies q) (ap req_of r.opens ∙ r.asks)
        (lies-there f r.place ms.buffers b M.good.buffers M.buffer writer-below)

    module _ (e : ℕ) (m : Entry) (at : e ≡ nth ms.segment (write_queue f)) (em : m ≡ entry_at ms.segment e) where
      pub writer-is : m ≡ waiting_write (place_of f r.place) (bit r.offered.by_words) (length r.offered.bytes)
      writer-is = em ∙ ap (entry_at ms.segment) at ∙ r.entry

      pub writer-under : m.place < desk_places
      writer-under = subst (λ (n : Entry). n.place < desk_places) (sym writer-is) writer-place

      pub writer-size : m.size ≤ buffer_bytes
      writer-size = omega (arith, ap (λ (n : Entry). n.size) writer-is, writer-short, M.good.room.geo.words-high)

      pub writer-data : data_of m ms.buffers ≡ r.offered.bytes
      writer-data = ap (λ (n : Entry). take n.size (buffer_at n.place ms.buffers)) writer-is ∙ writer-lies

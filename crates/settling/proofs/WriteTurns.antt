-- The exits of a writer's turn, from what the functions that it calls give.
use Prim.Native.Nat.{ℕ, ◌*◌, ◌≤◌, ◌<◌}
use mathlib.Core.Path.{◌≡◌, refl, sym, ap, ap₂, ◌∙◌, subst}
use mathlib.Core.Bool.{true, false}
use mathlib.Core.List.{List, []}
use mathlib.Core.Option.{some}
use native.Mathlib.Omega.{arith}
use lib.ListN.{length}
use lib.Seq.{sets}
use Rattle.words.specs.Word.{zeros}
use Rattle.occurrences.specs.Count.{count}
use Rattle.rules.specs.Limits.{entries, buffer_bytes, files}
use Rattle.rules.specs.State.{Rec, Req, writing, Built}
use Rattle.rules.specs.Requests.{acc_at, fits, with_store, say, put_rec, finish}
use Rattle.rules.specs.Settle.{write_result, data_rec, serve_writer, at_head}
use Rattle.rules.specs.Allocation.{place_of}
use Rattle.rules.specs.Memories.{share_at}
use Rattle.rules.specs.Buffers.{lies}
use Rattle.laws.specs.Outstanding.{waits_write}
use Rattle.laws.specs.Changes.{Ends, write_ends}
use Rattle.laws.proofs.Walk.{put-at}
use Rattle.segment.specs.declared.Entry.{Entry}
use Rattle.segment.specs.declared.PlaceRow.{PlaceRow}
use Rattle.segment.specs.Layout.{write_queue}
use Rattle.segment.specs.Table.{nth}
use Rattle.segment.specs.Fields.{entry_words, entry_at, place_at}
use Rattle.requests.specs.Moves.{completed}
use Rattle.blocks.specs.Memory.{blocks_bytes}
use Rattle.blocks.specs.Writing.{rec_of, Ready}
use Rattle.accessors.specs.Sides.{count_side}
use Rattle.memory.specs.Memories.{Memories, memories}
use Rattle.memory.specs.Image.{req_words}
use Rattle.memory.specs.Fine.{Fine}
use Rattle.midst.specs.declared.File as hand
use Rattle.midst.specs.Mid.{Start, Mid}
use Rattle.midst.proofs.Changes.{fine-knows, clear}
use Rattle.midst.proofs.Terms.{waits_at}
use Rattle.midst.proofs.Requests.{step-finish}
use Rattle.midst.proofs.Walks.{fine-walks}
use Rattle.store.specs.Door.{Keeps, fits_ring}
use Rattle.store.proofs.Hands.{fine-stored, hand-ready, through}
use Rattle.store.proofs.Room.{fits-is}
use Rattle.settling.specs.Turns.{Served, wrote_words, data_of}
use Rattle.settling.proofs.FirstReader.{bit-one}
use Rattle.settling.proofs.FirstWriter.{Writer, writer-or, writer-id, writer-short, writer-is, writer-data}
use Rattle.settling.proofs.ReadTurns.{still-served, onward-served}
use Rattle.settling.proofs.Serves.{writes-none, writes-some}

module _ {f : ℕ} {o : Start} {ms : Memories} {x : hand.File} {b : Built} (M : Mid Fine f o ms x b) where
  -- nobody waits
  pub turn-nobody : (e : ℕ) → e ≡ nth ms.segment (write_queue f) → entries ≤ e → Served f o ms (record { moved = false; file = x }) (at_head serve_writer b.wq b)
  unfolding at_head
  turn-nobody e q h =
      writer-or M (λ (l : List ℕ). Served f o ms (record { moved = false; file = x }) (at_head serve_writer l b))
      (λ _ _. still-served f o ms x b M) (λ r k. absurd (omega arith))

  module _ (r : Writer ms.segment f b) where
    -- no room
    pub turn-full : fits_ring x.ring (count_side ms.segment f 2) ≡ false → Served f o ms (record { moved = false; file = x }) (at_head serve_writer b.wq b)
    turn-full h =
        subst (Served f o ms (record { moved = false; file = x }))
        (sym (writes-none b r.place r.rest r.acc r.opens r.offered r.first r.asks (sym (fits-is M) ∙ h)))
        (still-served f o ms x b M)

    -- what a put of its data asks
    module _ (e : ℕ) (m : Entry) (at : e ≡ nth ms.segment (write_queue f)) (em : m ≡ entry_at ms.segment e) where
      pub data-ready : ((length ms.blocks ≡ blocks_bytes) × (f < files)) × Ready x.words x.ring (share_at f ms.blocks) (length (data_of m ms.buffers))
      data-ready = hand-ready M (fine-stored M.good) (rec_of 0 0 (data_of m ms.buffers)) (omega (arith, ap length (writer-data M r e m at em), writer-short M r))

      -- the writer is served
      module _ (row : PlaceRow) (er : row ≡ place_at ms.segment m.place) (fit : fits_ring x.ring (count_side ms.segment f 2) ≡ true) where
        abbrev d : Rec
        d = data_rec r.acc r.offered.bytes

        abbrev B : Built
        B = put_rec d b

        abbrev q : Req
        q = write_result r.offered

        fits-now : fits b ≡ true
        fits-now = sym (fits-is M) ∙ fit

        fine-put : Fine B
        fine-put = fine-walks.serves r.place r.acc r.offered b r.opens r.asks fits-now M.good

        rec-is : rec_of 0 row.id (data_of m ms.buffers) ≡ d
        unfolding data_rec
        rec-is = ap₂ {C = Rec} (λ (n : ℕ) (zs : List ℕ). rec_of 0 n zs) (writer-id M r m row (em ∙ ap (entry_at ms.segment) at) er) (writer-data M r e m at em)

        open-put : acc_at B r.place ≡ some r.acc
        open-put = put-at r.place d b ∙ r.opens

        pub served : (ms' : Memories) (y : hand.File) → Keeps f (put_rec (rec_of 0 row.id (data_of m ms.buffers))) ms.blocks x ms'.blocks y
            → ms'.buffers ≡ sets ms.buffers (buffer_bytes * m.place) (zeros buffer_bytes) → ms'.segment ≡ completed ms.segment (write_queue f) m.place (wrote_words m)
            → Served f o ms' (record { moved = true; file = y }) (at_head serve_writer b.wq b)
        served ms' y keeps ey ex =
            subst (Served f o ms' (record { moved = true; file = y }))
            (sym (writes-some b r.place r.rest r.acc r.opens r.offered r.first r.asks fits-now))
            (onward-served f o ms' y (finish r.place 0 q B)
            (subst (λ (zs : List ℕ). Mid Fine f o (memories zs ms'.blocks ms'.buffers) y (finish r.place 0 q B)) (sym (ex ∙ entry-words))
            (step-finish fine-knows put-mid r.place r.acc open-put true 0 (writing r.offered) q r.asks waits ends [] r.rest (unfold put_rec say with_store in r.first) (unfold count in refl) ms'.buffers
            (fine-walks.finishes r.place 0 q r.acc (writing r.offered) B open-put r.asks ends fine-put) (clear f r.place q ms.buffers none-lies laid))))
          where
            put-mid : Mid Fine f o (memories ms.segment ms'.blocks ms.buffers) y B
            put-mid = through M (put_rec d) ms'.blocks y (subst (λ (z : Rec). Keeps f (put_rec z) ms.blocks x ms'.blocks y) rec-is keeps) (fine-stored M.good) fine-put

            waits : waits_at true (writing r.offered) ≡ 1
            waits = unfold waits_write in refl

            ends : Ends 0 (writing r.offered) q
            ends = unfold write_result in write_ends refl (omega arith)

            none-lies : lies q ≡ []
            none-lies = unfold lies write_result in refl

            laid : ms'.buffers ≡ sets ms.buffers (buffer_bytes * place_of f r.place) (zeros buffer_bytes)
            laid = ey ∙ ap (λ (n : Entry). sets ms.buffers (buffer_bytes * n.place) (zeros buffer_bytes)) (writer-is M r e m at em)

            entry-words : completed ms.segment (write_queue f) m.place (wrote_words m) ≡ completed ms.segment (write_queue f) (place_of f r.place) (req_words (place_of f r.place) q)
            entry-words =
                ap (λ (n : Entry). completed ms.segment (write_queue f) n.place (wrote_words n)) (writer-is M r e m at em)
                ∙ ap (completed ms.segment (write_queue f) (place_of f r.place)) (unfold wrote_words req_words write_result entry_words in rw (bit-one r.offered.by_words) refl)

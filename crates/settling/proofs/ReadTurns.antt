-- The exits of a reader's turn, from what the functions that it calls give.
use Prim.Native.Nat.{ℕ, ◌*◌, ◌≤◌}
use mathlib.Core.Path.{◌≡◌, refl, sym, ap, ap₂, ◌∙◌, subst}
use mathlib.Core.Bool.{Bool, true, false}
use mathlib.Core.List.{List, []}
use mathlib.Core.Option.{some}
use native.Mathlib.Omega.{arith}
use lib.Dec.{eqb}
use lib.ListN.{length}
use lib.Seq.{sets}
use Rattle.occurrences.specs.Count.{bit}
use Rattle.occurrences.specs.Count as occurrences
use Rattle.rules.specs.Limits.{entries, buffer_bytes}
use Rattle.rules.specs.State.{Rec, Req, reading, Geo, Built}
use Rattle.rules.specs.Store.{fetch}
use Rattle.rules.specs.Requests.{acc_at, behind, finish, with_store, say}
use Rattle.rules.specs.Settle.{handed, read_result, still, onward, serve_reader, at_head}
use Rattle.rules.specs.Allocation.{place_of}
use Rattle.rules.specs.Memories.{share_at}
use Rattle.laws.specs.Outstanding.{waits_read}
use Rattle.laws.specs.Changes.{Ends, read_ends}
use Rattle.laws.proofs.Walk.{behind-at, length-handed}
use Rattle.segment.specs.declared.Entry.{Entry}
use Rattle.segment.specs.declared.PlaceRow.{PlaceRow}
use Rattle.segment.specs.Layout.{read_queue}
use Rattle.segment.specs.Table.{nth}
use Rattle.segment.specs.Fields.{entry_words, waiting_read, entry_at, place_at}
use Rattle.requests.specs.Moves.{completed}
use Rattle.rules.specs.Buffers.{lies, filled}
use Rattle.shares.specs.Back.{rec_at}
use Rattle.memory.specs.Memories.{Memories, memories}
use Rattle.memory.specs.Image.{req_words}
use Rattle.memory.specs.Fine.{Fine}
use Rattle.midst.specs.declared.File as hand
use Rattle.midst.specs.Mid.{Start, Mid}
use Rattle.midst.proofs.Changes.{fine-knows}
use Rattle.midst.proofs.Terms.{waits_at}
use Rattle.midst.proofs.Requests.{step-finish}
use Rattle.midst.proofs.Walks.{fine-walks}
use Rattle.store.specs.declared.Fetched.{Fetched}
use Rattle.store.specs.Door.{Keeps, fetching, Gets}
use Rattle.store.proofs.Readers.{handed-same, fetched-mid, fetched-none, fetched-some}
use Rattle.settling.specs.Turns.{Served, read_words}
use Rattle.settling.proofs.FirstReader.{bit-one, Reader, reader-or, reader-typed, reader-short}
use Rattle.settling.proofs.Serves.{reads_none, reads-some}

-- what the code of a reader's turn has read when it has fetched: the entry at the head of the queue, its accessor's row, and what the fetch gave
pub record Seen (f : ℕ) (xs blocks : List ℕ) (x : hand.File) (e : ℕ) (m : Entry) (row : PlaceRow) (z : Fetched) : Type 0 where
  pub first : e ≡ nth xs (read_queue f)
  pub entry : m ≡ entry_at xs e
  pub place : row ≡ place_at xs m.place
  pub keeps : (p : ℕ) → Keeps f (fetching p (eqb row.typed 1) (eqb m.keep 1)) blocks x blocks z.file
  pub gets : Gets f (eqb row.typed 1) (eqb m.keep 1) blocks x z

pub still-served : (f : ℕ) (o : Start) (m : Memories) (y : hand.File) (c : Built) → Mid Fine f o m y c
    → Served f o m (record { moved = false; file = y }) (still c)
unfolding still
still-served f o m y c N = record { moved = refl; mid = N }

pub onward-served : (f : ℕ) (o : Start) (m : Memories) (y : hand.File) (c : Built) → Mid Fine f o m y c
    → Served f o m (record { moved = true; file = y }) (onward c)
unfolding onward
onward-served f o m y c N = record { moved = refl; mid = N }

module _ {f : ℕ} {o : Start} {ms : Memories} {x : hand.File} {b : Built} (M : Mid Fine f o ms x b) where
  -- nobody waits
  pub turn-nobody : (e : ℕ) → e ≡ nth ms.segment (read_queue f) → entries ≤ e → Served f o ms (record { moved = false; file = x }) (at_head serve_reader b.rq b)
  unfolding at_head still
  turn-nobody e q h =
      reader-or M (λ (l : List ℕ). Served f o ms (record { moved = false; file = x }) (at_head serve_reader l b))
      (λ _ _. record { moved = refl; mid = M }) (λ r k. absurd (omega arith))

  abbrev g : Geo
  g = b.geo

  -- the reader r waits, and the code has seen what it needs
  module _ (r : Reader ms.segment f b) {e : ℕ} {m : Entry} {row : PlaceRow} {z : Fetched} (v : Seen f ms.segment ms.blocks x e m row z) where
    abbrev typed : Bool
    typed = r.acc.typed

    -- the file after the read
    abbrev B : Built
    B = fetching r.place typed r.wanted.keep b

    entry-is : m ≡ waiting_read (place_of f r.place) (bit r.wanted.by_words) r.wanted.limit (bit r.wanted.keep)
    entry-is = v.entry ∙ ap (entry_at ms.segment) v.first ∙ r.entry

    is-typed : eqb row.typed 1 ≡ typed
    is-typed = reader-typed M r m row (v.entry ∙ ap (entry_at ms.segment) v.first) v.place

    is-kept : eqb m.keep 1 ≡ r.wanted.keep
    is-kept = ap (λ (n : Entry). eqb n.keep 1) entry-is ∙ bit-one r.wanted.keep

    mid-fetched : Mid Fine f o ms z.file (fetching r.place typed r.wanted.keep b)
    mid-fetched = fetched-mid M _ _ z r.place (v.keeps r.place) v.gets typed r.wanted.keep is-typed is-kept

    -- the read finds nothing
    pub turn-nothing : z.got ≡ false → Served f o ms (record { moved = false; file = z.file }) (at_head serve_reader b.rq b)
    turn-nothing n =
        subst (Served f o ms (record { moved = false; file = z.file }))
        (sym (reads_none b r.place r.rest r.acc r.opens r.wanted r.first r.asks (fetched-none M _ _ z r.place (v.keeps r.place) v.gets typed r.wanted.keep is-typed is-kept n)))
        (still-served f o ms z.file B mid-fetched)

    -- the read finds a record, d, and the bytes that the code hands over are those of d
    module _ (some-got : z.got ≡ true) (own : List ℕ) (share : own ≡ share_at f ms.blocks) (bytes : List ℕ) (given : bytes ≡ handed (eqb row.typed 1) m.limit (rec_at own z.at)) where
      abbrev d : Rec
      d = rec_at (share_at f ms.blocks) z.at

      abbrev q : Req
      q = read_result r.wanted.by_words (handed typed r.wanted.limit d)

      ends : Ends 0 (reading r.wanted) q
      unfolding read_result
      ends = read_ends refl (length-handed typed r.wanted.limit d) (omega arith)

      open-behind : acc_at B r.place ≡ some r.acc
      open-behind = behind-at r.place (fetch g typed r.wanted.keep b.store) b ∙ r.opens

      bytes-are : bytes ≡ handed typed r.wanted.limit d
      bytes-are = given ∙ handed-same _ _ _ _ own _ z.at is-typed (ap (λ (n : Entry). n.limit) entry-is) share

      pub handed-short : length bytes ≤ buffer_bytes
      handed-short = omega (arith, ap length bytes-are, length-handed typed r.wanted.limit d, reader-short M r)

      pub served : (xs' buffers' : List ℕ) → xs' ≡ completed ms.segment (read_queue f) m.place (read_words m (length bytes)) → buffers' ≡ sets ms.buffers (buffer_bytes * m.place) (filled bytes)
          → Served f o (memories xs' ms.blocks buffers') (record { moved = true; file = z.file }) (at_head serve_reader b.rq b)
      served xs' buffers' ex ey =
          subst (Served f o (memories xs' ms.blocks buffers') (record { moved = true; file = z.file }))
          (sym (reads-some b r.place r.rest r.acc r.opens r.wanted r.first r.asks d (fetched-some M _ _ z r.place (v.keeps r.place) v.gets typed r.wanted.keep is-typed is-kept some-got)))
          (onward-served f o (memories xs' ms.blocks buffers') z.file (finish r.place 0 q B)
          (subst (λ (zs : List ℕ). Mid Fine f o (memories zs ms.blocks buffers') z.file (finish r.place 0 q B)) (sym (ex ∙ entry-words))
          (step-finish fine-knows mid-fetched r.place r.acc open-behind false 0 (reading r.wanted) q
          r.asks waits ends [] r.rest (unfold behind with_store say in r.first) (unfold occurrences.count in refl) buffers'
          (fine-walks.finishes r.place 0 q r.acc (reading r.wanted) B open-behind r.asks ends mid-fetched.good) laid)))
        where
          waits : waits_at false (reading r.wanted) ≡ 1
          waits = unfold waits_read in refl

          laid : buffers' ≡ sets ms.buffers (buffer_bytes * place_of f r.place) (filled (lies q))
          laid = unfold lies read_result in ey ∙ ap₂ {C = List ℕ} (λ (n : ℕ) (zs : List ℕ). sets ms.buffers (buffer_bytes * n) (filled zs)) (ap (λ (n : Entry). n.place) entry-is) bytes-are

          entry-words : completed ms.segment (read_queue f) m.place (read_words m (length bytes)) ≡ completed ms.segment (read_queue f) (place_of f r.place) (req_words (place_of f r.place) q)
          entry-words =
              ap (λ (n : Entry). completed ms.segment (read_queue f) n.place (read_words n (length bytes))) entry-is
              ∙ ap (completed ms.segment (read_queue f) (place_of f r.place)) (unfold read_words req_words read_result entry_words in rw (bytes-are, bit-one r.wanted.by_words) refl)

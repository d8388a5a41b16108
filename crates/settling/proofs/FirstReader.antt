-- The first waiting reader: what the segment says of it, what it finds, and what serving it gives.
use Prim.Native.Nat.{ℕ, ◌≤◌, ◌<◌}
use mathlib.Core.Path.{◌≡◌, refl, sym, ap, ◌∙◌, subst}
use mathlib.Core.Bool.{Bool, true, false}
use mathlib.Core.List.{List, [], ◌∷◌}
use mathlib.Core.Option.{Option, some}
use native.Mathlib.Omega.{arith}
use lib.Dec.{eqb}
use Rattle.occurrences.specs.Count.{bit}
use Rattle.rules.specs.Limits.{places, entries, buffer_bytes}
use Rattle.rules.specs.State.{Wanted, reading, Acc, Built}
use Rattle.rules.specs.Requests.{acc_at}
use Rattle.rules.specs.Allocation.{place_of}
use Rattle.laws.specs.Outstanding.{req_of}
use Rattle.laws.specs.Bounds.{Bounded}
use Rattle.laws.proofs.Bounds.{bounds-at}
use Rattle.laws.proofs.Happenings.{place-of-desk}
use Rattle.segment.specs.declared.Entry.{Entry}
use Rattle.segment.specs.declared.PlaceRow.{PlaceRow}
use Rattle.segment.specs.Layout.{read_queue, desk_places}
use Rattle.segment.specs.Table.{nth}
use Rattle.segment.specs.Fields.{entry_words, waiting_read, entry_of, entry_at, place_at, place_row_of}
use Rattle.memory.specs.Memories.{Memories}
use Rattle.memory.specs.Image.{req_words, place_words}
use Rattle.memory.specs.Fine.{Fine}
use Rattle.midst.specs.declared.File as hand
use Rattle.midst.specs.Mid.{Start, Mid}
use Rattle.midst.proofs.Begins.{mid-place}
use Rattle.midst.proofs.Heads.{reads_at, head-none, head-some}
use Rattle.midst.proofs.Changes.{mid-below}

-- whether a word is 1, of a bit
pub bit-one : (w : Bool) → eqb (bit w) 1 ≡ w
bit-one true = refl
bit-one false = refl

-- the reader at the head of the queue
pub record Reader (xs : List ℕ) (f : ℕ) (b : Built) : Type 0 where
  pub place : ℕ
  pub rest : List ℕ
  pub acc : Acc
  pub wanted : Wanted
  pub first : b.rq ≡ place ∷ rest
  pub opens : acc_at b place ≡ some acc
  pub asks : acc.req ≡ reading wanted
  pub entry : entry_at xs (nth xs (read_queue f)) ≡ waiting_read (place_of f place) (bit wanted.by_words) wanted.limit (bit wanted.keep)

module _ {f : ℕ} {o : Start} {ms : Memories} {x : hand.File} {b : Built} (M : Mid Fine f o ms x b) where
  reader_at : (p : ℕ) (rest : List ℕ) → b.rq ≡ p ∷ rest → Reader ms.segment f b
  unfolding entry_of req_words req_of entry_words
  reader_at p rest q =
      let (a, w, e, r) = reads_at b p rest M.good.queues q in
      record {
        place = p;
        rest = rest;
        acc = a;
        wanted = w;
        first = q;
        opens = e;
        asks = r;
        entry = unfold entry_at in ap entry_of ((head-some M false p rest q).1 ∙ ap (req_words (place_of f p)) (ap req_of e ∙ r));
      }

  -- there is one exactly where the head is an entry's number
  pub reader-or : (P : List ℕ → Type 0) → (entries ≤ nth ms.segment (read_queue f) → b.rq ≡ [] → P []) → ((r : Reader ms.segment f b) → nth ms.segment (read_queue f) < entries → P b.rq) → P b.rq
  reader-or P n s = go b.rq refl
    where
      go : (l : List ℕ) → b.rq ≡ l → P l
      go [] e = n (head-none M false e) e
      go (p ∷ rest) e = subst P e (s (reader_at p rest e) (head-some M false p rest e).0)

  pub reader-of : nth ms.segment (read_queue f) < entries → Reader ms.segment f b
  reader-of h = reader-or (λ _. Reader ms.segment f b) (λ n _. absurd (omega arith)) (λ r _. r)

  module _ (r : Reader ms.segment f b) where
    pub reader-below : r.place < places
    reader-below = mid-below M r.place r.acc r.opens

    pub reader-place : place_of f r.place < desk_places
    reader-place = place-of-desk f r.place M.file reader-below

    -- control 46, as its row has it
    pub reader-typed : (m : Entry) (row : PlaceRow) → m ≡ entry_at ms.segment (nth ms.segment (read_queue f)) → row ≡ place_at ms.segment m.place → eqb row.typed 1 ≡ r.acc.typed
    unfolding place_row_of place_words
    reader-typed m row e u =
        ap (λ (y : PlaceRow). eqb y.typed 1)
        (u ∙ ap (place_at ms.segment) (ap (λ (n : Entry). n.place) (e ∙ r.entry)) ∙ mid-place M r.place reader-below ∙ ap (λ (z : Option Acc). place_row_of (place_words z)) r.opens)
        ∙ bit-one r.acc.typed

    pub reader-short : r.wanted.limit ≤ buffer_bytes
    unfolding Bounded
    reader-short = bounds-at r.place r.acc _ b r.opens r.asks M.good.bounds

    pub reader-under : (e : ℕ) (m : Entry) → e ≡ nth ms.segment (read_queue f) → m ≡ entry_at ms.segment e → m.place < desk_places
    reader-under e m at em = subst (λ (n : Entry). n.place < desk_places) (sym (em ∙ ap (entry_at ms.segment) at ∙ r.entry)) reader-place

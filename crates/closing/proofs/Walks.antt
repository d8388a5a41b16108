-- The walk along the read queue: who stands at its slot.
use Prim.Native.Nat.{ℕ, ◌+◌, ◌≤◌, ◌<◌}
use mathlib.Core.Path.{◌≡◌, refl, sym, ap, ◌∙◌, subst}
use mathlib.Core.Bool.{false}
use mathlib.Core.List.{List, [], ◌∷◌, ◌++◌, append-nil}
use mathlib.Core.Option.{some}
use native.Mathlib.Omega.{arith}
use lib.ListN.{length, get_or, length-map, length-append}
use lib.Seq.{get_or-append_seam}
use Rattle.occurrences.specs.Count.{count}
use Rattle.occurrences.proofs.Counts.{bit-eq, count-append}
use Rattle.rules.specs.Limits.{entries}
use Rattle.rules.specs.State.{Wanted, reading, Acc, Built, built}
use Rattle.rules.specs.Requests.{acc_at}
use Rattle.rules.specs.Close.{end_readers}
use Rattle.rules.specs.Desk.{Desk, with_file}
use Rattle.rules.specs.Allocation.{Alloc, place_of, held_at, own_entry, allot_all}
use Rattle.segment.specs.Layout.{list_count, segment_bytes, read_queue, file_rows}
use Rattle.segment.specs.Table.{nth, data_of}
use Rattle.segment.specs.Fields.{entry_words, entry_of, entry_at}
use Rattle.buffers.specs.Buffer.{buffers_bytes}
use Rattle.ports.specs.Lists.{Chain}
use Rattle.ports.proofs.Chains.{slot_at, slot-word, slot-end}
use Rattle.ports.proofs.Lists.{short, slot-in}
use Rattle.ports.proofs.Boxes.{data-box}
use Rattle.ports.proofs.Maps.{map-append, map_at}
use Rattle.laws.specs.Outstanding.{req_at, waits_read, req_of}
use Rattle.laws.proofs.Outstanding.{outstanding-most}
use Rattle.memory.specs.Memories.{Memories}
use Rattle.memory.specs.Image.{req_words, lists_of, boxes_of}
use Rattle.memory.proofs.Boxes.{get_or-lists_of, get_or-boxes_of}
use Rattle.midst.specs.declared.File as hand
use Rattle.midst.specs.Mid.{Start, Mid}
use Rattle.midst.proofs.Begins.{mid-file, mid-lengths}
use Rattle.midst.proofs.Heads.{reads_in}
use Rattle.midst.proofs.Lists.{below-side, list-side, box-side, entries_in, words_in}
use Rattle.midst.proofs.Walks.{Owed}
use Rattle.closing.specs.Walk.{Walk}

-- what the slot after the entries ys of a chain holds
slot-none : (xs : List ℕ) (p : ℕ) (ys zs : List ℕ) → Chain xs p (ys ++ zs) → zs ≡ [] → entries ≤ nth xs (slot_at p ys)
slot-none xs p ys zs c e = slot-end xs p ys (subst (Chain xs p) (ap (λ (l : List ℕ). ys ++ l) e ∙ append-nil ys) c)

slot-one : (xs : List ℕ) (p : ℕ) (ys zs : List ℕ) (e : ℕ) (r : List ℕ) → Chain xs p (ys ++ zs) → zs ≡ e ∷ r → (nth xs (slot_at p ys) ≡ e) × (e < entries)
slot-one xs p ys zs e r c q = slot-word xs p ys e r (subst (λ (l : List ℕ). Chain xs p (ys ++ l)) q c)

-- who stands at the slot
pub record Next (f : ℕ) (o : Start) (xs : List ℕ) (b : Built) (rest : List ℕ) (e : ℕ) : Type 0 where
  pub place : ℕ
  pub others : List ℕ
  pub acc : Acc
  pub wanted : Wanted
  pub first : rest ≡ place ∷ others
  pub opens : acc_at b place ≡ some acc
  pub asks : acc.req ≡ reading wanted
  pub own : e ≡ own_entry (held_at (allot_all f b.past o.alloc) (place_of f place))
  pub entry : (entry_at xs e).place ≡ place_of f place

module _ {n f : ℕ} {o : Start} {ms : Memories} {x : hand.File} {from : Built} {slot left : ℕ} (W : Walk (Owed n) f o ms x from slot left) where
  abbrev b : Built
  b = W.file

  abbrev t : Alloc
  t = allot_all f b.past o.alloc

  abbrev d : Desk
  d = with_file o.desk f (built b)

  low : read_queue f < list_count
  low = below-side false f W.mid.file

  listed : get_or (lists_of d t) (read_queue f) [] ≡ entries_in f t (W.kept ++ W.rest)
  listed = get_or-lists_of d t (read_queue f) low ∙ list-side d t f W.mid.file b (mid-file W.mid) false ∙ ap (entries_in f t) W.queue

  boxed : get_or (boxes_of d t) (read_queue f) [] ≡ words_in f b (W.kept ++ W.rest)
  boxed = get_or-boxes_of d t (read_queue f) low ∙ box-side d t f W.mid.file b (mid-file W.mid) false ∙ ap (words_in f b) W.queue

  split : get_or (lists_of d t) (read_queue f) [] ≡ entries_in f t W.kept ++ entries_in f t W.rest
  split = listed ∙ map-append (λ y. own_entry (held_at t (place_of f y))) W.kept W.rest

  pub walk-slot : slot < file_rows
  walk-slot = rw W.at (slot-in W.mid.segment.boxes.lists (read_queue f) (entries_in f t W.kept) (entries_in f t W.rest) low split).0

  pub walk-size : (length ms.segment ≡ segment_bytes) × (length ms.buffers ≡ buffers_bytes)
  walk-size = (mid-lengths W.mid, W.mid.buffers-size)

  chain : Chain ms.segment (read_queue f) (entries_in f t W.kept ++ entries_in f t W.rest)
  chain = rw split at (W.mid.segment.boxes.lists.chains (read_queue f) low)

  -- nobody
  none_left : W.rest ≡ [] → (entries ≤ nth ms.segment slot) × Mid (Owed n) f o ms x (end_readers from.rq from)
  unfolding end_readers
  none_left e = (
    omega (arith, slot-none ms.segment (read_queue f) (entries_in f t W.kept) (entries_in f t W.rest) chain (ap (entries_in f t) e), ap (nth ms.segment) W.at),
    subst (λ (c : Built). Mid (Owed n) f o ms x c) (ap (λ (l : List ℕ). end_readers l b) (sym e) ∙ W.same) W.mid,
  )

  -- somebody
  one_left : (p : ℕ) (l : List ℕ) → W.rest ≡ p ∷ l → (nth ms.segment slot ≡ own_entry (held_at t (place_of f p))) × (own_entry (held_at t (place_of f p)) < entries)
  one_left p l e =
      let s = slot-one ms.segment (read_queue f) (entries_in f t W.kept) (entries_in f t W.rest) (own_entry (held_at t (place_of f p))) (entries_in f t l) chain (ap (entries_in f t) e) in
      (ap (nth ms.segment) W.at ∙ s.0, s.1)

  pub walk-stop : (e : ℕ) → e ≡ nth ms.segment slot → entries ≤ e → Mid (Owed n) f o ms x (end_readers from.rq from)
  walk-stop e h k = go W.rest refl
    where
      go : (l : List ℕ) → W.rest ≡ l → Mid (Owed n) f o ms x (end_readers from.rq from)
      go [] q = (none_left q).1
      go (p ∷ l) q = absurd (omega (arith, (one_left p l q).0, (one_left p l q).1, h))

  pub walk-done : left ≤ 0 → Mid (Owed n) f o ms x (end_readers from.rq from)
  walk-done h = go W.rest refl
    where
      go : (l : List ℕ) → W.rest ≡ l → Mid (Owed n) f o ms x (end_readers from.rq from)
      go [] q = (none_left q).1
      go (p ∷ l) q = absurd (omega (arith, W.few, ap length q))

  -- a reader stands in the queue once, and its read waits
  module _ (p : ℕ) (l : List ℕ) (e : W.rest ≡ p ∷ l) where
    counted : count p W.kept + (1 + count p l) ≡ waits_read (req_at b.accs p)
    unfolding count
    counted =
        ap (λ (m : ℕ). count p W.kept + (m + count p l)) (sym (bit-eq p p refl)) ∙ sym (count-append p W.kept (p ∷ l))
        ∙ ap (λ (q : List ℕ). count p (W.kept ++ q)) (sym e) ∙ ap (count p) (sym W.queue) ∙ (W.mid.good.1.0 p).reads

    pub once : (count p W.kept ≡ 0) × (count p l ≡ 0)
    once = (omega (arith, counted, outstanding-most (req_at b.accs p)), omega (arith, counted, outstanding-most (req_at b.accs p)))

    within : length W.kept < length (W.kept ++ p ∷ l)
    within = omega (arith, length-append W.kept (p ∷ l))

    entry-data : data_of ms.segment (own_entry (held_at t (place_of f p))) ≡ req_words (place_of f p) (req_of (acc_at b p))
    entry-data =
        let i : ℕ = length W.kept in
        let q : List ℕ = W.kept ++ p ∷ l in
        let j : get_or (lists_of d t) (read_queue f) [] ≡ entries_in f t q = listed ∙ ap (λ (r : List ℕ). entries_in f t (W.kept ++ r)) e in
        let k : get_or (boxes_of d t) (read_queue f) [] ≡ words_in f b q = boxed ∙ ap (λ (r : List ℕ). words_in f b (W.kept ++ r)) e in
        let s : get_or q i 0 ≡ p = get_or-append_seam W.kept p l 0 in
        let a : get_or (get_or (lists_of d t) (read_queue f) []) i 0 ≡ own_entry (held_at t (place_of f p)) =
        ap (λ (r : List ℕ). get_or r i 0) j ∙ map_at (λ y. own_entry (held_at t (place_of f y))) q i 0 0 within ∙ ap (λ (y : ℕ). own_entry (held_at t (place_of f y))) s
        in
        let m : i < length (get_or (lists_of d t) (read_queue f) []) = rw (j, length-map) within in
        ap (data_of ms.segment) (sym a) ∙ data-box W.mid.segment.boxes (read_queue f) low i m ∙ ap (λ (r : List (List ℕ)). get_or r i []) k
        ∙ map_at (λ y. req_words (place_of f y) (req_of (acc_at b y))) q i 0 [] within ∙ ap (λ (y : ℕ). req_words (place_of f y) (req_of (acc_at b y))) s

  pub walk-next : (e : ℕ) → e ≡ nth ms.segment slot → e < entries → Next f o ms.segment b W.rest e
  unfolding entry_at entry_of req_of req_words entry_words
  walk-next e h k = go W.rest refl
    where
      go : (l : List ℕ) → W.rest ≡ l → Next f o ms.segment b W.rest e
      go [] q = absurd (omega (arith, (none_left q).0, h))
      go (p ∷ l) q =
          let (a, w, v, r) = reads_in b p (omega (arith, counted p l q)) in
          record {
            place = p;
            others = l;
            acc = a;
            wanted = w;
            first = q;
            opens = v;
            asks = r;
            own = h ∙ (one_left p l q).0;
            entry = ap (λ (z : ℕ). get_or (data_of ms.segment z) 0 0) (h ∙ (one_left p l q).0)
                ∙ ap (λ (z : List ℕ). get_or z 0 0) (entry-data p l q ∙ ap (req_words (place_of f p)) (ap req_of v ∙ r));
          }

-- the walk begins
pub walk-begin : {n f : ℕ} {o : Start} {m : Memories} {x : hand.File} {b : Built} → Mid (Owed n) f o m x b
    → Walk (Owed n) f o m x b (read_queue f) entries
walk-begin {f = f} {o = o} {b = b} M = record {
  file = b;
  kept = [];
  rest = b.rq;
  mid = M;
  queue = refl;
  at = refl;
  few = omega (arith, short M.segment.boxes.lists (read_queue f) (below-side false f M.file), ap length listed, length-map b.rq (λ y. own_entry (held_at t (place_of f y))));
  same = refl;
}
  where
    t : Alloc
    t = allot_all f b.past o.alloc

    listed : get_or (lists_of (with_file o.desk f (built b)) t) (read_queue f) [] ≡ entries_in f t b.rq
    listed = get_or-lists_of _ t (read_queue f) (below-side false f M.file) ∙ list-side _ t f M.file b (mid-file M) false

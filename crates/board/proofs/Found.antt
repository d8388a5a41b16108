-- What the lists of a segment that stands for a desk show of a request is what the rules have of it.
use Prim.Native.Nat.{ℕ, ◌+◌, ◌*◌, ◌≤◌, ◌<◌}
use mathlib.Core.Path.{◌≡◌, refl, sym, ap, ◌∙◌}
use mathlib.Core.Logic.{inl, inr}
use mathlib.Core.Bool.{Bool, true, false, cond, ◌&&◌, false≢true}
use mathlib.Core.List.{List, [], ◌∷◌, map}
use mathlib.Core.Option.{Option, some}
use native.Mathlib.Omega.{arith}
use native.Mathlib.Decide.{ℕ_discrete}
use borrow.Author.Tests.{lt-ltb, le-ltb, eq-eqb, ne_eqb}
use lib.Dec.{ltb, eqb}
use lib.ListN.{length, get_or, take, length-map}
use Rattle.occurrences.specs.Count.{bit, count}
use Rattle.occurrences.proofs.Counts.{count_head}
use Rattle.rules.specs.Limits.{files, places, entries}
use Rattle.rules.specs.State.{Wanted, Offered, Req, idle, reading, writing, read_done, write_done, Acc, Timer, Built, File, built}
use Rattle.rules.specs.Requests.{acc_at}
use Rattle.rules.specs.Desk.{Desk, file_of}
use Rattle.rules.specs.Allocation.{Alloc, place_of}
use Rattle.laws.specs.Outstanding.{waits_read, waits_write, awaits, req_of}
use Rattle.laws.specs.Queues.{Agree}
use Rattle.laws.specs.Sides.{Fitting}
use Rattle.laws.specs.Entries.{timers_of}
use Rattle.segment.specs.declared.Entry.{Entry}
use Rattle.segment.specs.Layout.{list_count, read_queue, write_queue, reply_port, timer_list}
use Rattle.segment.specs.Table.{nth, data_of}
use Rattle.segment.specs.Fields.{entry_words, entry_of, entry_at}
use Rattle.ports.specs.Slots.{seek, has}
use Rattle.ports.specs.Lists.{Boxes}
use Rattle.ports.specs.Index.{index}
use Rattle.ports.proofs.Chains.{slot_at}
use Rattle.ports.proofs.Boxes.{length-box, data-box, slot-box, end-box, seek-box}
use Rattle.ports.proofs.Index.{index-map}
use Rattle.ports.proofs.Maps.{map_at}
use Rattle.memory.specs.Memories.{Memories}
use Rattle.memory.specs.Image.{acc_of, req_words, timer_words, queue_words, port_words, rq_of, wq_of, lists_of, boxes_of, rows_of}
use Rattle.memory.specs.Fine.{StandsFor}
use Rattle.memory.proofs.Image.{place_acc-at, box_of-read, box_of-write, box_of-port, box_of-timers}
use Rattle.memory.proofs.Boxes.{get_or-boxes_of, segment-boxes}
use Rattle.memory.proofs.Once.{agreed-once}
use Rattle.midst.proofs.Begins.{fine-agree}
use Rattle.midst.proofs.Terms.{words-place}
use Rattle.midst.proofs.Cuts.{index-alike, place-in, place_at}
use Rattle.kinds.specs.declared.Outstanding.TheVariants.{Nothing, Waiting, Completed}
use Rattle.accessors.specs.Sides.{side_of}
use Rattle.accessors.specs.Outstanding.{queue_of, outstanding_at, outstanding_of}
use Rattle.accessors.proofs.Waits.{fine-at, outstanding-is}
use Rattle.std.specs.Prelude.{Some}
use Rattle.board.specs.Requests.{left_of, is_first, request_of}
use Rattle.board.specs.Found.{found_at, left_in, left_at, first_in, first_at, waiting_in, completed_in, request_at}
use Rattle.board.proofs.Timers.{Timed, timed, left-sieve}

same_place : (f x p : ℕ) → eqb (places * f + x) (places * f + p) ≡ eqb x p
same_place f x p = go (ℕ_discrete x p)
  where
    go : Dec (x ≡ p) → eqb (places * f + x) (places * f + p) ≡ eqb x p
    go (yes e) = eq-eqb (places * f + x) (places * f + p) (omega arith) ∙ sym (eq-eqb x p e)
    go (no e) = ne_eqb (places * f + x) (places * f + p) (λ z. e (omega arith)) ∙ sym (ne_eqb x p e)

-- the two tests of what is outstanding, by their results

is-nothing : (t u : Bool) → cond t Completed (cond u Waiting Nothing) ≡ Nothing → (t ≡ false) × (u ≡ false)
is-nothing true u e = absurd (false≢true cc)
is-nothing false true e = absurd (false≢true cc)
is-nothing false false e = (refl, refl)

is-waiting : (t u : Bool) → cond t Completed (cond u Waiting Nothing) ≡ Waiting → (t ≡ false) × (u ≡ true)
is-waiting true u e = absurd (false≢true cc)
is-waiting false true e = (refl, refl)
is-waiting false false e = absurd (false≢true cc)

is-completed : (t u : Bool) → cond t Completed (cond u Waiting Nothing) ≡ Completed → t ≡ true
is-completed true u e = refl
is-completed false true e = absurd (false≢true cc)
is-completed false false e = absurd (false≢true cc)

module _ {ms : Memories} {d : Desk} {s : Alloc} (S : StandsFor ms d s) where
  boxed : Boxes ms.segment [] [] (lists_of d s) (boxes_of d s) (rows_of d)
  boxed = segment-boxes d s ms.segment (agreed-once d s S.agreed (λ g l. fine-agree (file_of d g) (S.fine g l))) S.stands.segment

  -- list l, whose entries hold ws
  module _ (l : ℕ) (h : l < list_count) (ws : List (List ℕ)) (e : get_or (boxes_of d s) l [] ≡ ws) where
    long : length ws ≡ length (get_or (lists_of d s) l [])
    long = ap length (sym e) ∙ length-box boxed l h

    -- the entry of place i
    module _ (i : ℕ) where
      slot : seek (has 0 i) ms.segment l entries ≡ slot_at l (take (index (has 0 i) ws) (get_or (lists_of d s) l []))
      slot = rw e at (seek-box boxed l h (has 0 i))

      found_in : index (has 0 i) ws < length ws → (found_at ms.segment l i < entries) × (data_of ms.segment (found_at ms.segment l i) ≡ get_or ws (index (has 0 i) ws) [])
      found_in k =
          let n : index (has 0 i) ws < length (get_or (lists_of d s) l []) = omega (arith, long) in
          let b = slot-box boxed l h (index (has 0 i) ws) n in
          let z : found_at ms.segment l i ≡ get_or (get_or (lists_of d s) l []) (index (has 0 i) ws) 0 = ap (nth ms.segment) slot ∙ b.0 in
          (rw z b.1, ap (data_of ms.segment) z ∙ data-box boxed l h (index (has 0 i) ws) n ∙ ap (λ (m : List (List ℕ)). get_or m (index (has 0 i) ws) []) e)

      found_none : index (has 0 i) ws ≡ length ws → entries ≤ found_at ms.segment l i
      found_none k = rw slot (end-box boxed l h (index (has 0 i) ws) (k ∙ long)).0

    -- the first entry of the list
    head_in : 0 < length ws → (nth ms.segment l < entries) × (data_of ms.segment (nth ms.segment l) ≡ get_or ws 0 [])
    head_in k =
        let n : 0 < length (get_or (lists_of d s) l []) = omega (arith, long) in
        let b = slot-box boxed l h 0 n in
        (rw b.0 b.1, ap (data_of ms.segment) b.0 ∙ data-box boxed l h 0 n ∙ ap (λ (m : List (List ℕ)). get_or m 0 []) e)

    head-none : 0 ≡ length ws → entries ≤ nth ms.segment l
    head-none k = (end-box boxed l h 0 (k ∙ long)).0

  -- what is left of a timeout
  left-clock : (i : ℕ) → left_at ms.segment i ≡ left_of i s.clock
  unfolding left_in entry_at entry_of timer_words entry_words
  left-clock i = go (timed i u s.clock)
    where
      u : Timer
      u = record { place = 0; left = 0 }

      ws : List (List ℕ)
      ws = map timer_words s.clock

      e : get_or (boxes_of d s) timer_list [] ≡ map timer_words s.clock
      e = get_or-boxes_of d s timer_list (omega arith) ∙ box_of-timers d s

      n : index (has 0 i) (map timer_words s.clock) ≡ index (λ t. eqb t.place i) s.clock
      n = index-map (has 0 i) timer_words s.clock

      k : length (map timer_words s.clock) ≡ length s.clock
      k = length-map s.clock timer_words

      go : Timed i u s.clock → left_in ms.segment (found_at ms.segment timer_list i) ≡ left_of i s.clock
      go (inl (h, r)) =
          let z = found_in timer_list (omega arith) (map timer_words s.clock) e i (omega (arith, h, n, k)) in
          let m : data_of ms.segment (found_at ms.segment timer_list i) ≡ timer_words (get_or s.clock (index (λ t. eqb t.place i) s.clock) u) =
          z.1 ∙ ap (λ (j : ℕ). get_or (map timer_words s.clock) j []) n ∙ map_at timer_words s.clock (index (λ t. eqb t.place i) s.clock) u [] h in
          rw (lt-ltb (found_at ms.segment timer_list i) entries z.0) (ap (λ (w : List ℕ). Some (get_or w 7 0)) m ∙ sym r)
      go (inr (h, r)) =
          rw (le-ltb (found_at ms.segment timer_list i) entries (found_none timer_list (omega arith) (map timer_words s.clock) e i (omega (arith, h, n, k)))) (sym r)

  -- a built file
  module _ (f : ℕ) (hf : f < files) (b : Built) (is : file_of d f ≡ built b) where
    left_is : (p : ℕ) → p < places → left_at ms.segment (places * f + p) ≡ left_of p b.timers
    unfolding timers_of
    left_is p h = left-clock (places * f + p) ∙ sym (left-sieve f p h s.clock) ∙ ap (left_of p) ((S.agreed.agrees f hf).clock ∙ ap timers_of is)

    abbrev F : ℕ → List ℕ
    F x = req_words (places * f + x) (req_of (acc_at b x))

    -- a queue: list l, whose entries are of the places q, which wait
    module _ (l : ℕ) (h : l < list_count) (q : List ℕ) (e : get_or (boxes_of d s) l [] ≡ map F q) (w : (x : ℕ) → 1 ≤ count x q → 1 ≤ awaits (req_of (acc_at b x))) where
      index_is : (p : ℕ) → index (has 0 (places * f + p)) (map F q) ≡ index (λ x. eqb x p) q
      index_is p =
          index-map (has 0 (places * f + p)) F q
          ∙ index-alike (λ x. eqb (get_or (F x) 0 0) (places * f + p)) (λ x. eqb x p) q (λ x k. rw (words-place (places * f + x) (req_of (acc_at b x)) (w x k)) (same_place f x p))

      queue-entry : (p : ℕ) → count p q ≡ 1 → entry_at ms.segment (found_at ms.segment l (places * f + p)) ≡ entry_of (F p)
      unfolding entry_at
      queue-entry p c =
          let k = place-in p q c in
          let z = found_in l h (map F q) e (places * f + p) (omega (arith, k, index_is p, length-map q F)) in
          ap entry_of (z.1 ∙ ap (λ (j : ℕ). get_or (map F q) j []) (index_is p) ∙ map_at F q (index (λ x. eqb x p) q) 0 [] k ∙ ap F (place_at p q c))

      first-is : (p : ℕ) → first_at ms.segment l (places * f + p) ≡ is_first p q
      unfolding first_in is_first entry_at entry_of
      first-is p = go q e w
        where
          go : (r : List ℕ) → get_or (boxes_of d s) l [] ≡ map F r → ((x : ℕ) → 1 ≤ count x r → 1 ≤ awaits (req_of (acc_at b x)))
              → (ltb (nth ms.segment l) entries && eqb (get_or (data_of ms.segment (nth ms.segment l)) 0 0) (places * f + p)) ≡ is_first p r
          go [] k v = rw (le-ltb (nth ms.segment l) entries (head-none l h [] k refl))
          go (x ∷ r) k v =
              let z = head_in l h (F x ∷ map F r) k (omega arith) in
              rw (lt-ltb (nth ms.segment l) entries z.0)
              (ap (λ (m : List ℕ). eqb (get_or m 0 0) (places * f + p)) z.1
              ∙ ap (λ (n : ℕ). eqb n (places * f + p)) (words-place (places * f + x) (req_of (acc_at b x)) (v x (count_head x r)))
              ∙ same_place f x p)

    agree : Agree b
    agree = (fine-at S f hf b is).queues

    reads-box : get_or (boxes_of d s) (read_queue f) [] ≡ map F b.rq
    unfolding queue_words acc_of rq_of place_of
    reads-box = get_or-boxes_of d s (read_queue f) (omega arith) ∙ box_of-read d s f hf ∙ ap (λ (x : File). queue_words f x (rq_of x)) is

    writes-box : get_or (boxes_of d s) (write_queue f) [] ≡ map F b.wq
    unfolding queue_words acc_of wq_of place_of
    writes-box = get_or-boxes_of d s (write_queue f) (omega arith) ∙ box_of-write d s f hf ∙ ap (λ (x : File). queue_words f x (wq_of x)) is

    reads-wait : (x : ℕ) → 1 ≤ count x b.rq → 1 ≤ awaits (req_of (acc_at b x))
    unfolding acc_at
    reads-wait x k = omega (arith, (agree x).reads)

    writes-wait : (x : ℕ) → 1 ≤ count x b.wq → 1 ≤ awaits (req_of (acc_at b x))
    unfolding acc_at
    writes-wait x k = omega (arith, (agree x).writes)

    -- an open place
    module _ (p : ℕ) (h : p < places) (a : Acc) (at : acc_at b p ≡ some a) where
      req_at : req_of (acc_at b p) ≡ a.req
      unfolding req_of
      req_at = ap req_of at

      port-entry : (q : Req) (m : List ℕ) → a.req ≡ q → port_words (places * f + p) q ≡ m ∷ [] → entry_at ms.segment (nth ms.segment (reply_port (places * f + p))) ≡ entry_of m
      unfolding acc_of req_of entry_at
      port-entry q m e k =
          let z : get_or (boxes_of d s) (reply_port (places * f + p)) [] ≡ m ∷ [] =
          get_or-boxes_of d s (reply_port (places * f + p)) (omega arith) ∙ box_of-port d s (places * f + p) (omega arith)
          ∙ ap (λ (o : Option Acc). port_words (places * f + p) (req_of o)) (place_acc-at d f p h ∙ ap (λ (y : File). acc_of y p) is ∙ at)
          ∙ ap (port_words (places * f + p)) e ∙ k in
          ap entry_of (head_in (reply_port (places * f + p)) (omega arith) (m ∷ []) z (omega arith)).1

      read-limit : (x : Wanted) → a.req ≡ reading x → (entry_at ms.segment (found_at ms.segment (read_queue f) (places * f + p))).limit ≡ x.limit
      unfolding entry_of req_words waits_read acc_at entry_words
      read-limit x e =
          let c : count p b.rq ≡ 1 = (agree p).reads ∙ ap waits_read (req_at ∙ e) in
          ap (λ (m : Entry). m.limit)
          (queue-entry (read_queue f) (omega arith) b.rq reads-box reads-wait p c ∙ ap (λ (r : Req). entry_of (req_words (places * f + p) r)) (req_at ∙ e))

      write-size : (x : Offered) → a.req ≡ writing x → (entry_at ms.segment (found_at ms.segment (write_queue f) (places * f + p))).size ≡ length x.bytes
      unfolding entry_of req_words waits_write acc_at entry_words
      write-size x e =
          let c : count p b.wq ≡ 1 = (agree p).writes ∙ ap waits_write (req_at ∙ e) in
          ap (λ (m : Entry). m.size)
          (queue-entry (write_queue f) (omega arith) b.wq writes-box writes-wait p c ∙ ap (λ (r : Req). entry_of (req_words (places * f + p) r)) (req_at ∙ e))

      -- the tests of its reply port and of the queue of a side
      abbrev full : Bool
      full = ltb (nth ms.segment (reply_port (places * f + p))) entries

      abbrev queued : ℕ → Bool
      queued side = ltb (found_at ms.segment (queue_of f side) (places * f + p)) entries

      abbrev Shown : Bool → Req → Type 0
      Shown w q = Fitting w q → outstanding_at ms.segment f p (1 + bit w) ≡ outstanding_of q → request_at ms.segment f p (1 + bit w) ≡ request_of b p q

      shown-as : (w : Bool) (q : Req) → a.req ≡ q → Shown w q
      unfolding request_at waiting_in completed_in request_of outstanding_at outstanding_of Fitting entry_of req_words port_words entry_words
      shown-as w idle e g o = let z = is-nothing full (queued (1 + bit w)) o in rw (z.0, z.1)
      shown-as false (reading x) e g o =
          let z = is-waiting full (queued 1) o in
          rw (z.0, z.1, read-limit x e, left_is p h, first-is (read_queue f) (omega arith) b.rq reads-box reads-wait p)
      shown-as true (reading x) e g o = absurd (false≢true (sym g))
      shown-as false (writing x) e g o = absurd (false≢true g)
      shown-as true (writing x) e g o =
          let z = is-waiting full (queued 2) o in
          rw (z.0, z.1, write-size x e, left_is p h, first-is (write_queue f) (omega arith) b.wq writes-box writes-wait p)
      shown-as false (read_done x) e g o = rw (is-completed full (queued 1) o, port-entry (read_done x) (req_words (places * f + p) (read_done x)) e refl)
      shown-as true (read_done x) e g o = absurd (false≢true (sym g))
      shown-as false (write_done x) e g o = absurd (false≢true g)
      shown-as true (write_done x) e g o = rw (is-completed full (queued 2) o, port-entry (write_done x) (req_words (places * f + p) (write_done x)) e refl)

      pub request-is : request_at ms.segment f p (side_of (some a)) ≡ request_of b p a.req
      unfolding side_of
      request-is = shown-as a.writer a.req refl ((fine-at S f hf b is).sides p a at).request (outstanding-is S f hf b is p a h at)

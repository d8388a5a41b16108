-- What it does to the segment when a waiting request completes, or is cancelled: its entry leaves the queue, its timer's is freed, and it goes to the
-- reply port, or is freed too.
use Prim.Native.Nat.{ℕ, ◌≤◌, ◌<◌}
use mathlib.Core.Path.{◌≡◌, refl, sym, ap, ap₂, ◌∙◌}
use mathlib.Core.Bool.{Bool, true, false, not}
use mathlib.Core.List.{List, [], ◌∷◌, ◌++◌, map}
use native.Mathlib.Omega.{arith}
use lib.Dec.{eqb}
use lib.ListN.{length, get_or, take, replicate, length-map}
use Rattle.occurrences.specs.Count.{count}
use Rattle.rules.specs.Limits.{entries}
use Rattle.rules.specs.State.{Req, idle, Acc, Built, built}
use Rattle.rules.specs.Requests.{acc_at, alter, with_req, without}
use Rattle.rules.specs.Desk.{Desk, with_file}
use Rattle.rules.specs.Allocation.{own, Alloc, place_of, held_at, ends_at, goes_at, own_entry, port_of, timer_list}
use Rattle.laws.specs.Outstanding.{uncollected, req_of}
use Rattle.segment.specs.Layout.{list_count, free_list, reply_port, data_words, file_row, read_queues, reply_ports}
use Rattle.segment.specs.Layout as layout
use Rattle.ports.specs.Slots.{has}
use Rattle.ports.specs.Index.{cut, index}
use Rattle.ports.proofs.Index.{index-map}
use Rattle.ports.proofs.Chains.{slot_at}
use Rattle.ports.proofs.Boxes.{seek-box}
use Rattle.ports.proofs.Maps.{map_at}
use Rattle.requests.specs.Moves.{slot_of, entry_of, out, disarmed, completed, cancelled}
use Rattle.memory.specs.Image.{req_words, timer_words, file_words, list_of, port_words, box_of}
use Rattle.memory.proofs.Image.{list_of-free, list_of-timers, box_of-free, box_of-timers}
use Rattle.memory.proofs.Boxes.{get_or-lists_of, get_or-boxes_of}
use Rattle.midst.specs.Seg.{Seg, queue_at, side_queue}
use Rattle.midst.proofs.Lists.{entries_in, words_in, list-side, box-side, port-none}
use Rattle.midst.proofs.Cuts.{index-alike, count-made, place-in, place_at, place-before}
use Rattle.midst.proofs.Boxed.{Boxed, over, over-same, over-other, out-boxed, released-boxed, posted-boxed}
use Rattle.midst.proofs.Goes.{blank, disarm-boxed}
use Rattle.midst.proofs.Shifts.{two-sides, sides_apart, queue-range, queue-files, Shift, once-apart, seg_shift}
use Rattle.midst.proofs.Placed.{Placed, hi, count-side, count-here, stands, port-was, acc-other, req-now, row_now, queue-less, queue-still}
use Rattle.midst.proofs.Terms.{waits_at, waits-awaits, awaits-done, waits-other, words-place, length-words, port-one, same_place, ends-other, ends-own, goes-free, goes-clock, goes_other, goes-timers}

-- the lists when an entry has left list l, which is x now, with the free list and the timers anew
module _ {A : Type 0} (g : ℕ → List A) (l : ℕ) (x free timers : List A) (low : read_queues ≤ l) (high : l < reply_ports) where
  abbrev lefts : ℕ → List A
  lefts = over free_list free (over layout.timer_list timers (over l x g))

  left-free : lefts free_list ≡ free
  left-free = over-same free_list free _

  left-timers : lefts layout.timer_list ≡ timers
  left-timers = over-other free_list free _ layout.timer_list (λ e. omega arith) ∙ over-same layout.timer_list timers _

  left_other : (j : ℕ) → (j ≡ free_list → ⊥) → (j ≡ layout.timer_list → ⊥) → lefts j ≡ over l x g j
  left_other j m n = over-other free_list free _ j m ∙ over-other layout.timer_list timers _ j n

  left-queue : lefts l ≡ x
  left-queue = left_other l (λ e. omega arith) (λ e. omega arith) ∙ over-same l x g

  left-rest : (j : ℕ) → (j ≡ free_list → ⊥) → (j ≡ layout.timer_list → ⊥) → (j ≡ l → ⊥) → lefts j ≡ g j
  left-rest j m n k = left_other j m n ∙ over-other l x g j k

-- a waiting request leaves its queue, and its timer goes
module _ {f p : ℕ} {d : Desk} {b : Built} {a : Acc} {t : Alloc} (P : Placed f p d b a t) (writer : Bool) (waits : waits_at writer a.req ≡ 1) {xs : List ℕ} {k : ℕ}
    (S : Seg xs d t k) where
  abbrev i : ℕ
  i = place_of f p

  -- the entry of the request
  abbrev e : ℕ
  e = own_entry (held_at t i)

  abbrev l : ℕ
  l = queue_at writer f

  abbrev n : ℕ
  n = index (λ x. eqb x p) (side_queue writer b)

  once : count p (side_queue writer b) ≡ 1
  once = count-here P writer ∙ waits

  low : read_queues ≤ l
  low = (queue-range writer f P.file).0

  high : l < reply_ports
  high = (queue-range writer f P.file).1

  sought : index (has 0 i) (box_of d t l) ≡ n
  sought =
      ap (index (has 0 i)) (box-side d t f P.file b P.was writer)
      ∙ index-map (has 0 i) (λ x. req_words (place_of f x) (req_of (acc_at b x))) (side_queue writer b)
      ∙ index-alike _ _ (side_queue writer b)
      (λ x z. ap (λ v. eqb v i) (words-place (place_of f x) (req_of (acc_at b x)) (omega (arith, count-side P writer x, waits-awaits writer (req_of (acc_at b x))))) ∙ same_place f x p)

  within : n < length (box_of d t l)
  within = rw (box-side d t f P.file b P.was writer, length-map) (place-in p (side_queue writer b) once)

  entry : get_or (list_of d t l) n 0 ≡ e
  entry =
      ap (λ v. get_or v n 0) (list-side d t f P.file b P.was writer)
      ∙ map_at (λ x. own_entry (held_at t (place_of f x))) (side_queue writer b) n 0 0 (place-in p (side_queue writer b) once)
      ∙ ap (λ x. own_entry (held_at t (place_of f x))) (place_at p (side_queue writer b) once)

  abbrev lists : Alloc → ℕ → List ℕ
  lists u = lefts (list_of d t) l (cut n (list_of d t l)) u.free (timer_list u) low high

  abbrev datas : Alloc → ℕ → List (List ℕ)
  datas u = lefts (box_of d t) l (cut n (box_of d t l)) (blank u.free) (map timer_words u.clock) low high

  left : (entry_of xs l i ≡ e) × (e < entries)
      × Boxed (disarmed (out xs l i) i) (e ∷ []) (get_or (box_of d t l) n [] ∷ []) (lists (ends_at i t)) (datas (ends_at i t)) S.rows
  unfolding entry_of out slot_of
  left =
      let w = out-boxed (stands P S) (has 0 i) l n (omega (arith, high)) sought within e entry in (
        w.0,
        w.1,
        disarm-boxed w.2 i t
            (over-other l _ (list_of d t) layout.timer_list (λ z. omega (arith, high)) ∙ list_of-timers d t)
            (over-other l _ (box_of d t) layout.timer_list (λ z. omega (arith, high)) ∙ box_of-timers d t)
            (over-other l _ (list_of d t) free_list (λ z. omega (arith, low)) ∙ list_of-free d t)
            (over-other l _ (box_of d t) free_list (λ z. omega (arith, low)) ∙ box_of-free d t)
            P.holds,
      )

  -- the request's slot comes after those that wait before it
  pub seg-slot : (ys zs : List ℕ) → side_queue writer b ≡ ys ++ p ∷ zs → count p ys ≡ 0 → slot_of xs (queue_at writer f) (place_of f p) ≡ slot_at (queue_at writer f) (entries_in f t ys)
  unfolding slot_of
  seg-slot ys zs q z =
      let h : l < list_count = omega (arith, high) in
      seek-box S.boxes l h (has 0 i)
      ∙ ap₂ {C = ℕ} (λ (m : ℕ) (es : List ℕ). slot_at l (take m es)) (ap (index (has 0 i)) (get_or-boxes_of d t l h) ∙ sought) (get_or-lists_of d t l h ∙ list-side d t f P.file b P.was writer)
      ∙ ap (λ (w : List ℕ). slot_at l (take (index (λ x. eqb x p) w) (entries_in f t w))) q
      ∙ ap (slot_at l) (place-before p (λ x. own_entry (held_at t (place_of f x))) ys zs z)

  listed : 1 ≤ count e (list_of d t l)
  listed =
      rw (list-side d t f P.file b P.was writer)
      (count-made (λ x. own_entry (held_at t (place_of f x))) p (side_queue writer b) (omega (arith, once)))

  port-empty : (u : Alloc) → (lists u (reply_port i) ≡ []) × (datas u (reply_port i) ≡ [])
  port-empty u =
      let z : uncollected a.req ≡ 0 = awaits-done a.req (omega (arith, waits-awaits writer a.req)) in
      let m = port-none a.req i t z in (
        left-rest (list_of d t) l _ _ _ low high (reply_port i) (λ v. omega arith) (λ v. omega (arith, hi P)) (λ v. omega (arith, high)) ∙ (port-was P).0 ∙ m.0,
        left-rest (box_of d t) l _ _ _ low high (reply_port i) (λ v. omega arith) (λ v. omega (arith, hi P)) (λ v. omega (arith, high)) ∙ (port-was P).1 ∙ m.1,
      )

  kept : held_at (ends_at i t) i ≡ own e
  kept = ends-own i t (rw P.long (hi P)) (omega (arith, P.holds))

  module _ (q : Req) (c : Built) (accs : c.accs ≡ alter (with_req q) b.accs p) (rq : c.rq ≡ without p b.rq) (wq : c.wq ≡ without p b.wq)
      (row : (file_row f ≡ k → ⊥) → file_words (built c) ≡ file_words (built b)) where
    less : (w : Bool) → side_queue w c ≡ without p (side_queue w b)
    less true = wq
    less false = rq

    -- the segment when the entry has gone to its place, with the allocation v
    leaves : (v : Alloc) → ((j : ℕ) → (j ≡ i → ⊥) → held_at v j ≡ held_at t j) → {s : List ℕ} (ls : ℕ → List ℕ) (ms : ℕ → List (List ℕ)) → Boxed s [] [] ls ms S.rows
        → (ls free_list ≡ v.free) × (ms free_list ≡ blank v.free)
        → (timer_list (ends_at i t) ≡ timer_list v) × ((ends_at i t).clock ≡ v.clock)
        → (ls (reply_port i) ≡ port_of q i v) × (ms (reply_port i) ≡ port_words i q)
        → ((j : ℕ) → (j ≡ free_list → ⊥) → (j ≡ reply_port i → ⊥) → (ls j ≡ lists (ends_at i t) j) × (ms j ≡ datas (ends_at i t) j))
        → Seg s (with_file d f (built c)) v k
    leaves v held ls ms B free timers port same =
        seg_shift C S ls ms B row (row_now P q c v accs held) free
        (let z = same layout.timer_list (λ x. omega arith) (λ x. omega (arith, hi P)) in
        (z.0 ∙ left-timers (list_of d t) l _ _ _ low high ∙ timers.0, z.1 ∙ left-timers (box_of d t) l _ _ _ low high ∙ ap (map timer_words) timers.1))
        (rw (req-now P q c v accs held) port)
        (two-sides (λ w. (ls (queue_at w f) ≡ entries_in f v (side_queue w c)) × (ms (queue_at w f) ≡ words_in f c (side_queue w c))) writer here other)
        (λ j h o. let z = same j o.free o.port in
        (z.0 ∙ left-rest (list_of d t) l _ _ _ low high j o.free o.timers (o.queue writer), z.1 ∙ left-rest (box_of d t) l _ _ _ low high j o.free o.timers (o.queue writer)))
      where
        C : Shift f p d t v b c
        C = record {
          file = P.file;
          place = P.place;
          eight = P.eight;
          was = P.was;
          accs = acc-other P q c v accs held;
          held = held;
          apart = λ w g y h m. once-apart d t S.boxes i l (omega (arith, high)) listed w g y h (queue-files writer w f g P.file h m);
        }

        here : (ls l ≡ entries_in f v (side_queue writer c)) × (ms l ≡ words_in f c (side_queue writer c))
        here =
            let z = same l (λ x. omega (arith, low)) (λ x. omega (arith, high)) in
            let r = queue-less P q c v accs held writer (less writer) once in
            (z.0 ∙ left-queue (list_of d t) l _ _ _ low high ∙ r.0, z.1 ∙ left-queue (box_of d t) l _ _ _ low high ∙ r.1)

        other : (ls (queue_at (not writer) f) ≡ entries_in f v (side_queue (not writer) c)) × (ms (queue_at (not writer) f) ≡ words_in f c (side_queue (not writer) c))
        other =
            let m = queue-range (not writer) f P.file in
            let z = same (queue_at (not writer) f) (λ x. omega (arith, m.0)) (λ x. omega (arith, m.1)) in
            let r = queue-still P q c v accs held (not writer) (less (not writer)) (count-here P (not writer) ∙ waits-other writer a.req waits) in (
              z.0 ∙ left-rest (list_of d t) l _ _ _ low high _ (λ x. omega (arith, m.0)) (λ x. omega (arith, m.1)) (sides_apart writer f P.file) ∙ r.0,
              z.1 ∙ left-rest (box_of d t) l _ _ _ low high _ (λ x. omega (arith, m.0)) (λ x. omega (arith, m.1)) (sides_apart writer f P.file) ∙ r.1,
            )

    -- the request completes as q
    pub seg-complete : uncollected q ≡ 1 → (entry_of xs (queue_at writer f) (place_of f p) < entries)
        × Seg (completed xs (slot_of xs (queue_at writer f) (place_of f p)) (place_of f p) (req_words (place_of f p) q)) (with_file d f (built c)) (ends_at (place_of f p) t) k
    unfolding completed entry_of out own_entry
    seg-complete z =
        let v : Alloc = ends_at i t in
        let w = left in
        let m = port-one i q v z in
        let o = port-empty v in
        let h : reply_port i < list_count = omega (arith, hi P) in (
          rw w.0 w.1,
          rw w.0
              (leaves v (ends-other i t) _ _ (posted-boxed w.2 (req_words i q) (reply_port i) (length-words i q) h) (
                over-other (reply_port i) _ (lists v) free_list (λ x. omega arith) ∙ left-free (list_of d t) l _ _ _ low high,
                over-other (reply_port i) _ (datas v) free_list (λ x. omega arith) ∙ left-free (box_of d t) l _ _ _ low high,
              )
              (refl, refl) (
                over-same (reply_port i) _ (lists v) ∙ ap₂ {C = List ℕ} (λ x y. x ∷ y) (ap own_entry (sym kept)) o.0 ∙ sym m.0,
                over-same (reply_port i) _ (datas v) ∙ ap (λ (y : List (List ℕ)). req_words i q ∷ y) o.1 ∙ sym m.1,
              )
              (λ j _ n. (over-other (reply_port i) _ (lists v) j n, over-other (reply_port i) _ (datas v) j n))),
        )

    -- the request is cancelled
    pub seg-cancel : q ≡ idle → Seg (cancelled xs (slot_of xs (queue_at writer f) (place_of f p)) (place_of f p)) (with_file d f (built c)) (goes_at (place_of f p) t) k
    unfolding cancelled entry_of out uncollected
    seg-cancel z =
        let v : Alloc = goes_at i t in
        let w = left in
        let o = port-empty (ends_at i t) in
        let r : uncollected q ≡ 0 = ap uncollected z in
        let m = port-none q i v r in
        rw w.0
        (leaves v (goes_other i t e kept) _ _ (released-boxed w.2) (
          over-same free_list _ (lists (ends_at i t)) ∙ ap (◌∷◌ e) (left-free (list_of d t) l _ _ _ low high) ∙ sym (goes-free i t e kept),
          over-same free_list _ (datas (ends_at i t)) ∙ ap (λ (y : List (List ℕ)). replicate data_words 0 ∷ y) (left-free (box_of d t) l _ _ _ low high) ∙ sym (ap blank (goes-free i t e kept)),
        )
        (sym (goes-timers i t e kept (λ y. omega (arith, P.holds))), sym (goes-clock i t e kept)) (
          over-other free_list _ (lists (ends_at i t)) (reply_port i) (λ x. omega arith) ∙ o.0 ∙ sym m.0,
          over-other free_list _ (datas (ends_at i t)) (reply_port i) (λ x. omega arith) ∙ o.1 ∙ sym m.1,
        )
        (λ j n _. (over-other free_list _ (lists (ends_at i t)) j n, over-other free_list _ (datas (ends_at i t)) j n)))

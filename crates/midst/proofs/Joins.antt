-- A request goes into its queue, with an entry of its own; its timer goes onto the clock, with another.
use Prim.Native.Nat.{ℕ, ◌≤◌, ◌<◌}
use mathlib.Core.Path.{◌≡◌, refl, sym, ap, ap₂, ◌∙◌}
use mathlib.Core.Bool.{Bool, true, false, not}
use mathlib.Core.List.{List, [], ◌∷◌, ◌++◌, map}
use native.Mathlib.Omega.{arith}
use native.Mathlib.Decide.{dec_le}
use lib.Dec.{ltb}
use lib.ListN.{length, get_or, set, drop, replicate}
use lib.Seq.{get_or-set_other}
use borrow.Author.Tests.{lt-ltb, le-ltb}
use Rattle.occurrences.specs.Count.{count}
use Rattle.segment.specs.Layout.{list_count, data_words, free_list, timer_list, file_row}
use Rattle.segment.specs.Table.{nth}
use Rattle.segment.specs.Fields.{entry_words}
use Rattle.ports.specs.Slots.{over, taken}
use Rattle.ports.specs.Index.{put_in, index}
use Rattle.ports.specs.Lists.{Boxes}
use Rattle.ports.proofs.Index.{index-map}
use Rattle.ports.proofs.Maps.{map-append, map-drop, map-put_in}
use Rattle.ports.proofs.Boxes.{append-boxes}
use Rattle.ports.proofs.Moves.{taken-boxes, placed-boxes}
use Rattle.requests.specs.Moves.{timer, armed, queued}
use Rattle.rules.specs.Limits.{entries}
use Rattle.rules.specs.State.{Req, Timer, Built, built}
use Rattle.rules.specs.Requests.{acc_at, arm_in}
use Rattle.rules.specs.Desk.{Desk, with_file}
use Rattle.rules.specs.Allocation.{own, timed, Alloc, place_of, held_at, no_entry, front, holds, with_clock, take_own, take_timer, own_entry, timer_entry}
use Rattle.rules.specs.Allocation as rules
use Rattle.laws.specs.Counts.{count_t}
use Rattle.laws.specs.Outstanding.{uncollected, req_of}
use Rattle.laws.proofs.Clock.{arm_in-past, arm_in-here}
use Rattle.memory.specs.Image.{req_words, timer_words, file_words, place_words, list_of, box_of, lists_of, boxes_of}
use Rattle.memory.proofs.Image.{list_of-free, list_of-timers, box_of-free, box_of-timers}
use Rattle.memory.proofs.Boxes.{get_or-lists_of, get_or-boxes_of}
use Rattle.midst.specs.Seg.{Seg, queue_at, side_queue}
use Rattle.midst.proofs.Lists.{At, at_set, seg-again, entries_in, words_in, below-side, list-side, box-side}
use Rattle.midst.proofs.Terms.{length-words}
use Rattle.midst.proofs.OnePlace.{Change, is-now, same_queue, same_entries, same-words, same-port, same-timers, keep-queue, keep-port, timers-held, at_rest, same_rows}

-- an entry is taken

front-first : (l : List ℕ) (z : ℕ) → 1 ≤ length l → l ≡ get_or l 0 z ∷ drop 1 l
front-first [] z h = absurd (omega arith)
front-first (e ∷ l) z h = refl

-- the lists, and their contents, without the first free entry

abbrev lists-left : Desk → Alloc → List (List ℕ)
lists-left d t = set (lists_of d t) free_list (drop 1 t.free)

abbrev boxes-left : Desk → Alloc → List (List (List ℕ))
boxes-left d t = set (boxes_of d t) free_list (drop 1 (get_or (boxes_of d t) free_list []))

-- the entry is in hand, with the data m
module _ {xs : List ℕ} {d : Desk} {t : Alloc} {k : ℕ} (S : Seg xs d t k) (room : 1 ≤ length t.free) (m : List ℕ) (n : length m ≡ data_words) where
  free-is : get_or (lists_of d t) free_list [] ≡ front t ∷ drop 1 t.free
  unfolding front
  free-is = get_or-lists_of d t free_list (omega arith) ∙ list_of-free d t ∙ front-first t.free no_entry room

  pub seg-taken : (nth xs free_list ≡ front t) × (front t < entries) × Boxes (taken xs m) (front t ∷ []) (m ∷ []) (lists-left d t) (boxes-left d t) S.rows
  seg-taken = taken-boxes S.boxes (front t) (drop 1 t.free) m free-is n

-- while an entry is free the free list leads to one
pub seg-free : {xs : List ℕ} {d : Desk} {t : Alloc} {k : ℕ} → Seg xs d t k → 1 ≤ length t.free → nth xs free_list < entries
seg-free S room = let w = seg-taken S room (replicate data_words 0) refl in rw w.0 w.1

-- the free list after the entry is taken
module _ (d e : Desk) (t u : Alloc) (x : u.free ≡ drop 1 t.free) where
  free-list : drop 1 t.free ≡ list_of e u free_list
  free-list = sym (list_of-free e u ∙ x)

  free-box : drop 1 (get_or (boxes_of d t) free_list []) ≡ box_of e u free_list
  free-box =
      ap (drop 1) (get_or-boxes_of d t free_list (omega arith) ∙ box_of-free d t) ∙ sym (map-drop (λ _. replicate data_words 0) 1 t.free)
      ∙ sym (box_of-free e u ∙ ap (map (λ _. replicate data_words 0)) x)

-- the other lists
module _ (d : Desk) (t : Alloc) (l : ℕ) (h : l < list_count) (k : l ≡ free_list → ⊥) where
  left-list : get_or (lists-left d t) l [] ≡ list_of d t l
  left-list = get_or-set_other (lists_of d t) free_list l _ [] k ∙ get_or-lists_of d t l h

  left-box : get_or (boxes-left d t) l [] ≡ box_of d t l
  left-box = get_or-set_other (boxes_of d t) free_list l _ [] k ∙ get_or-boxes_of d t l h

not_free : (w : Bool) (f : ℕ) → queue_at w f ≡ free_list → ⊥
not_free true f e = omega arith
not_free false f e = omega arith

-- the request q at p goes into the queue of side w
module _ {f p : ℕ} {d : Desk} {t : Alloc} {b c : Built} (C : Change f p d t (take_own (place_of f p) t) b c) (w : Bool) (q : Req)
    (joins : side_queue w c ≡ side_queue w b ++ p ∷ []) (stays : side_queue (not w) c ≡ side_queue (not w) b) (now : req_of (acc_at c p) ≡ q)
    (was : uncollected (req_of (acc_at b p)) ≡ 0) (is : uncollected q ≡ 0) (out : count p (side_queue w b) ≡ 0) (off : count p (side_queue (not w) b) ≡ 0)
    (untimed : count_t (place_of f p) t.clock ≡ 0) (mine : held_at (take_own (place_of f p) t) (place_of f p) ≡ own (front t)) where
  abbrev i : ℕ
  i = place_of f p

  abbrev u : Alloc
  u = take_own i t

  abbrev e : Desk
  e = with_file d f (built c)

  queue-list : entries_in f t (side_queue w b) ++ front t ∷ [] ≡ list_of e u (queue_at w f)
  unfolding own_entry
  queue-list =
      ap₂ {C = List ℕ} (λ x y. x ++ y ∷ []) (sym (same_entries C (side_queue w b) out)) (sym (ap own_entry mine))
      ∙ sym (map-append (λ x. own_entry (held_at u (place_of f x))) (side_queue w b) (p ∷ []))
      ∙ sym (list-side e u f C.file c (is-now C) w ∙ ap (entries_in f u) joins)

  queue-box : words_in f b (side_queue w b) ++ req_words i q ∷ [] ≡ box_of e u (queue_at w f)
  queue-box =
      ap₂ {C = List (List ℕ)} (λ x y. x ++ y ∷ []) (sym (same-words C (side_queue w b) out)) (sym (ap (req_words i) now))
      ∙ sym (map-append (λ x. req_words (place_of f x) (req_of (acc_at c x))) (side_queue w b) (p ∷ []))
      ∙ sym (box-side e u f C.file c (is-now C) w ∙ ap (words_in f c) joins)

  abbrev l : ℕ
  l = queue_at w f

  each-list : {xs ys : List ℕ} {rs : List (List ℕ)} → Boxes xs [] [] (lists_of d t) (boxes_of d t) rs
      → Boxes ys (front t ∷ []) (req_words i q ∷ []) (lists-left d t) (boxes-left d t) rs → (j : ℕ) → j < list_count
      → At (set (lists-left d t) l (get_or (lists-left d t) l [] ++ front t ∷ [])) (set (boxes-left d t) l (get_or (boxes-left d t) l [] ++ req_words i q ∷ [])) e u j
  unfolding take_own holds
  each-list B₀ B₁ j g =
      let h = below-side w f C.file in
      at_set B₁ e u l _ _ h
      (ap (λ x. x ++ front t ∷ []) (left-list d t l h (not_free w f) ∙ list-side d t f C.file b C.was w) ∙ queue-list)
      (ap (λ x. x ++ req_words i q ∷ []) (left-box d t l h (not_free w f) ∙ box-side d t f C.file b C.was w) ∙ queue-box)
      j
      (λ nq. at_set B₀ e u free_list _ _ (omega arith) (free-list d e t u refl) (free-box d e t u refl) j
      (λ n0. at_rest C j g w (λ v. absurd (n0 v)) (λ v. absurd (nq v)) (λ _. same_queue C (not w) stays off) (λ _. same-port C was (ap uncollected now ∙ is))
      (λ _. same-timers C refl untimed)))

  pub seg-queue : {xs : List ℕ} (k : ℕ) → 1 ≤ length t.free → ((file_row f ≡ k → ⊥) → file_words (built c) ≡ file_words (built b))
      → place_words (acc_at c p) ≡ place_words (acc_at b p) → Seg xs d t k → Seg (queued xs (queue_at w f) (req_words i q)) e u k
  unfolding queued
  seg-queue {xs} k room fw pw S =
      let T = seg-taken S room (req_words i q) (length-words i q) in
      rw T.0 (seg-again S e u (append-boxes T.2 l (below-side w f C.file)) (each-list S.boxes T.2) (same_rows C k fw (λ _. pw)))

-- a timer goes in front of the first that has more left
arm_at : (r : Timer) (ts : List Timer) → arm_in r ts ≡ put_in (index (λ x. ltb r.left x.left) ts) r ts
unfolding put_in index
arm_at r [] = unfold arm_in in refl
arm_at r (x ∷ ts) = go (dec_le x.left r.left) (arm_at r ts)
  where
    go : Dec (x.left ≤ r.left) → arm_in r ts ≡ put_in (index (λ x. ltb r.left x.left) ts) r ts
        → arm_in r (x ∷ ts) ≡ put_in (index (λ x. ltb r.left x.left) (x ∷ ts)) r (x ∷ ts)
    go (yes h) k = arm_in-past r x ts h ∙ rw (le-ltb r.left x.left h) (ap (◌∷◌ x) k)
    go (no h) k = arm_in-here r x ts (omega arith) ∙ rw (lt-ltb r.left x.left (omega arith))

-- where the code looks for it
arm-index : (n : ℕ) (ts : List Timer) → index (over 7 n) (map timer_words ts) ≡ index (λ x. ltb n x.left) ts
unfolding timer_words entry_words
arm-index n ts = index-map (over 7 n) timer_words ts

-- the timer of place j takes an entry and goes onto the clock, with n left
abbrev pub arms_at : ℕ → ℕ → Alloc → Alloc
arms_at j n t = with_clock (arm_in (record { place = j; left = n }) t.clock) (take_timer j (held_at t j) t)

module _ {f p : ℕ} (n : ℕ) {d : Desk} {t : Alloc} {b c : Built} (C : Change f p d t (arms_at (place_of f p) n t) b c) (same : (w : Bool) → side_queue w c ≡ side_queue w b)
    (req : req_of (acc_at c p) ≡ req_of (acc_at b p)) (untimed : count_t (place_of f p) t.clock ≡ 0) (o : ℕ) (had : held_at t (place_of f p) ≡ own o)
    (has : held_at (arms_at (place_of f p) n t) (place_of f p) ≡ timed o (front t)) where
  abbrev j : ℕ
  j = place_of f p

  abbrev v : Alloc
  v = arms_at j n t

  abbrev g : Desk
  g = with_file d f (built c)

  abbrev new : Timer
  new = record { place = j; left = n }

  abbrev at : ℕ
  at = index (λ x. ltb n x.left) t.clock

  found : index (over 7 n) (get_or (boxes-left d t) timer_list []) ≡ at
  found = ap (index (over 7 n)) (left-box d t timer_list (omega arith) (λ z. omega arith) ∙ box_of-timers d t) ∙ arm-index n t.clock

  clock-is : v.clock ≡ put_in at new t.clock
  unfolding with_clock
  clock-is = arm_at new t.clock

  free-left : v.free ≡ drop 1 t.free
  unfolding with_clock take_timer holds
  free-left = rw had

  entry : Timer → ℕ
  entry x = timer_entry (held_at v x.place)

  timer-list : put_in at (front t) (get_or (lists-left d t) timer_list []) ≡ list_of g v timer_list
  unfolding entry rules.timer_list timer_entry
  timer-list =
      ap₂ {C = List ℕ} (put_in at) (sym (ap timer_entry has))
      (left-list d t timer_list (omega arith) (λ z. omega arith) ∙ list_of-timers d t
      ∙ sym (timers-held t v t.clock (λ x k. ap timer_entry (C.held x (λ z. omega (arith, ap (λ (y : ℕ). count_t y t.clock) z))))))
      ∙ sym (map-put_in entry at new t.clock) ∙ sym (list_of-timers g v ∙ ap (map entry) clock-is)

  timer-box : put_in at (timer j n) (get_or (boxes-left d t) timer_list []) ≡ box_of g v timer_list
  unfolding timer_words entry_words
  timer-box =
      ap (put_in at (timer j n)) (left-box d t timer_list (omega arith) (λ z. omega arith) ∙ box_of-timers d t)
      ∙ sym (map-put_in timer_words at new t.clock) ∙ sym (box_of-timers g v ∙ ap (map timer_words) clock-is)

  same-own : own_entry (held_at v j) ≡ own_entry (held_at t j)
  unfolding own_entry
  same-own = ap own_entry has ∙ sym (ap own_entry had)

  every-list : {xs ys : List ℕ} {rs : List (List ℕ)} → Boxes xs [] [] (lists_of d t) (boxes_of d t) rs
      → Boxes ys (front t ∷ []) (timer j n ∷ []) (lists-left d t) (boxes-left d t) rs → (m : ℕ) → m < list_count
      → At (set (lists-left d t) timer_list (put_in at (front t) (get_or (lists-left d t) timer_list []))) (set (boxes-left d t) timer_list (put_in at (timer j n) (get_or (boxes-left d t) timer_list []))) g v m
  every-list B₀ B₁ m h =
      at_set B₁ g v timer_list _ _ (omega arith) timer-list timer-box m
      (λ nt. at_set B₀ g v free_list _ _ (omega arith) (free-list d g t v free-left) (free-box d g t v free-left) m
      (λ n0. at_rest C m h true (λ z. absurd (n0 z)) (λ _. keep-queue C same-own req true (same true)) (λ _. keep-queue C same-own req false (same false))
      (λ _. keep-port C same-own req) (λ z. absurd (nt z))))

  pub seg-arm : {xs : List ℕ} (k : ℕ) → 1 ≤ length t.free → ((file_row f ≡ k → ⊥) → file_words (built c) ≡ file_words (built b))
      → place_words (acc_at c p) ≡ place_words (acc_at b p) → Seg xs d t k → Seg (armed xs j n) g v k
  unfolding armed
  seg-arm {xs} k room fw pw S =
      let T = seg-taken S room (timer j n) (unfold entry_words in refl) in
      rw T.0 (seg-again S g v (placed-boxes T.2 (over 7 n) timer_list at (omega arith) found) (every-list S.boxes T.2) (same_rows C k fw (λ _. pw)))

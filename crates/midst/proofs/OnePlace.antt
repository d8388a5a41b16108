-- A desk whose file f changes, and an allocation, both only at place p of f: which lists, contents and rows stay, and what stands after the
-- change where the others are known.
use Prim.Native.Nat.{ℕ, ◌/◌, ◌%◌, ◌≤◌, ◌<◌}
use mathlib.Core.Path.{◌≡◌, refl, sym, ap, ◌∙◌}
use mathlib.Core.Bool.{Bool, true, false, not}
use mathlib.Core.List.{List, map}
use mathlib.Core.Option.{Option}
use native.Mathlib.Omega.{arith}
use native.Mathlib.Decide.{ℕ_discrete}
use Rattle.occurrences.specs.Count.{count}
use Rattle.segment.specs.Layout.{list_count, row_count, free_list, read_queue, write_queue, reply_port, timer_list, file_row, place_row}
use Rattle.ports.proofs.Maps.{map-in}
use Rattle.rules.specs.Limits.{files, places}
use Rattle.rules.specs.State.{Req, Acc, Timer, Built, File, built}
use Rattle.rules.specs.Requests.{acc_at}
use Rattle.rules.specs.Desk.{Desk, file_of, with_file}
use Rattle.rules.specs.Allocation.{Alloc, place_of, held_at, own_entry, timer_entry, queue_of, port_of}
use Rattle.rules.specs.Allocation as rules
use Rattle.laws.specs.Counts.{places_of, count_t}
use Rattle.laws.specs.Outstanding.{uncollected, req_of}
use Rattle.laws.specs.EightFiles.{EightFiles}
use Rattle.laws.proofs.Counts.{at-or-else}
use Rattle.laws.proofs.EightFiles.{file-other, file-same}
use Rattle.laws.proofs.Happenings.{place-of-desk}
use Rattle.memory.specs.Image.{acc_of, place_acc, req_words, timer_words, file_words, place_words, row_of, rq_of, wq_of, list_of, queue_words, port_words, box_of, lists_of, boxes_of}
use Rattle.memory.proofs.Image.{place_acc-of, row_of-file, row_of-place, each_row, list_of-read, list_of-write, list_of-port, list_of-timers, box_of-read, box_of-write, box_of-port, box_of-timers, each-list}
use Rattle.memory.proofs.Boxes.{get_or-lists_of, get_or-boxes_of}
use Rattle.memory.proofs.Held.{map-place}
use Rattle.midst.specs.Seg.{queue_at, side_queue}
use Rattle.midst.proofs.Lists.{At, entries_in, words_in, list-side, box-side, Low, port-none, queue-held, port-held}

-- file f of the desk goes from b to c, and the allocation from t to u, at place p alone
pub record Change (f p : ℕ) (d : Desk) (t u : Alloc) (b c : Built) : Type 0 where
  pub file : f < files
  pub place : p < places
  pub eight : EightFiles d
  pub was : file_of d f ≡ built b
  pub accs : (x : ℕ) → (p ≡ x → ⊥) → acc_at c x ≡ acc_at b x
  pub held : (j : ℕ) → (j ≡ place_of f p → ⊥) → held_at u j ≡ held_at t j
  pub low : (g : ℕ) → g < files → (g ≡ f → ⊥) → Low (file_of d g)

place-apart : (f p g x : ℕ) → p < places → x < places → (g ≡ f → ⊥) → place_of g x ≡ place_of f p → ⊥
unfolding place_of
place-apart f p g x h k n e = n (omega arith)

place-beside : (f p x : ℕ) → (p ≡ x → ⊥) → place_of f x ≡ place_of f p → ⊥
unfolding place_of
place-beside f p x n e = n (omega arith)

-- timers of places that hold what they held
pub timers-held : (t u : Alloc) (ts : List Timer) → ((x : ℕ) → 1 ≤ count_t x ts → timer_entry (held_at u x) ≡ timer_entry (held_at t x))
    → map (λ r. timer_entry (held_at u r.place)) ts ≡ map (λ r. timer_entry (held_at t r.place)) ts
unfolding count_t
timers-held t u ts h =
    sym (map-place (λ x. timer_entry (held_at u x)) ts) ∙ map-in (λ x. timer_entry (held_at u x)) (λ x. timer_entry (held_at t x)) (places_of ts) h
    ∙ map-place (λ x. timer_entry (held_at t x)) ts

module _ {f p : ℕ} {d : Desk} {t u : Alloc} {b c : Built} (C : Change f p d t u b c) where
  -- the desk after the change
  abbrev then : Desk
  then = with_file d f (built c)

  pub is-now : file_of then f ≡ built c
  is-now = file-same d f (built c) C.eight C.file

  -- list l and its contents stay
  abbrev pub Kept : ℕ → Type 0
  Kept l = (list_of then u l ≡ list_of d t l) × (box_of then u l ≡ box_of d t l)

  place_other : (j : ℕ) → (j ≡ place_of f p → ⊥) → place_acc then j ≡ place_acc d j
  unfolding place_acc
  place_other j n = go (ℕ_discrete (j / 8) f)
    where
      go : Dec (j / 8 ≡ f) → acc_of (file_of then (j / 8)) (j % 8) ≡ acc_of (file_of d (j / 8)) (j % 8)
      go (yes e) = rw (e, is-now, C.was) (unfold acc_of in C.accs (j % 8) (λ z. n (unfold place_of in omega arith)))
      go (no k) = ap (λ (y : File). acc_of y (j % 8)) (file-other d f (j / 8) (built c) k)

  pub place_here : place_acc then (place_of f p) ≡ acc_at c p
  place_here = place_acc-of then f p C.place ∙ rw is-now (unfold acc_of in refl)

  pub place-was : place_acc d (place_of f p) ≡ acc_at b p
  place-was = place_acc-of d f p C.place ∙ rw C.was (unfold acc_of in refl)

  -- every list but the free list, the file's queues, the place's reply port and the timer list
  pub same-list : (l : ℕ) → l < list_count → (l ≡ free_list → ⊥) → (l ≡ read_queue f → ⊥) → (l ≡ write_queue f → ⊥) → (l ≡ reply_port (place_of f p) → ⊥)
      → (l ≡ timer_list → ⊥) → Kept l
  same-list =
      each-list P (λ n _ _ _ _. absurd (n refl))
      (λ g h _ n _ _ _. let k : g ≡ f → ⊥ = λ e. n (omega arith) in (
        list_of-read then u g h ∙ queue (λ b. b.rq) g k (λ b e x i. C.low g h k x (rw e (unfold rq_of in omega arith))) ∙ sym (list_of-read d t g h),
        box_of-read then u g h ∙ ap (λ (y : File). queue_words g y (rq_of y)) (file-other d f g (built c) k) ∙ sym (box_of-read d t g h),
      ))
      (λ g h _ _ n _ _. let k : g ≡ f → ⊥ = λ e. n (omega arith) in (
        list_of-write then u g h ∙ queue (λ b. b.wq) g k (λ b e x i. C.low g h k x (rw e (unfold wq_of in omega arith))) ∙ sym (list_of-write d t g h),
        box_of-write then u g h ∙ ap (λ (y : File). queue_words g y (wq_of y)) (file-other d f g (built c) k) ∙ sym (box_of-write d t g h),
      ))
      (λ j h _ _ _ n _. let k : j ≡ place_of f p → ⊥ = λ e. n (omega arith) in (
        list_of-port then u j h ∙ rw (place_other j k) (port-held t u j (req_of (place_acc d j)) (ap own_entry (C.held j k))) ∙ sym (list_of-port d t j h),
        box_of-port then u j h ∙ ap (λ (o : Option Acc). port_words j (req_of o)) (place_other j k) ∙ sym (box_of-port d t j h),
      ))
      (λ _ _ _ _ n. absurd (n refl))
    where
      P : ℕ → Type 0
      P l = (l ≡ free_list → ⊥) → (l ≡ read_queue f → ⊥) → (l ≡ write_queue f → ⊥) → (l ≡ reply_port (place_of f p) → ⊥) → (l ≡ timer_list → ⊥) → Kept l

      queue : (q : Built → List ℕ) (g : ℕ) → (g ≡ f → ⊥) → ((b : Built) → file_of d g ≡ built b → (x : ℕ) → 1 ≤ count x (q b) → x < places)
          → queue_of q g (file_of then g) u ≡ queue_of q g (file_of d g) t
      queue q g k h =
          ap (λ (y : File). queue_of q g y u) (file-other d f g (built c) k)
          ∙ queue-held t u q g (file_of d g) (λ b e x i. C.held (place_of g x) (place-apart f p g x C.place (h b e x i) k))

  -- a queue of the file, whose members hold and ask what they did
  queue-kept : (w : Bool) → side_queue w c ≡ side_queue w b
      → ((x : ℕ) → 1 ≤ count x (side_queue w b) → (own_entry (held_at u (place_of f x)) ≡ own_entry (held_at t (place_of f x))) × (req_of (acc_at c x) ≡ req_of (acc_at b x)))
      → Kept (queue_at w f)
  queue-kept w e h = (
    list-side then u f C.file c is-now w ∙ ap (entries_in f u) e
        ∙ map-in (λ x. own_entry (held_at u (place_of f x))) (λ x. own_entry (held_at t (place_of f x))) (side_queue w b) (λ x k. (h x k).0)
        ∙ sym (list-side d t f C.file b C.was w),
    box-side then u f C.file c is-now w ∙ ap (words_in f c) e
        ∙ map-in (λ x. req_words (place_of f x) (req_of (acc_at c x))) (λ x. req_words (place_of f x) (req_of (acc_at b x))) (side_queue w b) (λ x k. ap (req_words (place_of f x)) (h x k).1)
        ∙ sym (box-side d t f C.file b C.was w),
  )

  others : (x : ℕ) → (p ≡ x → ⊥) → (own_entry (held_at u (place_of f x)) ≡ own_entry (held_at t (place_of f x))) × (req_of (acc_at c x) ≡ req_of (acc_at b x))
  others x n = (ap own_entry (C.held (place_of f x) (place-beside f p x n)), ap req_of (C.accs x n))

  -- a queue of which p is no member stays
  pub same_queue : (w : Bool) → side_queue w c ≡ side_queue w b → count p (side_queue w b) ≡ 0 → Kept (queue_at w f)
  same_queue w e z = queue-kept w e (λ x k. others x (λ v. omega (arith, ap (λ (y : ℕ). count y (side_queue w b)) v)))

  -- places of the file among which p is not: their entries, and what these hold
  module _ (l : List ℕ) (z : count p l ≡ 0) where
    pub same_entries : entries_in f u l ≡ entries_in f t l
    same_entries =
        map-in (λ x. own_entry (held_at u (place_of f x))) (λ x. own_entry (held_at t (place_of f x))) l
        (λ x k. (others x (λ v. omega (arith, ap (λ (y : ℕ). count y l) v))).0)

    pub same-words : words_in f c l ≡ words_in f b l
    same-words =
        map-in (λ x. req_words (place_of f x) (req_of (acc_at c x))) (λ x. req_words (place_of f x) (req_of (acc_at b x))) l
        (λ x k. ap (req_words (place_of f x)) (others x (λ v. omega (arith, ap (λ (y : ℕ). count y l) v))).1)

  -- the place's reply port, before and after

  pub list-port-was : list_of d t (reply_port (place_of f p)) ≡ port_of (req_of (acc_at b p)) (place_of f p) t
  list-port-was = list_of-port d t (place_of f p) (place-of-desk f p C.file C.place) ∙ ap (λ (o : Option Acc). port_of (req_of o) (place_of f p) t) place-was

  pub list-port-now : list_of then u (reply_port (place_of f p)) ≡ port_of (req_of (acc_at c p)) (place_of f p) u
  list-port-now = list_of-port then u (place_of f p) (place-of-desk f p C.file C.place) ∙ ap (λ (o : Option Acc). port_of (req_of o) (place_of f p) u) place_here

  pub box-port-was : box_of d t (reply_port (place_of f p)) ≡ port_words (place_of f p) (req_of (acc_at b p))
  box-port-was = box_of-port d t (place_of f p) (place-of-desk f p C.file C.place) ∙ ap (λ (o : Option Acc). port_words (place_of f p) (req_of o)) place-was

  pub box-port-now : box_of then u (reply_port (place_of f p)) ≡ port_words (place_of f p) (req_of (acc_at c p))
  box-port-now = box_of-port then u (place_of f p) (place-of-desk f p C.file C.place) ∙ ap (λ (o : Option Acc). port_words (place_of f p) (req_of o)) place_here

  -- empty both times
  pub same-port : uncollected (req_of (acc_at b p)) ≡ 0 → uncollected (req_of (acc_at c p)) ≡ 0 → Kept (reply_port (place_of f p))
  same-port x y =
      let v = port-none (req_of (acc_at b p)) (place_of f p) t x in
      let z = port-none (req_of (acc_at c p)) (place_of f p) u y in
      (list-port-now ∙ z.0 ∙ sym (list-port-was ∙ v.0), box-port-now ∙ z.1 ∙ sym (box-port-was ∙ v.1))

  -- the timer list, where the clock stays and p has no timer on it
  pub same-timers : u.clock ≡ t.clock → count_t (place_of f p) t.clock ≡ 0 → Kept timer_list
  same-timers e z = (list_of-timers then u ∙ all ∙ sym (list_of-timers d t), box_of-timers then u ∙ ap (map timer_words) e ∙ sym (box_of-timers d t))
    where
      timers : map (λ r. timer_entry (held_at u r.place)) u.clock ≡ map (λ r. timer_entry (held_at t r.place)) t.clock
      timers =
          ap (map (λ r. timer_entry (held_at u r.place))) e
          ∙ timers-held t u t.clock (λ x k. ap timer_entry (C.held x (λ v. omega (arith, ap (λ (y : ℕ). count_t y t.clock) v))))

      all : rules.timer_list u ≡ rules.timer_list t
      all = unfold rules.timer_list in timers

  -- where p's request, and its entry, are what they were
  module _ (o : own_entry (held_at u (place_of f p)) ≡ own_entry (held_at t (place_of f p))) (r : req_of (acc_at c p) ≡ req_of (acc_at b p)) where
    pub keep-queue : (w : Bool) → side_queue w c ≡ side_queue w b → Kept (queue_at w f)
    keep-queue w e =
        queue-kept w e
        (λ x k. at-or-else (λ y. (own_entry (held_at u (place_of f y)) ≡ own_entry (held_at t (place_of f y))) × (req_of (acc_at c y) ≡ req_of (acc_at b y))) p x (o, r) (others x))

    pub keep-port : Kept (reply_port (place_of f p))
    keep-port = (
      list-port-now ∙ ap (λ (q : Req). port_of q (place_of f p) u) r ∙ port-held t u (place_of f p) (req_of (acc_at b p)) o ∙ sym list-port-was,
      box-port-now ∙ ap (port_words (place_of f p)) r ∙ sym box-port-was,
    )

  -- list l stays, or is one of the five: each of these stays, or is not meant
  module _ (l : ℕ) (h : l < list_count) where
    abbrev Known : ℕ → Type 0
    Known m = l ≡ m → Kept m

    five : Known free_list → Known (read_queue f) → Known (write_queue f) → Known (reply_port (place_of f p)) → Known timer_list → Kept l
    five v r w i s = go (ℕ_discrete l free_list) (ℕ_discrete l (read_queue f)) (ℕ_discrete l (write_queue f)) (ℕ_discrete l (reply_port (place_of f p))) (ℕ_discrete l timer_list)
      where
        go : Dec (l ≡ free_list) → Dec (l ≡ read_queue f) → Dec (l ≡ write_queue f) → Dec (l ≡ reply_port (place_of f p)) → Dec (l ≡ timer_list) → Kept l
        go (yes e) _ _ _ _ = rw e (v e)
        go (no _) (yes e) _ _ _ = rw e (r e)
        go (no _) (no _) (yes e) _ _ = rw e (w e)
        go (no _) (no _) (no _) (yes e) _ = rw e (i e)
        go (no _) (no _) (no _) (no _) (yes e) = rw e (s e)
        go (no n₁) (no n₂) (no n₃) (no n₄) (no n₅) = same-list l h n₁ n₂ n₃ n₄ n₅

    -- with one queue of the file and the other
    pub at_rest : (w : Bool) → Known free_list → Known (queue_at w f) → Known (queue_at (not w) f) → Known (reply_port (place_of f p)) → Known timer_list
        → At (lists_of d t) (boxes_of d t) then u l
    at_rest w v q r i s = let k : Kept l = go w q r in (get_or-lists_of d t l h ∙ sym k.0, get_or-boxes_of d t l h ∙ sym k.1)
      where
        go : (w : Bool) → Known (queue_at w f) → Known (queue_at (not w) f) → Kept l
        go true q r = five v r q i s
        go false q r = five v q r i s

  -- every row but the file's and the place's
  pub same_row : (i : ℕ) → i < row_count → (i ≡ file_row f → ⊥) → (i ≡ place_row (place_of f p) → ⊥) → row_of then i ≡ row_of d i
  same_row =
      each_row (λ i. (i ≡ file_row f → ⊥) → (i ≡ place_row (place_of f p) → ⊥) → row_of then i ≡ row_of d i)
      (λ g h n _. row_of-file then g h ∙ ap file_words (file-other d f g (built c) n) ∙ sym (row_of-file d g h))
      (λ j h _ n. row_of-place then j ∙ ap place_words (place_other j (λ e. n (omega arith))) ∙ sym (row_of-place d j))

  -- every row but row k, where the file's words stay, or its row is row k, and so the place's
  pub same_rows : (k : ℕ) → ((file_row f ≡ k → ⊥) → file_words (built c) ≡ file_words (built b))
      → ((place_row (place_of f p) ≡ k → ⊥) → place_words (acc_at c p) ≡ place_words (acc_at b p))
      → (i : ℕ) → i < row_count → (i ≡ k → ⊥) → row_of then i ≡ row_of d i
  same_rows k x y i h n = go (ℕ_discrete i (file_row f)) (ℕ_discrete i (place_row (place_of f p)))
    where
      go : Dec (i ≡ file_row f) → Dec (i ≡ place_row (place_of f p)) → row_of then i ≡ row_of d i
      go (yes e) _ = rw e (row_of-file then f C.file ∙ ap file_words is-now ∙ x (λ z. n (e ∙ z)) ∙ sym (row_of-file d f C.file ∙ ap file_words C.was))
      go (no _) (yes e) =
          rw e (row_of-place then (place_of f p) ∙ ap place_words place_here ∙ y (λ z. n (e ∙ z)) ∙ sym (row_of-place d (place_of f p) ∙ ap place_words place-was))
      go (no m) (no o) = same_row i h m o

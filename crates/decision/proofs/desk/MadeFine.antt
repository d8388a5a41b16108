-- A built file of the desk that memories say is fine, and its bytes are theirs.
use Prim.Native.Nat.{ℕ, ◌+◌, ◌*◌, ◌/◌, ◌%◌, ◌≤◌, ◌<◌}
use mathlib.Core.Bool.{true, false}
use mathlib.Core.Path.{◌≡◌, refl, sym, ap, subst, ◌∙◌}
use mathlib.Core.List.{List, [], ◌∷◌, map}
use mathlib.Core.Logic.{◌⊎◌, inl, inr}
use mathlib.Core.Option.{Option, none, some}
use native.Mathlib.Omega.{arith}
use native.Mathlib.Decide.{dec_lt, ℕ_discrete}
use borrow.Author.Tests.{eqb-true, eqb-false}
use lib.Dec.{eqb}
use lib.ListN.{length, get_or, take, drop, length-drop}
use lib.Seq.{length-take-le}
use Rattle.words.specs.Word.{part, Bytes}
use Rattle.occurrences.specs.Count.{bit, count}
use Rattle.occurrences.proofs.Counts.{bit-eq, bit-ne}
use Rattle.rules.specs.Limits.{files, places, share_bytes, buffer_bytes}
use Rattle.rules.specs.State.{idle, Acc, Timer, Built, built}
use Rattle.rules.specs.Requests.{acc_at}
use Rattle.rules.specs.Memories.{share_at}
use Rattle.rules.specs.Buffers.{lies}
use Rattle.rules.specs.Allocation.{place_of}
use Rattle.rules.proofs.Split.{by_cases}
use Rattle.segment.specs.Layout.{place_width, read_queue, write_queue, timer_list}
use Rattle.shares.specs.Sound.{store_at}
use Rattle.laws.specs.Outstanding.{req_at, waits_read, waits_write, awaits, req_of}
use Rattle.laws.specs.Outstanding as laws
use Rattle.laws.specs.Bounds.{Bounded}
use Rattle.laws.specs.Lying.{Lying}
use Rattle.laws.specs.Sides.{Sided}
use Rattle.laws.specs.Counts.{places_of, count_t}
use Rattle.laws.specs.Entries.{local, sieve}
use Rattle.laws.specs.Timers.{Sorted}
use Rattle.laws.proofs.Sieve.{sorted-sieve}
use Rattle.memory.specs.Stands.{buffers_at, FileBytes}
use Rattle.memory.specs.Fine.{Fine}
use Rattle.memory.proofs.Held.{sieve-at}
use Rattle.memory.proofs.Parts as memory
use Rattle.memory.proofs.Frames.{buffers_at-part}
use Rattle.sound.specs.Rows.{file_word, place_word, built_at, geo_at, side_at}
use Rattle.sound.specs.Walks.{entry_word, place_in}
use Rattle.decision.specs.Survey.{Each, InOrder, ReadEntry, WriteEntry, named, waiting_at, timers_at, Survey}
use Rattle.sound.specs.Sound.{files_ok}
use Rattle.decision.proofs.desk.MadeFacts.{OpenRow, place_at}
use Rattle.decision.proofs.desk.MadeDesk.{reads_at, writes_at, req_for, open_for, acc_for, timer_for, clock_for, in_file, built_for}
use Rattle.decision.proofs.desk.MadeRequests.{counts, fitting, bounded, lain}
use Rattle.decision.proofs.desk.MadeBase.{small, viewed, acc-none, acc-req, accs-at, accs-past}
use Rattle.decision.proofs.desk.MadeRows.{stored, acc-some, roomy}

-- places of a file and of the desk

module _ (s : List ℕ) (f : ℕ) where
  in_count : (x : ℕ) → x < places → (l : List ℕ) → Each (λ e. place_in s e / places ≡ f) l → count x (map (in_file s) l) ≡ named s (places * f + x) l
  unfolding named count Each in_file
  in_count x h [] a = refl
  in_count x h (e ∷ l) a = go (ℕ_discrete (place_in s e % places) x) (in_count x h l a.1)
    where
      go : Dec (place_in s e % places ≡ x) → count x (map (in_file s) l) ≡ named s (places * f + x) l → bit (eqb (place_in s e % places) x) + count x (map (in_file s) l) ≡ named s (places * f + x) (e ∷ l)
      go (yes u) r = omega (arith, r, bit-eq (place_in s e % places) x u, bit-eq (place_in s e) (places * f + x) (omega (arith, a.0)))
      go (no u) r = omega (arith, r, bit-ne (place_in s e % places) x u, bit-ne (place_in s e) (places * f + x) (λ v. u (omega arith)))

  in-past : (x : ℕ) → places ≤ x → (l : List ℕ) → count x (map (in_file s) l) ≡ 0
  unfolding count in_file
  in-past x h [] = refl
  in-past x h (e ∷ l) = omega (arith, in-past x h l, bit-ne (place_in s e % places) x (λ u. omega arith))

each-less : (P Q : ℕ → Type 0) → ((e : ℕ) → P e → Q e) → (l : List ℕ) → Each P l → Each Q l
unfolding Each
each-less P Q k [] a = tt
each-less P Q k (e ∷ l) a = (k e a.0, each-less P Q k l a.1)

pub sieve-past : (f x : ℕ) → places ≤ x → (ts : List Timer) → count_t x (sieve f ts) ≡ 0
unfolding sieve count_t places_of count local
sieve-past f x h [] = refl
sieve-past f x h (t ∷ ts) = by_cases (eqb (t.place / places) f)
    (λ u. rw u (omega (arith, sieve-past f x h ts, bit-ne (t.place % places) x (λ v. omega arith))))
    (λ u. rw u (sieve-past f x h ts))

pub clock-count : (s : List ℕ) (ls : List (List ℕ)) (i : ℕ) → count_t i (clock_for s ls) ≡ timers_at s ls i
unfolding count_t places_of clock_for timers_at named timer_for
clock-count s ls i = ap (count i) (go (get_or ls timer_list []))
  where
    go : (l : List ℕ) → map (λ t. t.place) (map (timer_for s) l) ≡ map (place_in s) l
    go [] = refl
    go (e ∷ l) = ap (◌∷◌ (place_in s e)) (go l)

-- the timers are in order, and each has something left

in_order : (s : List ℕ) (lo : ℕ) (l : List ℕ) → InOrder s lo l → Sorted lo (map (timer_for s) l)
unfolding InOrder Sorted timer_for
in_order s lo [] a = tt
in_order s lo (e ∷ l) a = (a.0, in_order s (entry_word s e 7) l a.1)

pub clock-order : (s : List ℕ) (ls : List (List ℕ)) → InOrder s 1 (get_or ls timer_list []) → Sorted 1 (clock_for s ls)
unfolding clock_for
clock-order s ls o = in_order s 1 (get_or ls timer_list []) o

-- what is true of the accessor, if there is one
OnAcc : (Acc → Type 0) → Option Acc → Type 0
OnAcc P none = Unit {0}
OnAcc P (some a) = P a

module _ (s blocks bufs : List ℕ) (ls : List (List ℕ)) (bytes : Bytes blocks) (long : length blocks ≡ share_bytes * files) (size : length bufs ≡ places * buffer_bytes * files)
    (ok : files_ok s blocks 0 files ≡ true) (U : Survey s ls) where
  module _ (i : ℕ) (h : i < files * places) where
    sided : OnAcc Sided (acc_for s bufs ls i)
    unfolding OnAcc open_for side_at
    sided = go (place_at s blocks ok i h)
      where
        ident : OpenRow s i → (eqb (side_at s i) 2 ≡ false → place_word s i 1 ≡ 0) × (eqb (side_at s i) 2 ≡ true → 1 ≤ place_word s i 1)
        ident o = on o.side
          where
            on : ((side_at s i ≡ 1) × (place_word s i 1 ≡ 0)) ⊎ ((side_at s i ≡ 2) × (1 ≤ place_word s i 1))
                → (eqb (side_at s i) 2 ≡ false → place_word s i 1 ≡ 0) × (eqb (side_at s i) 2 ≡ true → 1 ≤ place_word s i 1)
            on (inl (u, v)) = (λ _. v, λ e. absurd (omega (arith, u, eqb-true (side_at s i) 2 e)))
            on (inr (u, v)) = (λ e. absurd (eqb-false (side_at s i) 2 e u), λ _. v)

        go : ((j : ℕ) → j < place_width → place_word s i j ≡ 0) ⊎ ((side_at s i ≡ 0 → ⊥) × (built_at s (i / places) ≡ true) × OpenRow s i) → OnAcc Sided (acc_for s bufs ls i)
        go (inl z) = rw (acc-none s blocks bufs ls ok U i h (z 0 (omega arith))) tt
        go (inr (n, t, o)) = rw (acc-some s blocks bufs ls bytes long ok U i h n) (record { request = fitting s bufs ls i (req_for s bufs ls i) (viewed s blocks bufs ls ok U i h); reader = (ident o).0; writer = (ident o).1 })

    pub req_at_lem : laws.req_of (acc_for s bufs ls i) ≡ req_for s bufs ls i
    req_at_lem = acc-req s blocks bufs ls ok U i h

  -- a built file
  module _ (f : ℕ) (h : f < files) (t : built_at s f ≡ true) where
    abbrev b : Built
    b = built_for s blocks bufs ls f

    req-low : (x : ℕ) → x < places → req_at b.accs x ≡ req_for s bufs ls (places * f + x)
    req-low x k = ap laws.req_of (accs-at s blocks bufs ls ok U f h x k) ∙ req_at_lem (places * f + x) (omega arith)

    req-high : (x : ℕ) → places ≤ x → req_at b.accs x ≡ idle
    unfolding laws.req_of
    req-high x k = ap laws.req_of (accs-past s blocks bufs ls ok U f h x k)

    bounds : (x : ℕ) → Bounded b.geo.words (req_at b.accs x)
    unfolding Bounded built_for geo_at
    bounds x = go (dec_lt x places)
      where
        go : Dec (x < places) → Bounded (file_word s f 0) (req_at b.accs x)
        go (yes k) =
            let e : (places * f + x) / places ≡ f = omega arith in
            rw (req-low x k)
            (rw e at (bounded s bufs ls (places * f + x) size (omega arith) (small s blocks bufs ls ok U (places * f + x) (omega arith)) (req_for s bufs ls (places * f + x))
            (viewed s blocks bufs ls ok U (places * f + x) (omega arith))))
        go (no k) = rw (req-high x (omega arith)) tt

    sides : (p : ℕ) (a : Acc) → acc_at b p ≡ some a → Sided a
    unfolding acc_at OnAcc
    sides p a e = go (dec_lt p places)
      where
        go : Dec (p < places) → Sided a
        go (yes k) = subst (OnAcc Sided) (sym (accs-at s blocks bufs ls ok U f h p k) ∙ e) (sided (places * f + p) (omega arith))
        go (no k) = absurd (subst (OnAcc (λ _. ⊥)) (sym (accs-past s blocks bufs ls ok U f h p (omega arith)) ∙ e) tt)

    -- the counts at a place of the file
    counted : (x : ℕ) → x < places
        → (waits_read (req_at b.accs x) ≡ named s (places * f + x) (get_or ls (read_queue f) []))
        × (waits_write (req_at b.accs x) ≡ named s (places * f + x) (get_or ls (write_queue f) []))
    unfolding reads_at writes_at
    counted x k =
        let e : (places * f + x) / places ≡ f = omega arith in
        let c = counts s bufs ls (places * f + x) (req_for s bufs ls (places * f + x)) (viewed s blocks bufs ls ok U (places * f + x) (omega arith)) in
        (ap waits_read (req-low x k) ∙ (rw e at c.0), ap waits_write (req-low x k) ∙ (rw e at c.1))

    reads-is : (x : ℕ) → count x b.rq ≡ waits_read (req_at b.accs x)
    unfolding built_for waits_read
    reads-is x = go (dec_lt x places)
      where
        go : Dec (x < places) → count x (map (in_file s) (get_or ls (read_queue f) [])) ≡ waits_read (req_at b.accs x)
        go (yes k) =
            in_count s f x k (get_or ls (read_queue f) []) (each-less (ReadEntry s f) (λ e. place_in s e / places ≡ f) (λ e r. r.file) (get_or ls (read_queue f) []) (U.reads f h))
            ∙ sym (counted x k).0
        go (no k) = in-past s f x (omega arith) (get_or ls (read_queue f) []) ∙ sym (ap waits_read (req-high x (omega arith)))

    writes-is : (x : ℕ) → count x b.wq ≡ waits_write (req_at b.accs x)
    unfolding built_for waits_write
    writes-is x = go (dec_lt x places)
      where
        go : Dec (x < places) → count x (map (in_file s) (get_or ls (write_queue f) [])) ≡ waits_write (req_at b.accs x)
        go (yes k) =
            in_count s f x k (get_or ls (write_queue f) []) (each-less (WriteEntry s f) (λ e. place_in s e / places ≡ f) (λ e r. r.file) (get_or ls (write_queue f) []) (U.writes f h))
            ∙ sym (counted x k).1
        go (no k) = in-past s f x (omega arith) (get_or ls (write_queue f) []) ∙ sym (ap waits_write (req-high x (omega arith)))

    times-is : (x : ℕ) → count_t x b.timers ≤ awaits (req_at b.accs x)
    unfolding built_for waiting_at place_of
    times-is x = go (dec_lt x places)
      where
        go : Dec (x < places) → count_t x (sieve f (clock_for s ls)) ≤ awaits (req_at b.accs x)
        go (yes k) =
            let e : (places * f + x) / places ≡ f = omega arith in
            let w : waiting_at s ls (places * f + x) ≡ named s (places * f + x) (get_or ls (read_queue f) []) + named s (places * f + x) (get_or ls (write_queue f) []) = rw e refl in
            let c : count_t (places * f + x) (clock_for s ls) ≡ count_t x (sieve f (clock_for s ls)) = sieve-at f x k (clock_for s ls) in
            omega (arith, c, clock-count s ls (places * f + x), U.timed (places * f + x) (omega arith), w, counted x k)
        go (no k) = omega (arith, sieve-past f x (omega arith) (clock_for s ls))

    -- its record buffers
    buffers : Lying b
    unfolding built_for memory.part place_of
    buffers = record { size = unfold buffers_at in all; each = there }
      where
        all : length (take (places * buffer_bytes) (drop (places * buffer_bytes * f) bufs)) ≡ places * buffer_bytes
        all = length-take-le (places * buffer_bytes) (drop (places * buffer_bytes * f) bufs) (rw (length-drop (places * buffer_bytes * f) bufs) (omega arith))

        there : (p : ℕ) → p < places → take (length (lies (req_at b.accs p))) (part buffer_bytes p (buffers_at f bufs)) ≡ lies (req_at b.accs p)
        there p k =
            rw (req-low p k, buffers_at-part f p bufs k)
            (lain s bufs ls (places * f + p) size (omega arith) (small s blocks bufs ls ok U (places * f + p) (omega arith)) (req_for s bufs ls (places * f + p))
            (viewed s blocks bufs ls ok U (places * f + p) (omega arith)))

    pub fine : Fine b
    fine = record {
      room = roomy s blocks bufs ls bytes long ok U f h t;
      records = (stored s blocks bufs ls bytes long ok U f h t).1;
      bounds = bounds;
      buffers = buffers;
      queues = λ x. record { reads = reads-is x; writes = writes-is x; times = times-is x };
      timers = unfold built_for in sorted-sieve f 1 (clock_for s ls) (clock-order s ls U.order);
      sides = sides;
    }

    pub bodies : FileBytes (built b) (share_at f blocks) (buffers_at f bufs)
    unfolding FileBytes store_at built_for
    bodies = (refl, refl)

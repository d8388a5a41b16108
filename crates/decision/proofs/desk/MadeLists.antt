-- The lists of the desk that memories say are those of the memories, and so is what their entries hold.
use Prim.Native.Nat.{ℕ, ◌+◌, ◌*◌, ◌/◌, ◌%◌, ◌≤◌, ◌<◌}
use mathlib.Core.Bool.{true, false}
use mathlib.Core.Path.{◌≡◌, refl, sym, ap, ap₂, ◌∙◌}
use mathlib.Core.List.{List, [], ◌∷◌, map}
use native.Mathlib.Omega.{arith}
use lib.ListN.{length, get_or, replicate, length-replicate}
use Rattle.occurrences.specs.Count.{count}
use Rattle.rules.specs.Limits.{files, places, buffer_bytes}
use Rattle.rules.specs.State.{File}
use Rattle.rules.specs.Desk.{Desk}
use Rattle.rules.specs.Requests.{acc_at}
use Rattle.rules.specs.Allocation.{Alloc, place_of, held_at, own_entry, timer_entry, queue_of, port_of}
use Rattle.rules.specs.Allocation as alloc
use Rattle.rules.proofs.Split.{by_cases}
use Rattle.segment.specs.Layout.{list_count, data_at, data_words, free_list, read_queue, write_queue, reply_port, timer_list}
use Rattle.segment.specs.Table.{nth, data_of}
use Rattle.segment.specs.Fields.{entry_words}
use Rattle.laws.specs.Outstanding.{outstanding, req_of}
use Rattle.memory.specs.Image.{acc_of, place_acc, req_words, timer_words, rq_of, wq_of, queue_words, port_words, list_of, box_of}
use Rattle.memory.proofs.Image.{list_of-free, list_of-read, list_of-write, list_of-port, list_of-timers, box_of-free, box_of-read, box_of-write, box_of-port, box_of-timers, each-list}
use Rattle.sound.specs.Rows.{built_at, side_at}
use Rattle.sound.specs.Walks.{entry_word, place_in, free_entry}
use Rattle.decision.specs.Survey.{Each, ReadEntry, WriteEntry, TimerEntry, named, waiting_at, completed_at, timers_at, Survey}
use Rattle.sound.specs.Sound.{files_ok}
use Rattle.decision.proofs.desk.Words.{none-at, zero-words, row_is, row-nine}
use Rattle.decision.proofs.desk.MadeFacts.{blank-at}
use Rattle.decision.proofs.desk.MadeDesk.{reads_at, writes_at, entry_of, req_for, acc_for, timer_for, clock_for, alloc_for, in_file, built_for, desk_for}
use Rattle.decision.proofs.desk.MadeEntries.{each_at, map_same, map-self, map-map, named_in, entry-back}
use Rattle.decision.proofs.desk.MadePlaces.{read-mine, write-mine}
use Rattle.decision.proofs.desk.MadeRequests.{counts, port-is, said, port-said}
use Rattle.decision.proofs.desk.MadeBase.{sides, small, viewed, acc-req, own_at, timer-at, file-built, file-blank, accs-at, place-acc}

none_in : (P : ℕ → Type 0) (l : List ℕ) → Each P l → ((e : ℕ) → P e → ⊥) → l ≡ []
unfolding Each
none_in P [] a k = refl
none_in P (e ∷ l) a k = absurd (k e a.0)

timer-said : (s : List ℕ) (e : ℕ) → TimerEntry s e → data_of s e ≡ timer_words (timer_for s e)
unfolding data_of timer_words timer_for place_in entry_word entry_words
timer-said s e t =
    row-nine s (data_at e) _ _ _ _ _ _ _ _ _ refl (z 1 0 refl (omega arith)) (z 2 1 refl (omega arith)) (z 3 2 refl (omega arith)) (z 4 3 refl (omega arith))
    (z 5 4 refl (omega arith)) (z 6 5 refl (omega arith)) refl t.rest
  where
    z : (j k : ℕ) → 1 + k ≡ j → k < 6 → nth s (data_at e + j) ≡ 0
    z j k u h = let d : data_at e + j ≡ data_at e + 1 + k = omega arith in ap (nth s) d ∙ zero-words s (data_at e + 1) 6 t.middle k h

free-said : (s : List ℕ) (e : ℕ) → free_entry s e ≡ true → data_of s e ≡ replicate data_words 0
unfolding data_of free_entry
free-said s e t = row_is s (data_at e) data_words (replicate data_words 0) (length-replicate {A = ℕ} data_words 0) (λ j h. zero-words s (data_at e) data_words t j h ∙ sym (none-at data_words j))

module _ (s blocks bufs : List ℕ) (ls : List (List ℕ)) (size : length bufs ≡ places * buffer_bytes * files) (ok : files_ok s blocks 0 files ≡ true) (U : Survey s ls) where
  -- an entry of one of file f's queues
  record Queued (f e : ℕ) : Type 0 where
    place : place_in s e < files * places
    home : place_in s e / places ≡ f
    mine : entry_of s ls (place_in s e) ≡ e
    waits : 1 ≤ waiting_at s ls (place_in s e)

  read-in : (f e : ℕ) → f < files → 1 ≤ count e (get_or ls (read_queue f) []) → Queued f e
  unfolding waiting_at reads_at
  read-in f e h c =
      let r : ReadEntry s f e = each_at (ReadEntry s f) (get_or ls (read_queue f) []) (U.reads f h) e c in
      let c' : 1 ≤ count e (get_or ls (read_queue (place_in s e / places)) []) = rw r.file c in
      let n : 1 ≤ named s (place_in s e) (get_or ls (read_queue (place_in s e / places)) []) = named_in s e (get_or ls (read_queue (place_in s e / places)) []) c' in
      record {
        place = r.place;
        home = r.file;
        mine = read-mine s bufs ls U (place_in s e) r.place (sides s blocks bufs ls ok U (place_in s e) r.place) n
            ∙ entry-back s e (get_or ls (read_queue (place_in s e / places)) []) c' (omega (arith, U.single (place_in s e) r.place));
        waits = omega arith;
      }

  write-in : (f e : ℕ) → f < files → 1 ≤ count e (get_or ls (write_queue f) []) → Queued f e
  unfolding waiting_at reads_at writes_at
  write-in f e h c =
      let r : WriteEntry s f e = each_at (WriteEntry s f) (get_or ls (write_queue f) []) (U.writes f h) e c in
      let c' : 1 ≤ count e (get_or ls (write_queue (place_in s e / places)) []) = rw r.file c in
      let n : 1 ≤ named s (place_in s e) (get_or ls (write_queue (place_in s e / places)) []) = named_in s e (get_or ls (write_queue (place_in s e / places)) []) c' in
      record {
        place = r.place;
        home = r.file;
        mine = write-mine s bufs ls U (place_in s e) r.place (sides s blocks bufs ls ok U (place_in s e) r.place) (omega (arith, U.single (place_in s e) r.place)) n
            ∙ entry-back s e (get_or ls (write_queue (place_in s e / places)) []) c' (omega (arith, U.single (place_in s e) r.place));
        waits = omega arith;
      }

  -- a queue of a built file

  place-back : (f e : ℕ) → Queued f e → place_of f (in_file s e) ≡ place_in s e
  unfolding place_of in_file
  place-back f e q = omega (arith, q.home)

  queue-list : (f : ℕ) (l : List ℕ) → ((e : ℕ) → 1 ≤ count e l → Queued f e) → map (λ p. own_entry (held_at (alloc_for s ls) (place_of f p))) (map (in_file s) l) ≡ l
  queue-list f l k = map-map (λ p. own_entry (held_at (alloc_for s ls) (place_of f p))) (in_file s) l ∙ map-self _ l own
    where
      own : (e : ℕ) → 1 ≤ count e l → own_entry (held_at (alloc_for s ls) (place_of f (in_file s e))) ≡ e
      own e c =
          let q : Queued f e = k e c in
          ap (λ (i : ℕ). own_entry (held_at (alloc_for s ls) i)) (place-back f e q) ∙ own_at s blocks bufs ls ok U (place_in s e) q.place (omega (arith, q.waits)) ∙ q.mine

  out_of : (i : ℕ) → (h : i < files * places) → outstanding (req_for s bufs ls i) ≡ waiting_at s ls i + completed_at ls i
  unfolding waiting_at reads_at writes_at
  out_of i h = let (a, b, c) = counts s bufs ls i (req_for s bufs ls i) (viewed s blocks bufs ls ok U i h) in omega (arith, a, b, c)

  acc-back : (f e : ℕ) → f < files → Queued f e → req_of (acc_at (built_for s blocks bufs ls f) (in_file s e)) ≡ req_for s bufs ls (place_in s e)
  unfolding acc_at in_file
  acc-back f e h q =
      let u : places * f + place_in s e % places ≡ place_in s e = omega (arith, q.home) in
      ap req_of (accs-at s blocks bufs ls ok U f h (place_in s e % places) (omega arith) ∙ ap (acc_for s bufs ls) u) ∙ acc-req s blocks bufs ls ok U (place_in s e) q.place

  queue-box : (f : ℕ) → f < files → (l : List ℕ) → ((e : ℕ) → 1 ≤ count e l → Queued f e)
      → map (data_of s) l ≡ map (λ p. req_words (place_of f p) (req_of (acc_at (built_for s blocks bufs ls f) p))) (map (in_file s) l)
  queue-box f h l k = map_same _ _ l holds ∙ sym (map-map (λ p. req_words (place_of f p) (req_of (acc_at (built_for s blocks bufs ls f) p))) (in_file s) l)
    where
      holds : (e : ℕ) → 1 ≤ count e l → data_of s e ≡ req_words (place_of f (in_file s e)) (req_of (acc_at (built_for s blocks bufs ls f) (in_file s e)))
      holds e c =
          let q : Queued f e = k e c in
          ap (data_of s) (sym q.mine)
          ∙ said s bufs ls (place_in s e) size q.place (small s blocks bufs ls ok U (place_in s e) q.place) (req_for s bufs ls (place_in s e)) (viewed s blocks bufs ls ok U (place_in s e) q.place)
          (omega (arith, q.waits, out_of (place_in s e) q.place))
          ∙ ap₂ {C = List ℕ} (λ j r. req_words j r) (sym (place-back f e q)) (sym (acc-back f e h q))

  -- a file that is not built has none

  no_reads : (f : ℕ) → f < files → built_at s f ≡ false → get_or ls (read_queue f) [] ≡ []
  unfolding side_at
  no_reads f h t = none_in (ReadEntry s f) (get_or ls (read_queue f) []) (U.reads f h) (λ e r. shut e r)
    where
      shut : (e : ℕ) → ReadEntry s f e → ⊥
      shut e r =
          let u : place_in s e ≡ places * f + place_in s e % places = omega (arith, r.file) in
          omega (arith, ap (side_at s) u, r.side, (blank-at s blocks ok f h t).closed (place_in s e % places) (omega arith) 0 (omega arith))

  no_writes : (f : ℕ) → f < files → built_at s f ≡ false → get_or ls (write_queue f) [] ≡ []
  unfolding side_at
  no_writes f h t = none_in (WriteEntry s f) (get_or ls (write_queue f) []) (U.writes f h) (λ e r. shut e r)
    where
      shut : (e : ℕ) → WriteEntry s f e → ⊥
      shut e r =
          let u : place_in s e ≡ places * f + place_in s e % places = omega (arith, r.file) in
          omega (arith, ap (side_at s) u, r.side, (blank-at s blocks ok f h t).closed (place_in s e % places) (omega arith) 0 (omega arith))

  -- all lists
  abbrev d : Desk
  d = desk_for s blocks bufs ls

  abbrev a : Alloc
  a = alloc_for s ls

  abbrev Right : ℕ → Type 0
  Right l = (list_of d a l ≡ get_or ls l []) × (map (data_of s) (get_or ls l []) ≡ box_of d a l)

  free-right : Right free_list
  unfolding alloc_for
  free-right = (
    list_of-free d a,
    map_same (data_of s) (λ e. replicate data_words 0) (get_or ls free_list []) (λ e c. free-said s e (each_at (λ e. free_entry s e ≡ true) (get_or ls free_list []) U.free e c)) ∙ sym (box_of-free d a),
  )

  read_right : (f : ℕ) → f < files → Right (read_queue f)
  unfolding queue_of queue_words rq_of acc_of built_for
  read_right f h = by_cases (built_at s f)
      (λ t. (
        list_of-read d a f h ∙ (ap (λ (x : File). queue_of (λ b. b.rq) f x a) (file-built s blocks bufs ls ok U f h t) ∙ queue-list f (get_or ls (read_queue f) []) (λ e c. read-in f e h c)),
        queue-box f h (get_or ls (read_queue f) []) (λ e c. read-in f e h c) ∙ sym (box_of-read d a f h ∙ ap (λ (x : File). queue_words f x (rq_of x)) (file-built s blocks bufs ls ok U f h t)),
      ))
      (λ t. (
        list_of-read d a f h ∙ (ap (λ (x : File). queue_of (λ b. b.rq) f x a) (file-blank s blocks bufs ls ok U f h t) ∙ sym (no_reads f h t)),
        ap (map (data_of s)) (no_reads f h t) ∙ sym (box_of-read d a f h ∙ ap (λ (x : File). queue_words f x (rq_of x)) (file-blank s blocks bufs ls ok U f h t)),
      ))

  write-right : (f : ℕ) → f < files → Right (write_queue f)
  unfolding queue_of queue_words wq_of acc_of built_for
  write-right f h = by_cases (built_at s f)
      (λ t. (
        list_of-write d a f h ∙ (ap (λ (x : File). queue_of (λ b. b.wq) f x a) (file-built s blocks bufs ls ok U f h t) ∙ queue-list f (get_or ls (write_queue f) []) (λ e c. write-in f e h c)),
        queue-box f h (get_or ls (write_queue f) []) (λ e c. write-in f e h c) ∙ sym (box_of-write d a f h ∙ ap (λ (x : File). queue_words f x (wq_of x)) (file-built s blocks bufs ls ok U f h t)),
      ))
      (λ t. (
        list_of-write d a f h ∙ (ap (λ (x : File). queue_of (λ b. b.wq) f x a) (file-blank s blocks bufs ls ok U f h t) ∙ sym (no_writes f h t)),
        ap (map (data_of s)) (no_writes f h t) ∙ sym (box_of-write d a f h ∙ ap (λ (x : File). queue_words f x (wq_of x)) (file-blank s blocks bufs ls ok U f h t)),
      ))

  port-right : (i : ℕ) → i < files * places → Right (reply_port i)
  port-right i h = (
    list_of-port d a i h ∙ (ap (λ q. port_of q i a) req ∙ port-is s bufs ls i (req_for s bufs ls i) (viewed s blocks bufs ls ok U i h) a (λ c. own_at s blocks bufs ls ok U i h (omega arith))),
    port-said s bufs ls i size h (small s blocks bufs ls ok U i h) (req_for s bufs ls i) (viewed s blocks bufs ls ok U i h) ∙ sym (box_of-port d a i h ∙ ap (port_words i) req),
  )
    where
      req : req_of (place_acc d i) ≡ req_for s bufs ls i
      req = ap req_of (place-acc s blocks bufs ls ok U i h) ∙ acc-req s blocks bufs ls ok U i h

  timers-right : Right timer_list
  unfolding alloc.timer_list alloc_for clock_for timers_at timer_for
  timers-right = (
    list_of-timers d a ∙ (map-map (λ t. timer_entry (held_at a t.place)) (timer_for s) (get_or ls timer_list []) ∙ map-self _ (get_or ls timer_list []) own),
    map_same (data_of s) (λ e. timer_words (timer_for s e)) (get_or ls timer_list []) (λ e c. timer-said s e (each_at (TimerEntry s) (get_or ls timer_list []) U.timers e c))
        ∙ sym (box_of-timers d a ∙ map-map timer_words (timer_for s) (get_or ls timer_list [])),
  )
    where
      own : (e : ℕ) → 1 ≤ count e (get_or ls timer_list []) → timer_entry (held_at a (timer_for s e).place) ≡ e
      own e c =
          let t : TimerEntry s e = each_at (TimerEntry s) (get_or ls timer_list []) U.timers e c in
          let n : 1 ≤ timers_at s ls (place_in s e) = named_in s e (get_or ls timer_list []) c in
          let o : named s (place_in s e) (get_or ls timer_list []) ≤ 1 = omega (arith, U.timed (place_in s e) t.place, U.single (place_in s e) t.place) in
          timer-at s blocks bufs ls ok U (place_in s e) t.place n ∙ entry-back s e (get_or ls timer_list []) c o

  pub lists-right : (l : ℕ) → l < list_count → (list_of d a l ≡ get_or ls l []) × (map (data_of s) (get_or ls l []) ≡ box_of d a l)
  lists-right = each-list Right free-right read_right write-right port-right timers-right

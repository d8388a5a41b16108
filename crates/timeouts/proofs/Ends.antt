-- Time has passed: the memories stand for the desk and the allocation that the rules have.
use Prim.Native.Nat.{ℕ, ◌*◌, ◌/◌, ◌%◌, ◌<◌}
use mathlib.Core.Path.{◌≡◌, refl, sym, ap, ◌∙◌}
use mathlib.Core.List.{List, [], map}
use native.Mathlib.Omega.{arith}
use native.Mathlib.Decide.{ℕ_discrete}
use lib.ListN.{get_or, set, replicate}
use lib.Seq.{get_or-set_same, get_or-set_other}
use Rattle.rules.specs.Limits.{files, places, entries}
use Rattle.rules.specs.State.{Built, File, unbuilt, built}
use Rattle.rules.specs.Requests.{with_accs, with_queues, with_timers, alter_acc, say, requeue, leave, finish, with_buffers, request}
use Rattle.rules.specs.Reply.{hushed}
use Rattle.rules.specs.Time.{due, fail_all, minus, lessen, lapse, file_time}
use Rattle.rules.specs.Desk.{Desk, file_of, desk_time}
use Rattle.rules.specs.Allocation.{Alloc, with_clock, end_all, alloc_time, port_of}
use Rattle.laws.specs.Runs.{OnFile}
use Rattle.laws.specs.Changes.{Finishes}
use Rattle.laws.specs.Entries.{timers_of}
use Rattle.laws.specs.Midst.{here}
use Rattle.laws.proofs.Walk.{fails-all}
use Rattle.laws.proofs.Sieve.{here-due}
use Rattle.laws.proofs.EightFiles.{file-time}
use Rattle.segment.specs.Layout.{list_count, data_words, row_count, timer_list}
use Rattle.ports.specs.Lists.{Boxes}
use Rattle.memory.specs.Memories.{memories}
use Rattle.memory.specs.Image.{acc_of, place_acc, timer_words, file_words, place_words, row_of, list_of, port_words, box_of, lists_of, boxes_of}
use Rattle.laws.specs.Outstanding.{req_of}
use Rattle.memory.specs.Stands.{Segment, FileBytes, Stands}
use Rattle.words.specs.Word.{Bytes}
use Rattle.memory.specs.Fine.{StandsFor}
use Rattle.memory.proofs.Image.{row_of-file, row_of-place, each_row, each-list, list_of-free, list_of-read, list_of-write, list_of-port, list_of-timers, box_of-free, box_of-read, box_of-write, box_of-port, box_of-timers}
use Rattle.memory.proofs.Boxes.{get_or-lists_of, get_or-boxes_of, boxes-segment}
use Rattle.midst.specs.Seg.{Seg}
use Rattle.timeouts.specs.Late.{less_all}
use Rattle.timeouts.specs.Stage.{fail_file, Quiet}
use Rattle.timeouts.proofs.Less.{less-walk}
use Rattle.timeouts.proofs.Firsts.{few-timers}
use Rattle.timeouts.proofs.Shows.{bare, Shown, shown, shown-words, shown-acc, shown-reads, shown-writes, shown-read-words, shown-write-words, bare-time, queue-clock, port-clock, free-clock, clock-clock, list-clock}

-- failing changes no store
store_same : (l : List ℕ) (b : Built) → (fail_all 22 l b).store ≡ b.store
store_same l b = fails-all (λ c. c.store ≡ b.store) same 22 l b refl (omega arith)
  where
    same : Finishes (λ c. c.store ≡ b.store)
    same p st q a r c e i k h = unfold finish say leave with_timers requeue request with_buffers alter_acc with_accs with_queues in h

time-bytes : (n : ℕ) (l : List ℕ) (y : File) (share old new : List ℕ) → l ≡ due n (timers_of y) → FileBytes y share old
    → OnFile (λ b. new ≡ b.buffers) (fail_file l y) → FileBytes (file_time n y) share new
unfolding FileBytes OnFile fail_file file_time hushed lapse lessen with_timers timers_of
time-bytes n l unbuilt share old new e h k = tt
time-bytes n l (built b) share old new e h k = (h.0 ∙ sym (ap (λ s. s.share) (store_same (due n b.timers) b)), rw e at k)

module _ {n : ℕ} {xs₀ blocks ys₀ : List ℕ} {d : Desk} {s : Alloc} {xs ys : List ℕ} (S : StandsFor (memories xs₀ blocks ys₀) d s) (Q : Quiet n ys₀ d s xs ys) where
  -- the allocation after the due requests end; `u` is that after the others lose n seconds
  abbrev t : Alloc
  t = end_all (due n s.clock) s

  abbrev u : Alloc
  u = with_clock (map (minus n) t.clock) t

  abbrev then : Desk
  then = desk_time n d

  abbrev B : Seg xs Q.desk t row_count
  B = Q.stage.segment

  due-here : (f : ℕ) → f < files → here f (due n s.clock) ≡ due n (timers_of (file_of d f))
  due-here f h = here-due n f s.clock ∙ ap (due n) (S.agreed.agrees f h).clock

  same : (f : ℕ) → f < files → bare (file_of Q.desk f) ≡ bare (file_of then f)
  same f h = ap bare (Q.each f h) ∙ bare-time n _ (file_of d f) (due-here f h) ∙ ap bare (sym (file-time n d f))

  same_by : {A : Type 0} (k : File → A) → Shown k → (f : ℕ) → f < files → k (file_of Q.desk f) ≡ k (file_of then f)
  same_by k h f l = shown k h (file_of Q.desk f) (file_of then f) (same f l)

  same_place : (i : ℕ) → i < files * places → place_acc Q.desk i ≡ place_acc then i
  unfolding place_acc
  same_place i h = same_by (λ y. acc_of y (i % places)) (shown-acc (i % places)) (i / places) (omega arith)

  same-list : (l : ℕ) → l < list_count → list_of Q.desk t l ≡ list_of then u l
  same-list =
      each-list (λ l. list_of Q.desk t l ≡ list_of then u l)
      (list_of-free Q.desk t ∙ sym (list_of-free then u ∙ free-clock _ t))
      (λ f h. list_of-read Q.desk t f h ∙ same_by _ (shown-reads f t) f h ∙ sym (list_of-read then u f h ∙ queue-clock _ t (λ b. b.rq) f (file_of then f)))
      (λ f h. list_of-write Q.desk t f h ∙ same_by _ (shown-writes f t) f h ∙ sym (list_of-write then u f h ∙ queue-clock _ t (λ b. b.wq) f (file_of then f)))
      (λ i h. list_of-port Q.desk t i h ∙ ap (λ o. port_of (req_of o) i t) (same_place i h) ∙ sym (list_of-port then u i h ∙ port-clock _ t (req_of (place_acc then i)) i))
      (list_of-timers Q.desk t ∙ sym (list_of-timers then u ∙ list-clock n t))

  same-box : (l : ℕ) → l < list_count → (l ≡ timer_list → ⊥) → box_of Q.desk t l ≡ box_of then u l
  same-box =
      each-list (λ l. (l ≡ timer_list → ⊥) → box_of Q.desk t l ≡ box_of then u l)
      (λ _. box_of-free Q.desk t ∙ sym (box_of-free then u ∙ ap (map (λ e. replicate data_words 0)) (free-clock _ t)))
      (λ f h _. box_of-read Q.desk t f h ∙ same_by _ (shown-read-words f) f h ∙ sym (box_of-read then u f h))
      (λ f h _. box_of-write Q.desk t f h ∙ same_by _ (shown-write-words f) f h ∙ sym (box_of-write then u f h))
      (λ i h _. box_of-port Q.desk t i h ∙ ap (λ o. port_words i (req_of o)) (same_place i h) ∙ sym (box_of-port then u i h))
      (λ z. absurd (z refl))

  same_row : (i : ℕ) → i < row_count → row_of Q.desk i ≡ row_of then i
  same_row =
      each_row (λ i. row_of Q.desk i ≡ row_of then i)
      (λ f h. row_of-file Q.desk f h ∙ same_by file_words shown-words f h ∙ sym (row_of-file then f h))
      (λ i h. row_of-place Q.desk i ∙ ap place_words (same_place i h) ∙ sym (row_of-place then i))

  boxes-timers : get_or (boxes_of Q.desk t) timer_list [] ≡ map timer_words t.clock
  boxes-timers = get_or-boxes_of Q.desk t timer_list (omega arith) ∙ box_of-timers Q.desk t

  end-boxes : Boxes (less_all xs timer_list n entries) [] [] (lists_of Q.desk t) (set (boxes_of Q.desk t) timer_list (map timer_words (map (minus n) t.clock))) B.rows
  end-boxes = less-walk n entries [] t.clock B.boxes boxes-timers (few-timers B)

  end-segment : Bytes (less_all xs timer_list n entries) → Segment (less_all xs timer_list n entries) then u
  end-segment bytes =
      boxes-segment then u _ _ _ _ _ bytes end-boxes
      (λ l h. get_or-lists_of Q.desk t l h ∙ same-list l h)
      (λ l h. box l h (ℕ_discrete l timer_list))
      (λ i h. B.same i h (λ z. omega arith) ∙ same_row i h)
    where
      m : List (List (List ℕ))
      m = boxes_of Q.desk t

      box : (l : ℕ) → l < list_count → Dec (l ≡ timer_list) → get_or (set m timer_list (map timer_words (map (minus n) t.clock))) l [] ≡ box_of then u l
      box l h (yes z) =
          rw z (get_or-set_same m timer_list _ [] (omega (arith, B.boxes.sized)) ∙ sym (box_of-timers then u ∙ ap (map timer_words) (clock-clock _ t)))
      box l h (no z) = get_or-set_other m timer_list l _ [] z ∙ get_or-boxes_of Q.desk t l h ∙ same-box l h z

  -- zs is the segment after the walk
  pub time-stands : (zs : List ℕ) → zs ≡ less_all xs timer_list n entries → Bytes zs → Bytes ys → Stands (memories zs blocks ys) then (alloc_time n s)
  unfolding alloc_time
  time-stands zs e bx by = record {
    segment = rw e (end-segment (rw e at bx));
    bodies = record {
      blocks-bytes = S.stands.bodies.blocks-bytes;
      buffers-bytes = by;
      blocks-size = S.stands.bodies.blocks-size;
      buffers-size = Q.stage.size;
      each = λ f h. rw (file-time n d f)
          (time-bytes n (here f (due n s.clock)) (file_of d f) _ _ _ (due-here f h) (S.stands.bodies.each f h) (rw (Q.each f h) at (Q.stage.buffers f h)));
    };
  }

-- The list, the contents and the row of a known number, without the tests that find them; and each list, and each row, is of a known number.
use Prim.Native.Nat.{ℕ, ◌+◌, ◌*◌, ◌-◌, ◌/◌, ◌%◌, ◌<◌}
use mathlib.Core.Path.{◌≡◌, refl, ◌∙◌}
use mathlib.Core.List.{map}
use mathlib.Core.Option.{Option, none, some}
use native.Mathlib.Omega.{arith}
use native.Mathlib.Decide.{dec_lt}
use lib.ListN.{get_or, replicate, get_or-replicate}
use lib.Seq.{get_or-append-add}
use borrow.Author.Tests.{lt-ltb, le-ltb}
use Rattle.segment.specs.Layout.{read_queues, write_queues, reply_ports, list_count, row_count, data_words, place_fields, place_spare, place_width, free_list, read_queue, write_queue, reply_port, file_row, place_row}
use Rattle.segment.specs.Layout as layout
use Rattle.segment.proofs.Apart as apart
use Rattle.rules.specs.Limits.{files, places}
use Rattle.rules.specs.State.{Acc}
use Rattle.rules.specs.Desk.{Desk, file_of}
use Rattle.rules.specs.Allocation.{Alloc, place_of, queue_of, port_of, timer_list}
use Rattle.memory.specs.Image.{acc_of, place_acc, timer_words, file_words, acc_words, place_words, row_of, rq_of, wq_of, at_list, list_of, queue_words, port_words, box_of}
use Rattle.laws.specs.Outstanding.{req_of}

-- place p of file f
pub place_acc-at : (d : Desk) (f p : ℕ) → p < places → place_acc d (8 * f + p) ≡ acc_of (file_of d f) p
unfolding place_acc
place_acc-at d f p h =
    let q : (8 * f + p) / 8 ≡ f = omega arith in
    let r : (8 * f + p) % 8 ≡ p = omega arith in
    rw (q, r)

pub place_acc-of : (d : Desk) (f p : ℕ) → p < places → place_acc d (place_of f p) ≡ acc_of (file_of d f) p
unfolding place_of
place_acc-of d f p h = place_acc-at d f p h

-- rows

pub row_of-file : (d : Desk) (f : ℕ) → f < files → row_of d (file_row f) ≡ file_words (file_of d f)
unfolding row_of
row_of-file d f h = rw (lt-ltb f files h)

pub row_of-place : (d : Desk) (i : ℕ) → row_of d (place_row i) ≡ place_words (place_acc d i)
unfolding row_of
row_of-place d i =
    let e : place_row i - files ≡ i = omega arith in
    rw (le-ltb (place_row i) files (omega arith), e)

pub row_of-acc : (d : Desk) (f p : ℕ) → p < places → row_of d (place_row (place_of f p)) ≡ place_words (acc_of (file_of d f) p)
row_of-acc d f p h = rw (row_of-place d (place_of f p), place_acc-of d f p h)

-- the words to spare
pub spare-zero : (o : Option Acc) (j : ℕ) → j < place_spare → get_or (place_words o) (place_fields + j) 0 ≡ 0
unfolding place_words
spare-zero none j h = get_or-replicate place_width (place_fields + j) 0 0 (omega arith)
spare-zero (some a) j h = get_or-append-add (acc_words a) (replicate place_spare 0) j 0 ∙ get_or-replicate place_spare j 0 0 h

pub each_row : (P : ℕ → Type 0) → ((f : ℕ) → f < files → P (file_row f)) → ((i : ℕ) → i < files * places → P (place_row i)) → (i : ℕ) → i < row_count → P i
each_row P file place = apart.each_row (λ i. i < row_count → P i) (λ f h _. file f h) (λ i h. place i (omega arith))

-- lists

module _ {A : Type 0} (free : A) (reads writes port : ℕ → A) (timers : A) where
  at : ℕ → A
  at l = at_list free reads writes port timers l

  at_read : (f : ℕ) → f < files → at (read_queue f) ≡ reads f
  unfolding at at_list
  at_read f h =
      let e : read_queue f - read_queues ≡ f = omega arith in
      rw (le-ltb (read_queue f) read_queues (omega arith), lt-ltb (read_queue f) write_queues (omega arith), e)

  at-write : (f : ℕ) → f < files → at (write_queue f) ≡ writes f
  unfolding at at_list
  at-write f h =
      let e : write_queue f - write_queues ≡ f = omega arith in
      rw (le-ltb (write_queue f) read_queues (omega arith), le-ltb (write_queue f) write_queues (omega arith), lt-ltb (write_queue f) reply_ports (omega arith), e)

  at-port : (i : ℕ) → i < files * places → at (reply_port i) ≡ port i
  unfolding at at_list
  at-port i h =
      let e : reply_port i - reply_ports ≡ i = omega arith in
      rw (le-ltb (reply_port i) read_queues (omega arith), le-ltb (reply_port i) write_queues (omega arith), le-ltb (reply_port i) reply_ports (omega arith), lt-ltb (reply_port i) layout.timer_list (omega arith), e)

module _ (d : Desk) (s : Alloc) where
  pub list_of-free : list_of d s free_list ≡ s.free
  unfolding list_of at_list
  list_of-free = refl

  pub list_of-read : (f : ℕ) → f < files → list_of d s (read_queue f) ≡ queue_of (λ b. b.rq) f (file_of d f) s
  unfolding list_of at
  list_of-read f h = at_read _ _ _ _ _ f h

  pub list_of-write : (f : ℕ) → f < files → list_of d s (write_queue f) ≡ queue_of (λ b. b.wq) f (file_of d f) s
  unfolding list_of at
  list_of-write f h = at-write _ _ _ _ _ f h

  pub list_of-port : (i : ℕ) → i < files * places → list_of d s (reply_port i) ≡ port_of (req_of (place_acc d i)) i s
  unfolding list_of at
  list_of-port i h = at-port _ _ _ _ _ i h

  pub list_of-timers : list_of d s layout.timer_list ≡ timer_list s
  unfolding list_of at_list
  list_of-timers = refl

  pub box_of-free : box_of d s free_list ≡ map (λ e. replicate data_words 0) s.free
  unfolding box_of at_list
  box_of-free = refl

  pub box_of-read : (f : ℕ) → f < files → box_of d s (read_queue f) ≡ queue_words f (file_of d f) (rq_of (file_of d f))
  unfolding box_of at
  box_of-read f h = at_read _ _ _ _ _ f h

  pub box_of-write : (f : ℕ) → f < files → box_of d s (write_queue f) ≡ queue_words f (file_of d f) (wq_of (file_of d f))
  unfolding box_of at
  box_of-write f h = at-write _ _ _ _ _ f h

  pub box_of-port : (i : ℕ) → i < files * places → box_of d s (reply_port i) ≡ port_words i (req_of (place_acc d i))
  unfolding box_of at
  box_of-port i h = at-port _ _ _ _ _ i h

  pub box_of-timers : box_of d s layout.timer_list ≡ map timer_words s.clock
  unfolding box_of at_list
  box_of-timers = refl

pub each-list : (P : ℕ → Type 0) → P free_list → ((f : ℕ) → f < files → P (read_queue f)) → ((f : ℕ) → f < files → P (write_queue f))
    → ((i : ℕ) → i < files * places → P (reply_port i)) → P layout.timer_list → (l : ℕ) → l < list_count → P l
each-list P free read write port timers l h = go (dec_lt l read_queues) (dec_lt l write_queues) (dec_lt l reply_ports) (dec_lt l layout.timer_list)
  where
    go : Dec (l < read_queues) → Dec (l < write_queues) → Dec (l < reply_ports) → Dec (l < layout.timer_list) → P l
    go (yes a) b c e = let z : l ≡ free_list = omega arith in rw z free
    go (no a) (yes b) c e = let f : ℕ = l - read_queues in let z : l ≡ read_queue f = omega arith in rw z (read f (omega arith))
    go (no a) (no b) (yes c) e = let f : ℕ = l - write_queues in let z : l ≡ write_queue f = omega arith in rw z (write f (omega arith))
    go (no a) (no b) (no c) (yes e) = let i : ℕ = l - reply_ports in let z : l ≡ reply_port i = omega arith in rw z (port i (omega arith))
    go (no a) (no b) (no c) (no e) = let z : l ≡ layout.timer_list = omega arith in rw z timers

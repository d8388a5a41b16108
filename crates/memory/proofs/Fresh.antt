-- The memories of a fresh desk stand for the fresh desk.
use Prim.Native.Nat.{ℕ, zero, suc, ◌+◌, ◌-◌, ◌*◌, ◌/◌, ◌%◌, ◌≤◌, ◌<◌}
use mathlib.Core.Path.{◌≡◌, refl, sym, ap, ap₂, ◌∙◌}
use mathlib.Core.Bool.{cond}
use mathlib.Core.List.{List, [], ◌∷◌, map}
use mathlib.Core.Option.{none}
use native.Mathlib.Omega.{arith}
use native.Mathlib.Decide.{ℕ_discrete, dec_lt}
use lib.Dec.{ltb, eqb}
use lib.ListN.{length, get_or, replicate}
use borrow.Author.Tests.{lt-ltb, le-ltb, eq-eqb, ne_eqb, ltb-true}
use Rattle.occurrences.specs.Count.{bit, count}
use Rattle.words.specs.Word.{zeros, Bytes}
use Rattle.words.proofs.Runs.{length-zeros, part-zeros}
use Rattle.rules.proofs.Split.{bothc}
use Rattle.segment.specs.Layout.{read_queues, list_count, free_list, nil, entry_width, link_at, data_at, data_words, read_queue, write_queue, reply_port, file_width, place_width, file_rows, segment_words, file_row_at, place_row_at, row_count, row_at, row_width}
use Rattle.segment.specs.Layout as layout
use Rattle.segment.specs.Table.{nth, row, data_of}
use Rattle.segment.proofs.Apart.{words-file, words-place}
use Rattle.ports.specs.Lists.{Chain}
use Rattle.rules.specs.Limits.{files, places, entries, share_bytes, buffer_bytes}
use Rattle.rules.specs.Desk.{fresh_desk}
use Rattle.rules.specs.Allocation.{up_from, fresh_alloc, queue_of, port_of, timer_list}
use Rattle.memory.specs.Image.{acc_of, place_acc, file_words, place_words, row_of, rq_of, wq_of, list_of, queue_words, port_words, box_of}
use Rattle.laws.specs.Outstanding.{req_of}
use Rattle.laws.proofs.EightFiles.{fresh-file}
use Rattle.memory.specs.Stands.{Segment, buffers_at, FileBytes, Bodies, Stands}
use Rattle.memory.specs.Covers.{Covers, Blank}
use Rattle.memory.specs.Fresh.{table, fresh_link, fresh_word, fresh_segment, fresh_blocks, fresh_buffers, fresh_memories}
use Rattle.memory.proofs.Image.{row_of-file, row_of-place, each_row, list_of-free, list_of-read, list_of-write, list_of-port, list_of-timers, box_of-free, box_of-read, box_of-write, box_of-port, box_of-timers, each-list}

-- a table of words

length-table : (n : ℕ) (w : ℕ → ℕ) → length (table n w) ≡ 2 * n
unfolding table
length-table zero w = refl
length-table (suc n) w = omega (arith, length-table n (λ k. w (suc k)))

nth-table : (n : ℕ) (w : ℕ → ℕ) (k : ℕ) → k < n → nth (table n w) k ≡ w k
unfolding table nth
nth-table zero w k h = absurd (omega arith)
nth-table (suc n) w zero h = omega arith
nth-table (suc n) w (suc k) h =
    let e : 2 * suc k ≡ suc (suc (2 * k)) = omega arith in
    let g : 2 * suc k + 1 ≡ suc (suc (2 * k + 1)) = omega arith in
    rw (g, e) (nth-table n (λ i. w (suc i)) k (omega arith))

bytes-table : (n : ℕ) (w : ℕ → ℕ) → ((k : ℕ) → w k < 65536) → Bytes (table n w)
unfolding table Bytes
bytes-table zero w h i = omega arith
bytes-table (suc n) w h zero = omega (arith, h 0)
bytes-table (suc n) w h (suc zero) = omega arith
bytes-table (suc n) w h (suc (suc i)) = bytes-table n (λ k. w (suc k)) (λ k. h (suc k)) i

bytes-zeros : (n : ℕ) → Bytes (zeros n)
unfolding Bytes zeros
bytes-zeros n i = go n i
  where
    go : (m j : ℕ) → get_or (replicate m 0) j 0 < 256
    go zero j = omega arith
    go (suc m) zero = omega arith
    go (suc m) (suc j) = go m j

-- the words of the fresh segment

fresh_link-word : (e : ℕ) → fresh_link e < 65536
unfolding fresh_link
fresh_link-word e = bothc (λ v. v < 65536) (ltb (suc e) entries) (λ t. omega (arith, ltb-true (suc e) entries t)) (λ _. omega arith)

fresh_word-word : (k : ℕ) → fresh_word k < 65536
unfolding fresh_word
fresh_word-word k =
    bothc (λ v. v < 65536) (ltb k read_queues) (λ _. omega arith)
    (λ _. bothc (λ v. v < 65536) (ltb k list_count) (λ _. omega arith)
    (λ _. bothc (λ v. v < 65536) (ltb k file_rows) (λ _. bothc (λ v. v < 65536) (eqb ((k - list_count) % entry_width) 0) (λ _. fresh_link-word ((k - list_count) / entry_width)) (λ _. omega arith))
    (λ _. omega arith)))

pub nth-fresh : (k : ℕ) → k < segment_words → nth fresh_segment k ≡ fresh_word k
unfolding fresh_segment
nth-fresh k h = nth-table segment_words fresh_word k h

fresh-head : (l : ℕ) → 0 < l → l < list_count → nth fresh_segment l ≡ nil
unfolding fresh_word
fresh-head l a b = nth-fresh l (omega arith) ∙ rw (le-ltb l read_queues a, lt-ltb l list_count b)

fresh-link : (e : ℕ) → e < entries → nth fresh_segment (link_at e) ≡ fresh_link e
unfolding fresh_word
fresh-link e h =
    let z : (link_at e - list_count) % entry_width ≡ 0 = omega arith in
    let q : (link_at e - list_count) / entry_width ≡ e = omega arith in
    nth-fresh (link_at e) (omega arith)
    ∙ rw (le-ltb (link_at e) read_queues (omega arith), le-ltb (link_at e) list_count (omega arith), lt-ltb (link_at e) file_rows (omega arith), z, q)

fresh-zero : (k : ℕ) → list_count ≤ k → k < segment_words → (k < file_rows → (k - list_count) % entry_width ≡ 0 → ⊥) → nth fresh_segment k ≡ 0
fresh-zero k a b c = nth-fresh k b ∙ go (dec_lt k file_rows)
  where
    go : Dec (k < file_rows) → fresh_word k ≡ 0
    go (yes h) = unfold fresh_word in rw (le-ltb k read_queues (omega arith), le-ltb k list_count a, lt-ltb k file_rows h, ne_eqb ((k - list_count) % entry_width) 0 (c h))
    go (no h) = unfold fresh_word in rw (le-ltb k read_queues (omega arith), le-ltb k list_count a, le-ltb k file_rows (omega arith))

row_zero : (s : List ℕ) (k n : ℕ) → ((j : ℕ) → k ≤ j → j < k + n → nth s j ≡ 0) → row s k n ≡ replicate n 0
unfolding row
row_zero s k zero f = refl
row_zero s k (suc n) f = ap₂ {C = List ℕ} (λ x l. x ∷ l) (f k (omega arith) (omega arith)) (row_zero s (suc k) n (λ j a b. f j (omega arith) (omega arith)))

fresh-data : (e : ℕ) → e < entries → data_of fresh_segment e ≡ replicate data_words 0
unfolding data_of
fresh-data e h = row_zero fresh_segment (data_at e) data_words (λ j a b. fresh-zero j (omega arith) (omega arith) (λ _ u. omega arith))

fresh-row : (k n : ℕ) → file_rows ≤ k → k + n ≤ segment_words → row fresh_segment k n ≡ replicate n 0
fresh-row k n a b = row_zero fresh_segment k n (λ j c d. fresh-zero j (omega arith) (omega arith) (λ h _. omega arith))

-- the free list: n entries starting at e

up-chain : (n e p : ℕ) → e + n ≡ entries → nth fresh_segment p ≡ cond (ltb e entries) e nil → Chain fresh_segment p (up_from e n)
unfolding up_from Chain
up-chain zero e p q h = h ∙ rw (le-ltb e entries (omega arith))
up-chain (suc n) e p q h =
    (h ∙ rw (lt-ltb e entries (omega arith)), omega arith, up-chain n (suc e) (link_at e) (omega arith) (fresh-link e (omega arith) ∙ (unfold fresh_link in refl)))

up-data : (n e : ℕ) → e + n ≡ entries → map (data_of fresh_segment) (up_from e n) ≡ map (λ z. replicate data_words 0) (up_from e n)
unfolding up_from
up-data zero e q = refl
up-data (suc n) e q = ap₂ {C = List (List ℕ)} (λ x l. x ∷ l) (fresh-data e (omega arith)) (up-data n (suc e) (omega arith))

-- the fresh desk: no file built

fresh-acc : (i : ℕ) → place_acc fresh_desk i ≡ none
unfolding place_acc acc_of
fresh-acc i = rw (fresh-file (i / places))

-- each list but the free list is empty

Empty : ℕ → Type 0
Empty l = (list_of fresh_desk fresh_alloc l ≡ []) × (box_of fresh_desk fresh_alloc l ≡ [])

read_none : (f : ℕ) → f < files → Empty (read_queue f)
unfolding Empty queue_of queue_words rq_of
read_none f h = (list_of-read fresh_desk fresh_alloc f h ∙ rw (fresh-file f), box_of-read fresh_desk fresh_alloc f h ∙ rw (fresh-file f))

write-none : (f : ℕ) → f < files → Empty (write_queue f)
unfolding Empty queue_of queue_words wq_of
write-none f h = (list_of-write fresh_desk fresh_alloc f h ∙ rw (fresh-file f), box_of-write fresh_desk fresh_alloc f h ∙ rw (fresh-file f))

port-none : (i : ℕ) → i < files * places → Empty (reply_port i)
unfolding Empty port_of port_words req_of
port-none i h = (list_of-port fresh_desk fresh_alloc i h ∙ rw (fresh-acc i), box_of-port fresh_desk fresh_alloc i h ∙ rw (fresh-acc i))

timers-none : Empty layout.timer_list
unfolding Empty timer_list fresh_alloc
timers-none = (list_of-timers fresh_desk fresh_alloc, box_of-timers fresh_desk fresh_alloc)

list-none : (l : ℕ) → 0 < l → l < list_count → Empty l
list-none l a b =
    each-list (λ l. 0 < l → Empty l) (λ h. absurd (omega arith)) (λ f h _. read_none f h) (λ f h _. write-none f h) (λ i h _. port-none i h)
    (λ _. timers-none) l b a

-- the memories stand for it

module _ (l : ℕ) (h : l < list_count) where
  fresh-chain : Dec (l ≡ 0) → Chain fresh_segment l (list_of fresh_desk fresh_alloc l)
  unfolding Empty Chain
  fresh-chain (yes e) =
      rw (e, list_of-free fresh_desk fresh_alloc)
      (unfold fresh_alloc in up-chain entries 0 0 (omega arith) (nth-fresh 0 (omega arith) ∙ (unfold fresh_word in refl)))
  fresh-chain (no d) = rw (list-none l (omega arith) h).0 (fresh-head l (omega arith) h)

  fresh-box : Dec (l ≡ 0) → map (data_of fresh_segment) (list_of fresh_desk fresh_alloc l) ≡ box_of fresh_desk fresh_alloc l
  unfolding Empty
  fresh-box (yes e) = rw (e, list_of-free fresh_desk fresh_alloc, box_of-free fresh_desk fresh_alloc) (unfold fresh_alloc in up-data entries 0 (omega arith))
  fresh-box (no d) = rw ((list-none l (omega arith) h).0, (list-none l (omega arith) h).1)

fresh-rows : (i : ℕ) → i < row_count → row fresh_segment (row_at i) (row_width i) ≡ row_of fresh_desk i
fresh-rows =
    each_row (λ i. row fresh_segment (row_at i) (row_width i) ≡ row_of fresh_desk i)
    (λ f k. words-file fresh_segment f k ∙ fresh-row (file_row_at f) file_width (omega arith) (omega arith) ∙ sym (row_of-file fresh_desk f k ∙ (rw (fresh-file f) (unfold file_words in refl))))
    (λ j k. words-place fresh_segment j ∙ fresh-row (place_row_at j) place_width (omega arith) (omega arith) ∙ sym (row_of-place fresh_desk j ∙ (rw (fresh-acc j) (unfold place_words in refl))))

pub fresh-segment : Segment fresh_segment fresh_desk fresh_alloc
fresh-segment = record {
  bytes = unfold fresh_segment in bytes-table segment_words fresh_word fresh_word-word;
  size = unfold fresh_segment in length-table segment_words fresh_word;
  chains = λ l h. fresh-chain l h (ℕ_discrete l 0);
  boxes = λ l h. fresh-box l h (ℕ_discrete l 0);
  rows = fresh-rows;
}

pub fresh-bodies : Bodies fresh_memories fresh_desk
fresh-bodies = record {
  blocks-bytes = unfold fresh_blocks in bytes-zeros (share_bytes * files);
  buffers-bytes = unfold fresh_buffers in bytes-zeros (places * buffer_bytes * files);
  blocks-size = unfold fresh_blocks in length-zeros (share_bytes * files);
  buffers-size = unfold fresh_buffers in length-zeros (places * buffer_bytes * files);
  each = λ f h. rw (fresh-file f) (unfold FileBytes in tt);
}

pub fresh-stands : Stands fresh_memories fresh_desk fresh_alloc
fresh-stands = record { segment = fresh-segment; bodies = fresh-bodies }

-- and they are the only ones, the files that are not built being zero

up-count : (n e x : ℕ) → e ≤ x → x < e + n → 1 ≤ count x (up_from e n)
unfolding up_from count
up-count zero e x h k = absurd (omega arith)
up-count (suc n) e x h k = go (ℕ_discrete e x) (λ i. up-count n (suc e) x i (omega arith))
  where
    go : Dec (e ≡ x) → (suc e ≤ x → 1 ≤ count x (up_from (suc e) n)) → 1 ≤ bit (eqb e x) + count x (up_from (suc e) n)
    go (yes u) r = omega (arith, ap bit (eq-eqb e x u))
    go (no u) r = omega (arith, r (omega arith))

pub fresh-covers : Covers fresh_desk fresh_alloc
fresh-covers e h = (free_list, omega arith, rw (list_of-free fresh_desk fresh_alloc) (unfold fresh_alloc in up-count entries 0 e (omega arith) (omega arith)))

pub fresh-blank : Blank fresh_desk fresh_memories
unfolding buffers_at fresh_blocks fresh_buffers
fresh-blank f h e = (
  part-zeros share_bytes (share_bytes * f) (share_bytes * files) (omega arith),
  part-zeros (places * buffer_bytes) (places * buffer_bytes * f) (places * buffer_bytes * files) (omega arith),
)

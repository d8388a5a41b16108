-- List by list: what the survey says of a file's queues, of a port, of the free list and of the timers, where the memories stand for a desk.
use Prim.Native.Nat.{ℕ, ◌+◌, ◌*◌, ◌≤◌, ◌<◌}
use mathlib.Core.Bool.{true}
use mathlib.Core.Path.{◌≡◌, refl, sym, ap, ap₂, ◌∙◌}
use mathlib.Core.List.{List, [], ◌∷◌, map}
use native.Mathlib.Omega.{arith}
use native.Mathlib.Decide.{dec_lt}
use lib.ListN.{length, replicate}
use Rattle.occurrences.specs.Count.{count}
use Rattle.occurrences.proofs.Counts.{bit-eq}
use Rattle.rules.specs.Limits.{files, places}
use Rattle.rules.specs.State.{Req, idle, reading, writing, read_done, write_done, Timer, Built, File, unbuilt, built}
use Rattle.rules.specs.Requests.{acc_at}
use Rattle.rules.specs.Allocation.{Alloc, place_of, held_at, own_entry, queue_of, port_of}
use Rattle.segment.specs.Layout.{data_words, desk_places}
use Rattle.segment.specs.Table.{data_of}
use Rattle.laws.specs.Outstanding.{req_at, waits_read, waits_write, uncollected, req_of}
use Rattle.laws.specs.Runs.{OnFile}
use Rattle.laws.specs.Counts.{places_of, count_t}
use Rattle.laws.specs.Timers.{Sorted}
use Rattle.memory.specs.Image.{acc_of, req_words, timer_words, rq_of, wq_of, queue_words, port_words}
use Rattle.sound.specs.Walks.{entry_word, place_in, free_entry}
use Rattle.decision.specs.Survey.{Each, ReadEntry, WriteEntry, PortEntry, TimerEntry, InOrder, named}
use Rattle.decision.proofs.desk.DeskEntries.{free-entry, timer-entry}
use Rattle.decision.proofs.desk.DeskQueues.{each-queue, named-queue, Facts, read_of, write-of, done-of}

-- the free list

pub free-pass : (s l : List ℕ) → map (data_of s) l ≡ map (λ e. replicate data_words 0) l → Each (λ e. free_entry s e ≡ true) l
unfolding Each
free-pass s [] q = tt
free-pass s (e ∷ l) q = (free-entry s e (cc), free-pass s l (cc))

-- the timers

module _ (s : List ℕ) (g : Timer → ℕ) where
  Timed : ℕ → List Timer → Type 0
  Timed lo ts = Each (TimerEntry s) (map g ts) × InOrder s lo (map g ts) × (map (place_in s) (map g ts) ≡ places_of ts)

  timed-cons : (lo : ℕ) (t : Timer) (ts : List Timer) → lo ≤ t.left → TimerEntry s (g t) × (place_in s (g t) ≡ t.place) × (entry_word s (g t) 7 ≡ t.left)
      → Timed t.left ts → Timed lo (t ∷ ts)
  unfolding Timed Each InOrder places_of
  timed-cons lo t ts h (e, p, l) (a, b, c) = ((e, a), (rw l h, rw l b), ap₂ {C = List ℕ} (λ x y. x ∷ y) p c)

  timed-pass : (lo : ℕ) (ts : List Timer) → Sorted lo ts → ((i : ℕ) → files * places ≤ i → count_t i ts ≡ 0) → map (data_of s) (map g ts) ≡ map timer_words ts → Timed lo ts
  unfolding Timed Each InOrder places_of Sorted count_t count
  timed-pass lo [] o w q = (tt, tt, refl)
  timed-pass lo (t ∷ ts) o w q =
      timed-cons lo t ts o.0 (timer-entry s (g t) t (low (dec_lt t.place desk_places)) (cc)) (timed-pass t.left ts o.1 (λ i h. omega (arith, w i h)) (cc))
    where
      low : Dec (t.place < desk_places) → t.place < files * places
      low (yes h) = h
      low (no h) = absurd (omega (arith, w t.place (omega arith), bit-eq t.place t.place refl))

  pub timers-pass : (ts : List Timer) → Sorted 1 ts → ((i : ℕ) → files * places ≤ i → count_t i ts ≡ 0) → map (data_of s) (map g ts) ≡ map timer_words ts
      → Each (TimerEntry s) (map g ts) × InOrder s 1 (map g ts) × (map (place_in s) (map g ts) ≡ places_of ts)
  unfolding Timed
  timers-pass ts o w q = timed-pass 1 ts o w q

-- a file's queues and ports

pub port-length : (q : Req) (i : ℕ) (a : Alloc) → length (port_of q i a) ≡ uncollected q
unfolding port_of uncollected
port-length idle i a = refl
port-length (reading q) i a = refl
port-length (writing q) i a = refl
port-length (read_done q) i a = refl
port-length (write_done q) i a = refl

module _ (s : List ℕ) (a : Alloc) (f : ℕ) where
  abbrev entry : ℕ → ℕ
  entry p = own_entry (held_at a (place_of f p))

  abbrev words : Built → ℕ → List ℕ
  words b p = req_words (place_of f p) (req_of (acc_at b p))

  module _ (b : Built) (F : Facts s a f (built b)) where
    reads-box : map (data_of s) (map entry b.rq) ≡ map (words b) b.rq
    reads-box = unfold queue_of queue_words rq_of acc_of in F.reads

    writes-box : map (data_of s) (map entry b.wq) ≡ map (words b) b.wq
    writes-box = unfold queue_of queue_words wq_of acc_of in F.writes

    read_at : (p : ℕ) → 1 ≤ count p b.rq → data_of s (entry p) ≡ words b p → ReadEntry s f (entry p) × (place_in s (entry p) ≡ places * f + p)
    unfolding OnFile
    read_at p c q = read_of s a f b F p (entry p) q (omega (arith, (F.fine.queues p).reads))

    write-at : (p : ℕ) → 1 ≤ count p b.wq → data_of s (entry p) ≡ words b p → WriteEntry s f (entry p) × (place_in s (entry p) ≡ places * f + p)
    unfolding OnFile
    write-at p c q = write-of s a f b F p (entry p) q (omega (arith, (F.fine.queues p).writes))

  pub reads-pass : (x : File) → Facts s a f x → Each (ReadEntry s f) (queue_of (λ b. b.rq) f x a)
  unfolding queue_of Each
  reads-pass unbuilt F = tt
  reads-pass (built b) F = each-queue s entry (words b) (ReadEntry s f) b.rq (reads-box b F) (λ p c q. (read_at b F p c q).0)

  pub writes-pass : (x : File) → Facts s a f x → Each (WriteEntry s f) (queue_of (λ b. b.wq) f x a)
  unfolding queue_of Each
  writes-pass unbuilt F = tt
  writes-pass (built b) F = each-queue s entry (words b) (WriteEntry s f) b.wq (writes-box b F) (λ p c q. (write-at b F p c q).0)

  pub reads-named : (x : File) → Facts s a f x → (p : ℕ) → named s (places * f + p) (queue_of (λ b. b.rq) f x a) ≡ waits_read (req_of (acc_of x p))
  unfolding queue_of named acc_of req_of waits_read count OnFile acc_at
  reads-named unbuilt F p = refl
  reads-named (built b) F p =
      named-queue s entry (words b) f p b.rq (reads-box b F) (λ p c q. (read_at b F p c q).1) ∙ (F.fine.queues p).reads

  pub writes-named : (x : File) → Facts s a f x → (p : ℕ) → named s (places * f + p) (queue_of (λ b. b.wq) f x a) ≡ waits_write (req_of (acc_of x p))
  unfolding queue_of named acc_of req_of waits_write count OnFile acc_at
  writes-named unbuilt F p = refl
  writes-named (built b) F p =
      named-queue s entry (words b) f p b.wq (writes-box b F) (λ p c q. (write-at b F p c q).1) ∙ (F.fine.queues p).writes

  pub port-pass : (x : File) → Facts s a f x → (p : ℕ)
      → map (data_of s) (port_of (req_of (acc_of x p)) (places * f + p) a) ≡ port_words (places * f + p) (req_of (acc_of x p))
      → Each (PortEntry s (places * f + p)) (port_of (req_of (acc_of x p)) (places * f + p) a)
  unfolding acc_of req_of port_of Each
  port-pass unbuilt F p e = tt
  port-pass (built b) F p e = go (req_of (acc_at b p)) refl e
    where
      own : ℕ
      own = own_entry (held_at a (places * f + p))

      one : (q : Req) → req_of (acc_at b p) ≡ q → 1 ≤ uncollected q → data_of s own ≡ req_words (places * f + p) q → PortEntry s (places * f + p) own
      one q u h k =
          let r : req_at b.accs p ≡ req_of (acc_at b p) = unfold acc_at in refl in
          done-of s a f b F p own (unfold place_of in k ∙ ap (req_words (places * f + p)) (sym u)) (omega (arith, ap uncollected (r ∙ u)))

      go : (q : Req) → req_of (acc_at b p) ≡ q → map (data_of s) (port_of q (places * f + p) a) ≡ port_words (places * f + p) q → Each (PortEntry s (places * f + p)) (port_of q (places * f + p) a)
      go idle u k = tt
      go (reading q) u k = tt
      go (writing q) u k = tt
      go (read_done q) u k = (one (read_done q) u (unfold uncollected in omega arith) (unfold port_words in cc), tt)
      go (write_done q) u k = (one (write_done q) u (unfold uncollected in omega arith) (unfold port_words in cc), tt)

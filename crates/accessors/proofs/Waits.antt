-- What the lists of a segment say of the request at a place: the reply port and the queue of its side show it.
use Prim.Native.Nat.{ℕ, suc, ◌+◌, ◌*◌, ◌≤◌, ◌<◌}
use mathlib.Core.Path.{◌≡◌, refl, sym, ap, ◌∙◌}
use mathlib.Core.Bool.{Bool, true, false, cond, false≢true}
use mathlib.Core.List.{List, [], ◌∷◌, map}
use mathlib.Core.Option.{none, some}
use native.Mathlib.Omega.{arith}
use native.Mathlib.Decide.{ℕ_discrete}
use borrow.Author.Tests.{lt-ltb, le-ltb, eq-eqb, ne_eqb}
use lib.Dec.{ltb, eqb}
use lib.ListN.{length, get_or, take, length-map}
use Rattle.occurrences.specs.Count.{bit, count}
use Rattle.occurrences.proofs.Counts.{bit-eq, bit-ne, count_head}
use Rattle.rules.specs.Limits.{files, places, entries}
use Rattle.rules.specs.State.{Req, idle, reading, writing, read_done, write_done, Acc, Built, built}
use Rattle.rules.specs.Requests.{acc_at}
use Rattle.rules.specs.Desk.{Desk, file_of}
use Rattle.rules.specs.Allocation.{Alloc, place_of, port_of}
use Rattle.segment.specs.Layout.{list_count, read_queue, write_queue, reply_port}
use Rattle.segment.specs.Table.{nth}
use Rattle.segment.specs.Fields.{entry_words}
use Rattle.ports.specs.Slots.{seek, has}
use Rattle.ports.specs.Lists.{Chain, Boxes}
use Rattle.ports.specs.Index.{index}
use Rattle.ports.proofs.Chains.{slot_at}
use Rattle.ports.proofs.Boxes.{length-box, slot-box, end-box, seek-box}
use Rattle.laws.specs.Outstanding.{req_at, waits_read, waits_write, awaits, req_of}
use Rattle.laws.specs.Outstanding as laws
use Rattle.laws.specs.Queues.{Agree}
use Rattle.laws.specs.Sides.{Fitting, Sided}
use Rattle.memory.specs.Memories.{Memories}
use Rattle.memory.specs.Image.{acc_of, req_words, queue_words, rq_of, wq_of, lists_of, boxes_of}
use Rattle.memory.proofs.Image.{place_acc-at, list_of-port, box_of-read, box_of-write}
use Rattle.memory.proofs.Boxes.{get_or-lists_of, get_or-boxes_of, segment-boxes}
use Rattle.laws.specs.Runs.{OnFile}
use Rattle.laws.proofs.Files.{on-file}
use Rattle.memory.specs.Fine.{Fine, StandsFor}
use Rattle.memory.proofs.Once.{agreed-once}
use Rattle.kinds.specs.declared.Outstanding.TheVariants.{Nothing, Waiting, Completed}
use Rattle.accessors.specs.Sides.{side_of}
use Rattle.accessors.specs.Outstanding.{queue_of, outstanding_at, outstanding_of}

-- an entry of a place is found among those of the places q exactly when it is one of them
index-place : (W : ℕ → List ℕ) (f p : ℕ) (q : List ℕ) → ((x : ℕ) → 1 ≤ count x q → get_or (W x) 0 0 ≡ places * f + x)
    → (count p q ≡ 0 → index (has 0 (places * f + p)) (map W q) ≡ length q) × (1 ≤ count p q → index (has 0 (places * f + p)) (map W q) < length q)
unfolding index count
index-place W f p [] h = (λ _. refl, λ k. absurd (omega arith))
index-place W f p (x ∷ q) h = go (ℕ_discrete x p) (index-place W f p q (λ y k. h y (omega arith)))
  where
    head : get_or (W x) 0 0 ≡ places * f + x
    head = h x (count_head x q)

    go : Dec (x ≡ p)
        → (count p q ≡ 0 → index (has 0 (places * f + p)) (map W q) ≡ length q) × (1 ≤ count p q → index (has 0 (places * f + p)) (map W q) < length q)
        → (bit (eqb x p) + count p q ≡ 0 → cond (eqb (get_or (W x) 0 0) (places * f + p)) 0 (suc (index (has 0 (places * f + p)) (map W q))) ≡ suc (length q))
        × (1 ≤ bit (eqb x p) + count p q → cond (eqb (get_or (W x) 0 0) (places * f + p)) 0 (suc (index (has 0 (places * f + p)) (map W q))) < suc (length q))
    go (yes e) r = (λ k. absurd (omega (arith, bit-eq x p e)), λ k. rw (eq-eqb (get_or (W x) 0 0) (places * f + p) (omega (arith, head))) (omega arith))
    go (no d) r =
        rw (ne_eqb (get_or (W x) 0 0) (places * f + p) (λ u. d (omega (arith, head))))
        (λ k. ap suc (r.0 (omega arith)), λ k. omega (arith, r.1 (omega (arith, bit-ne x p d))))

-- the first word of a waiting request's entry is its place
first_word : (i : ℕ) (q : Req) → 1 ≤ awaits q → get_or (req_words i q) 0 0 ≡ i
unfolding waits_read waits_write req_words entry_words
first_word i idle h = absurd (omega arith)
first_word i (reading q) h = refl
first_word i (writing q) h = refl
first_word i (read_done q) h = absurd (omega arith)
first_word i (write_done q) h = absurd (omega arith)

-- the two tests, and what they say
shows-completed : (t u : Bool) → t ≡ true → cond t Completed (cond u Waiting Nothing) ≡ Completed
shows-completed t u e = rw e

shows-waiting : (t u : Bool) → t ≡ false → u ≡ true → cond t Completed (cond u Waiting Nothing) ≡ Waiting
shows-waiting t u e k = rw (e, k)

shows_nothing : (t u : Bool) → t ≡ false → u ≡ false → cond t Completed (cond u Waiting Nothing) ≡ Nothing
shows_nothing t u e k = rw (e, k)

module _ {xs hand : List ℕ} {hm rs : List (List ℕ)} (d : Desk) (s : Alloc) (B : Boxes xs hand hm (lists_of d s) (boxes_of d s) rs)
    (f : ℕ) (low : f < files) (b : Built) (is : file_of d f ≡ built b) (A : Agree b) where
  -- the reply port of place p
  port-chain : (p : ℕ) (a : Acc) → p < places → acc_at b p ≡ some a → Chain xs (reply_port (places * f + p)) (port_of a.req (places * f + p) s)
  unfolding acc_of req_of
  port-chain p a h e =
      rw (get_or-lists_of d s (reply_port (8 * f + p)) (omega arith), list_of-port d s (8 * f + p) (omega arith), place_acc-at d f p h, is, e) at (B.lists.chains (reply_port (8 * f + p)) (omega arith))

  -- a queue: what it holds are the requests of the places q, which wait
  queue-found : (l p : ℕ) (q : List ℕ) → l < list_count → get_or (boxes_of d s) l [] ≡ queue_words f (built b) q → ((x : ℕ) → 1 ≤ count x q → 1 ≤ awaits (req_at b.accs x))
      → ltb (nth xs (seek (has 0 (places * f + p)) xs l entries)) entries ≡ ltb 0 (count p q)
  unfolding queue_words acc_of place_of acc_at
  queue-found l p q h e w =
      rw (seek-box B l h (has 0 (places * f + p)), e) (go (ℕ_discrete (count p q) 0))
    where
      W : ℕ → List ℕ
      W x = req_words (places * f + x) (req_of (get_or b.accs x none))

      n : ℕ
      n = index (has 0 (places * f + p)) (map W q)

      found : (count p q ≡ 0 → n ≡ length q) × (1 ≤ count p q → n < length q)
      found = index-place W f p q (λ x k. first_word (places * f + x) (req_of (get_or b.accs x none)) (w x k))

      long : length q ≡ length (get_or (lists_of d s) l [])
      long = sym (length-map q W) ∙ ap length (sym e) ∙ length-box B l h

      go : Dec (count p q ≡ 0) → ltb (nth xs (slot_at l (take n (get_or (lists_of d s) l [])))) entries ≡ ltb 0 (count p q)
      go (yes z) = le-ltb (nth xs (slot_at l (take n (get_or (lists_of d s) l [])))) entries (end-box B l h n (found.0 z ∙ long)).0 ∙ sym (le-ltb 0 (count p q) (omega arith))
      go (no z) =
          let k = slot-box B l h n (omega (arith, long, found.1 (omega arith))) in
          lt-ltb (nth xs (slot_at l (take n (get_or (lists_of d s) l [])))) entries (omega (arith, k.0, k.1)) ∙ sym (lt-ltb 0 (count p q) (omega arith))

  reads-found : (p : ℕ) → ltb (nth xs (seek (has 0 (places * f + p)) xs (read_queue f) entries)) entries ≡ ltb 0 (waits_read (req_at b.accs p))
  unfolding rq_of
  reads-found p =
      queue-found (1 + f) p b.rq (omega arith) (get_or-boxes_of d s (1 + f) (omega arith) ∙ box_of-read d s f low ∙ ap (λ x. queue_words f x (rq_of x)) is)
      (λ x k. omega (arith, (A x).reads))
      ∙ ap (λ n. ltb 0 n) (A p).reads

  writes_found : (p : ℕ) → ltb (nth xs (seek (has 0 (places * f + p)) xs (write_queue f) entries)) entries ≡ ltb 0 (waits_write (req_at b.accs p))
  unfolding wq_of
  writes_found p =
      queue-found (write_queue f) p b.wq (omega arith) (get_or-boxes_of d s (write_queue f) (omega arith) ∙ box_of-write d s f low ∙ ap (λ x. queue_words f x (wq_of x)) is)
      (λ x k. omega (arith, (A x).writes))
      ∙ ap (λ n. ltb 0 n) (A p).writes

  -- the request at an open place, whose side is its accessor's
  pub outstanding-boxes : (p : ℕ) (a : Acc) → p < places → acc_at b p ≡ some a → Sided a → outstanding_at xs f p (side_of (some a)) ≡ outstanding_of a.req
  unfolding outstanding_at outstanding_of side_of laws.req_of acc_at Chain port_of Fitting waits_read waits_write
  outstanding-boxes p a h e S =
      go a.writer a.req S.request (port-chain p a h e) (reads-found p ∙ ap (λ q. ltb 0 (waits_read q)) (ap laws.req_of e))
      (writes_found p ∙ ap (λ q. ltb 0 (waits_write q)) (ap laws.req_of e))
    where
      i : ℕ
      i = places * f + p

      port : ℕ
      port = nth xs (reply_port i)

      reads : Bool
      reads = ltb (nth xs (seek (has 0 i) xs (read_queue f) entries)) entries

      writes : Bool
      writes = ltb (nth xs (seek (has 0 i) xs (write_queue f) entries)) entries

      go : (w : Bool) (q : Req) → Fitting w q → Chain xs (reply_port i) (port_of q i s) → reads ≡ ltb 0 (waits_read q) → writes ≡ ltb 0 (waits_write q)
          → cond (ltb (nth xs (reply_port (places * f + p))) entries) Completed
          (cond (ltb (nth xs (seek (has 0 (places * f + p)) xs (queue_of f (1 + bit w)) entries)) entries) Waiting Nothing) ≡ outstanding_of q
      go false idle F c r k = shows_nothing _ _ (le-ltb port entries (omega (arith, c))) r
      go true idle F c r k = shows_nothing _ _ (le-ltb port entries (omega (arith, c))) k
      go false (reading q) F c r k = shows-waiting _ _ (le-ltb port entries (omega (arith, c))) r
      go true (reading q) F c r k = absurd (false≢true (sym F))
      go false (writing q) F c r k = absurd (false≢true F)
      go true (writing q) F c r k = shows-waiting _ _ (le-ltb port entries (omega (arith, c))) k
      go w (read_done q) F c r k = shows-completed (ltb port entries) (ltb (nth xs (seek (has 0 i) xs (queue_of f (1 + bit w)) entries)) entries) (lt-ltb port entries (omega (arith, c.0, c.1)))
      go w (write_done q) F c r k = shows-completed (ltb port entries) (ltb (nth xs (seek (has 0 i) xs (queue_of f (1 + bit w)) entries)) entries) (lt-ltb port entries (omega (arith, c.0, c.1)))

-- in a segment that stands for a desk
module _ {m : Memories} {d : Desk} {s : Alloc} (S : StandsFor m d s) where
  pub fine-at : (f : ℕ) → f < files → (b : Built) → file_of d f ≡ built b → Fine b
  unfolding OnFile
  fine-at f h b e = rw e at (S.fine f h)

  pub outstanding-is : (f : ℕ) → f < files → (b : Built) → file_of d f ≡ built b → (p : ℕ) (a : Acc) → p < places → acc_at b p ≡ some a
      → outstanding_at m.segment f p (side_of (some a)) ≡ outstanding_of a.req
  outstanding-is f h b e p a k i =
      let F : Fine b = fine-at f h b e in
      outstanding-boxes d s (segment-boxes d s m.segment (agreed-once d s S.agreed queues) S.stands.segment) f h b e F.queues p a k i (F.sides p a i)
    where
      queues : (g : ℕ) → g < files → OnFile Agree (file_of d g)
      queues g l = on-file Fine Agree (λ c z. z.queues) (file_of d g) (S.fine g l)

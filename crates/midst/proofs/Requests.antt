-- In the midst of a call a request begins to wait, completes, is cancelled or is collected: the memories after it stand for the file after it.
use Prim.Native.Nat.{ℕ, ◌*◌, ◌≤◌, ◌<◌}
use mathlib.Core.Path.{◌≡◌, refl, ap, ◌∙◌, subst}
use mathlib.Core.Bool.{Bool, true, false}
use mathlib.Core.List.{List, ◌∷◌, ◌++◌}
use mathlib.Core.Option.{some}
use native.Mathlib.Omega.{arith}
use lib.ListN.{length}
use lib.Seq.{sets}
use Rattle.words.specs.Word.{zeros}
use Rattle.occurrences.specs.Count.{count}
use Rattle.ports.proofs.Chains.{slot_at}
use Rattle.segment.specs.Layout.{free_list, reply_port, file_row}
use Rattle.segment.specs.Table.{nth}
use Rattle.requests.specs.Moves.{slot_of, queued, waiting, completed, cancelled, collected}
use Rattle.rules.specs.Limits.{files, entries, buffer_bytes}
use Rattle.rules.specs.State.{Wanted, Offered, Req, idle, reading, writing, Acc, ends, cancels, collects, Built, built}
use Rattle.rules.specs.Requests.{acc_at, with_accs, with_queues, with_timers, alter_acc, say, requeue, leave, finish, cancel, wait, freed, with_buffers, request}
use Rattle.rules.specs.Buffers.{lies, filled}
use Rattle.rules.specs.Desk.{Desk, with_file}
use Rattle.rules.specs.Allocation.{Alloc, place_of, ends_at, goes_at, allot, allot_all}
use Rattle.laws.specs.Outstanding.{req_of, req_at, waits_read, waits_write, uncollected, awaits, outstanding}
use Rattle.laws.specs.Changes.{Ends, read_ends, write_ends}
use Rattle.laws.specs.Counts.{count_t}
use Rattle.laws.specs.Midst as laws
use Rattle.laws.proofs.Bounds.{bounds-at}
use Rattle.laws.proofs.Lying.{ends-fit}
use Rattle.laws.proofs.Outstanding.{outstanding-most}
use Rattle.laws.proofs.Sieve.{count_t-sieve}
use Rattle.laws.proofs.Midst.{mid-wait, mid-walks}
use Rattle.laws.proofs.EightFiles.{eight-put, put-twice}
use Rattle.memory.specs.Memories.{Memories, memories}
use Rattle.memory.specs.Image.{req_words, file_words}
use Rattle.midst.specs.declared.File as hand
use Rattle.midst.specs.Seg.{Seg, queue_at, side_queue}
use Rattle.midst.specs.Mid.{Start, Mid}
use Rattle.midst.proofs.Begins.{mid-file}
use Rattle.midst.proofs.Lists.{entries_in}
use Rattle.midst.proofs.Changes.{Knows, Rest, asks-wait, asks-finish, asks-cancel, asks-freed, Laid, clear, mid-below, mid-req}
use Rattle.midst.proofs.Waits.{allot-snoc, seg-wait}
use Rattle.midst.proofs.Terms.{waits_at, waits-awaits}
use Rattle.midst.proofs.Placed.{Placed}
use Rattle.midst.proofs.EntryLeaves.{seg-slot, seg-complete, seg-cancel}
use Rattle.midst.proofs.Collects.{seg-collect}

-- a request that has ended is not yet collected
ends-done : {st : ℕ} {r q : Req} → Ends st r q → uncollected q ≡ 1
unfolding uncollected
ends-done (read_ends e h n) = refl
ends-done (write_ends e n) = refl

side-waits : (w : Bool) (q : Req) → waits_at w q ≡ 1 → awaits q ≡ 1
side-waits w q h = omega (arith, waits-awaits w q, outstanding-most q)

-- a segment of a desk whose file f was set before
reset : (xs : List ℕ) (d : Desk) (f : ℕ) (b c : Built) (t u : Alloc) (k : ℕ) → u ≡ t → Seg xs (with_file (with_file d f (built b)) f (built c)) t k → Seg xs (with_file d f (built c)) u k
reset xs d f b c t u k e S = rw e (rw put-twice at S)

wait-mid : (f : ℕ) → f < files → (s : Alloc) (side : Bool) (p n : ℕ) (q : Req) (a : Acc) (b : Built) → acc_at b p ≡ some a → a.req ≡ idle → awaits q ≡ 1 → laws.Mid f s b
    → laws.Mid f s (wait side p n q b)
unfolding wait say requeue request with_buffers alter_acc with_accs with_queues
wait-mid f hf s true p n q a b e i w m = mid-wait f hf s p n q a b e i w m _ refl refl refl
wait-mid f hf s false p n q a b e i w m = mid-wait f hf s p n q a b e i w m _ refl refl refl

module _ {I : Built → Type 0} {f : ℕ} {o : Start} {m : Memories} {x : hand.File} {b : Built} (K : Knows I) (M : Mid I f o m x b)
    (p : ℕ) (a : Acc) (e : acc_at b p ≡ some a) where
  abbrev i : ℕ
  i = place_of f p

  abbrev t : Alloc
  t = allot_all f b.past o.alloc

  -- it begins to wait, in the queue of its side

  module _ (R : Rest f o) (side : Bool) (n : ℕ) (q : Req) (still : a.req ≡ idle) (waits : awaits q ≡ 1) where
    seg-waits : (nth m.segment free_list < entries) × (nth (queued m.segment (queue_at side f) (req_words i q)) free_list < entries)
        × Seg (waiting m.segment (queue_at side f) (req_words i q) i n) (with_file o.desk f (built (wait side p n q b))) (allot_all f (wait side p n q b).past o.alloc) (file_row f)
    seg-waits =
        seg-wait f M.file o.alloc o.desk M.eight R b M.allots (K.agree b M.good) p n a e still side q (omega (arith, outstanding-most q)) M.segment

    -- there are entries to take
    pub step-wait-free : (nth m.segment free_list < entries) × (nth (queued m.segment (queue_at side f) (req_words (place_of f p) q)) free_list < entries)
    step-wait-free = (seg-waits.0, seg-waits.1)

    pub step-wait : {J : Built → Type 0} (buffers' : List ℕ) → length (lies q) ≤ buffer_bytes → J (wait side p n q b) → Laid f p q m.buffers buffers'
        → Mid J f o (memories (waiting m.segment (queue_at side f) (req_words (place_of f p) q) (place_of f p) n) m.blocks buffers') x (wait side p n q b)
    step-wait buffers' fits good L =
        mid-req K M p a e q (wait side p n q b) (asks-wait side p n q b) fits good
        (wait-mid f M.file o.alloc side p n q a b e still waits M.allots) _ buffers' seg-waits.2 L

  module _ (R : Rest f o) (n : ℕ) (still : a.req ≡ idle) {J : Built → Type 0} where
    pub step-wait-read : (q : Wanted) (buffers' : List ℕ) → J (wait false p n (reading q) b) → buffers' ≡ sets m.buffers (buffer_bytes * place_of f p) (zeros buffer_bytes)
        → Mid J f o (memories (waiting m.segment (queue_at false f) (req_words (place_of f p) (reading q)) (place_of f p) n) m.blocks buffers') x (wait false p n (reading q) b)
    unfolding lies waits_read waits_write
    step-wait-read q buffers' good h = step-wait R false n (reading q) still refl buffers' (omega arith) good (clear f p (reading q) m.buffers refl h)

    pub step-wait-write : (q : Offered) (buffers' : List ℕ) → length q.bytes ≤ buffer_bytes → J (wait true p n (writing q) b)
        → buffers' ≡ sets m.buffers (buffer_bytes * place_of f p) (filled q.bytes)
        → Mid J f o (memories (waiting m.segment (queue_at true f) (req_words (place_of f p) (writing q)) (place_of f p) n) m.blocks buffers') x (wait true p n (writing q) b)
    unfolding lies waits_read waits_write
    step-wait-write q buffers' fits good h = step-wait R true n (writing q) still refl buffers' fits good h

  -- an outstanding request

  ticks : count_t i t.clock ≡ count_t p b.timers
  ticks = count_t-sieve f p t.clock (mid-below M p a e) ∙ ap (count_t p) M.allots.matches.agrees.clock

  asked : req_at b.accs p ≡ a.req
  unfolding acc_at req_of
  asked = ap req_of e

  placed : outstanding a.req ≡ 1 → Placed f p (with_file o.desk f (built b)) b a t
  placed h = record {
    file = M.file;
    place = mid-below M p a e;
    eight = eight-put o.desk f (built b) M.eight;
    was = mid-file M;
    queues = K.agree b M.good;
    opens = e;
    long = M.allots.matches.whole.long;
    holds = omega (arith, M.allots.matches.agrees.holds p (mid-below M p a e), ap outstanding asked, ticks);
  }

  -- it completes

  module _ (side : Bool) (st : ℕ) (r q : Req) (was : a.req ≡ r) (waits : waits_at side r ≡ 1) (E : Ends st r q) where
    asks : waits_at side a.req ≡ 1
    asks = ap (waits_at side) was ∙ waits

    stands-out : outstanding a.req ≡ 1
    stands-out = omega (arith, side-waits side a.req asks, outstanding-most a.req)

    complete : Seg (completed m.segment (slot_of m.segment (queue_at side f) i) i (req_words i q)) (with_file (with_file o.desk f (built b)) f (built (finish p st q b))) (ends_at i t) (file_row f)
    unfolding finish leave say with_timers requeue request with_buffers alter_acc with_accs with_queues
    complete =
        (seg-complete (placed stands-out) side asks M.segment q (finish p st q b) refl refl refl
        (λ k. absurd (k refl)) (ends-done E)).1

    ended : allot_all f (finish p st q b).past o.alloc ≡ ends_at i t
    unfolding finish leave say with_timers requeue request with_buffers alter_acc with_accs with_queues allot
    ended = allot-snoc f b.past (ends p st) o.alloc

    -- the request's entry comes after those of the places ys
    pub step-finish : {J : Built → Type 0} (ys zs : List ℕ) → side_queue side b ≡ ys ++ p ∷ zs → count p ys ≡ 0 → (buffers' : List ℕ) → J (finish p st q b) → Laid f p q m.buffers buffers'
        → Mid J f o (memories (completed m.segment (slot_at (queue_at side f) (entries_in f t ys)) (place_of f p) (req_words (place_of f p) q)) m.blocks buffers') x (finish p st q b)
    step-finish {J} ys zs queue first buffers' good L =
        subst (λ (n : ℕ). Mid J f o (memories (completed m.segment n (place_of f p) (req_words (place_of f p) q)) m.blocks buffers') x (finish p st q b)) (seg-slot (placed stands-out) side asks M.segment ys zs queue first)
        (mid-req K M p a e q (finish p st q b) (asks-finish p st q b) (ends-fit b.geo.words E (bounds-at p a r b e was (K.bounds b M.good))) good
        ((mid-walks f M.file o.alloc).finishes p st q a r b e was E M.allots) _ buffers'
        (reset _ o.desk f b (finish p st q b) (ends_at i t) _ (file_row f) ended complete) L)

  -- it is cancelled

  module _ (side : Bool) (waits : waits_at side a.req ≡ 1) where
    gone : Seg (cancelled m.segment (slot_of m.segment (queue_at side f) i) i) (with_file (with_file o.desk f (built b)) f (built (cancel p b))) (goes_at i t) (file_row f)
    unfolding cancel leave say with_timers requeue request with_buffers alter_acc with_accs with_queues
    gone =
        seg-cancel (placed (omega (arith, side-waits side a.req waits, outstanding-most a.req))) side waits M.segment idle (cancel p b) refl refl refl
        (λ k. absurd (k refl)) refl

    cancelled-all : allot_all f (cancel p b).past o.alloc ≡ goes_at i t
    unfolding cancel leave say with_timers requeue request with_buffers alter_acc with_accs with_queues allot
    cancelled-all = allot-snoc f b.past (cancels p) o.alloc

    pub step-cancel : {J : Built → Type 0} (buffers' : List ℕ) → J (cancel p b) → Laid f p idle m.buffers buffers'
        → Mid J f o (memories (cancelled m.segment (slot_of m.segment (queue_at side f) (place_of f p)) (place_of f p)) m.blocks buffers') x (cancel p b)
    step-cancel buffers' good L =
        mid-req K M p a e idle (cancel p b) (asks-cancel p b) (unfold lies in omega arith) good
        ((mid-walks f M.file o.alloc).cancels p a b e (side-waits side a.req waits) M.allots) _ buffers'
        (reset _ o.desk f b (cancel p b) (goes_at i t) _ (file_row f) cancelled-all gone) L

  -- a completed one is collected

  module _ (done : uncollected a.req ≡ 1) where
    taken : (nth m.segment (reply_port i) < entries)
        × Seg (collected m.segment i) (with_file (with_file o.desk f (built b)) f (built (freed p b))) (goes_at i t) (file_row f)
    unfolding freed request with_buffers say alter_acc with_accs
    taken =
        let h : outstanding a.req ≡ 1 = omega (arith, outstanding-most a.req) in
        seg-collect (placed h) done (omega (arith, ticks, M.allots.matches.agrees.timed p, ap awaits asked)) M.segment (freed p b) refl refl refl
        (λ k. absurd (k refl))

    pub step-free-entry : nth m.segment (reply_port (place_of f p)) < entries
    step-free-entry = taken.0

    freed-all : allot_all f (freed p b).past o.alloc ≡ goes_at i t
    unfolding freed request with_buffers say alter_acc with_accs allot
    freed-all = allot-snoc f b.past (collects p) o.alloc

    -- the segment with all rows, where the file's own stands as it is
    pub step-free-rows : {k : ℕ} → Seg m.segment (with_file o.desk f (built b)) (allot_all f b.past o.alloc) k
        → Seg (collected m.segment (place_of f p)) (with_file o.desk f (built (freed p b))) (allot_all f (freed p b).past o.alloc) k
    unfolding freed request with_buffers say alter_acc with_accs file_words
    step-free-rows {k} S =
        let h : outstanding a.req ≡ 1 = omega (arith, outstanding-most a.req) in
        reset _ o.desk f b (freed p b) (goes_at i t) _ k freed-all
        (seg-collect (placed h) done (omega (arith, ticks, M.allots.matches.agrees.timed p, ap awaits asked)) S (freed p b) refl refl refl (λ _. refl)).1

    pub step-free : {J : Built → Type 0} (buffers' : List ℕ) → J (freed p b) → Laid f p idle m.buffers buffers'
        → Mid J f o (memories (collected m.segment (place_of f p)) m.blocks buffers') x (freed p b)
    step-free buffers' good L =
        mid-req K M p a e idle (freed p b) (asks-freed p b) (unfold lies in omega arith) good
        ((mid-walks f M.file o.alloc).frees p a b e done M.allots) _ buffers'
        (reset _ o.desk f b (freed p b) (goes_at i t) _ (file_row f) freed-all taken.1) L

-- One request that is due completes: the memories after it stand for the desk with the request failed.
use Prim.Native.Nat.{ℕ, ◌+◌, ◌*◌, ◌≤◌, ◌<◌}
use mathlib.Core.Path.{◌≡◌, refl, sym, ap, ◌∙◌}
use mathlib.Core.Bool.{Bool, true, false}
use mathlib.Core.List.{List}
use native.Mathlib.Omega.{arith}
use native.Mathlib.Decide.{ℕ_discrete}
use lib.ListN.{length, get_or}
use lib.Seq.{length-sets}
use Rattle.words.specs.Word.{zeros}
use Rattle.occurrences.specs.Count.{bit}
use Rattle.rules.specs.Limits.{files, places, entries, buffer_bytes}
use Rattle.rules.specs.State.{Req, Built, File, built}
use Rattle.rules.specs.Requests.{acc_at, alter, with_req, without, with_accs, with_queues, with_timers, alter_acc, say, requeue, leave, finish, fail, with_buffers, request}
use Rattle.rules.specs.Buffers.{lies, refilled}
use Rattle.rules.specs.Desk.{Desk, file_of, with_file}
use Rattle.rules.specs.Allocation.{Alloc, place_of, ends_at}
use Rattle.laws.specs.Runs.{OnFile}
use Rattle.laws.specs.Outstanding.{req_of, req_at, outstanding}
use Rattle.laws.specs.Changes.{Finishes}
use Rattle.laws.specs.Counts.{count_t}
use Rattle.laws.specs.Entries.{accs_of, timers_of}
use Rattle.laws.specs.Midst.{Matches}
use Rattle.laws.proofs.Queues.{agree-walks}
use Rattle.laws.proofs.Sides.{sides-walks}
use Rattle.laws.proofs.Outstanding.{outstanding-ends}
use Rattle.laws.proofs.Sieve.{count_t-sieve}
use Rattle.laws.proofs.Happenings.{place-file}
use Rattle.laws.proofs.Lapses.{others, fails-one}
use Rattle.laws.proofs.EightFiles.{eight-put, file-other, file-same}
use Rattle.segment.specs.Layout.{row_count, place_row}
use Rattle.segment.specs.Fields.{place_row_of, place_at}
use Rattle.segment.proofs.Apart.{words-place}
use Rattle.accessors.specs.Outstanding.{queue_of}
use Rattle.requests.specs.Moves.{entry_of}
use Rattle.memory.specs.Image.{acc_of, file_words, place_words}
use Rattle.memory.specs.Stands.{buffers_at}
use Rattle.memory.proofs.Image.{row_of-acc}
use Rattle.memory.proofs.Frames.{buffers_at-refilled, buffers_at-apart}
use Rattle.midst.specs.Seg.{Seg, queue_at}
use Rattle.midst.proofs.Changes.{Laid, asks-finish, clear}
use Rattle.midst.proofs.Placed.{Placed}
use Rattle.midst.proofs.EntryLeaves.{seg-complete}
use Rattle.buffers.specs.Buffer.{emptied}
use Rattle.timeouts.specs.Late.{waits_in, late}
use Rattle.timeouts.specs.Stage.{Steady, Stage}
use Rattle.timeouts.proofs.Ripe.{Ripe}

steady-finish : Finishes Steady
unfolding finish say leave with_timers requeue request with_buffers alter_acc with_accs with_queues
steady-finish p st q a r b e i k S = record {
  queues = agree-walks.finishes p st q a r b e i k S.queues;
  sides = sides-walks.finishes p st q a r b e i k S.sides;
}

finish-accs : (p st : ℕ) (q : Req) (b : Built) → (finish p st q b).accs ≡ alter (with_req q) b.accs p
unfolding finish say leave with_timers requeue request with_buffers alter_acc with_accs with_queues
finish-accs p st q b = refl

finish-reads : (p st : ℕ) (q : Req) (b : Built) → (finish p st q b).rq ≡ without p b.rq
unfolding finish say leave with_timers requeue request with_buffers alter_acc with_accs with_queues
finish-reads p st q b = refl

finish-writes : (p st : ℕ) (q : Req) (b : Built) → (finish p st q b).wq ≡ without p b.wq
unfolding finish say leave with_timers requeue request with_buffers alter_acc with_accs with_queues
finish-writes p st q b = refl

finish-words : (p st : ℕ) (q : Req) (b : Built) → file_words (built (finish p st q b)) ≡ file_words (built b)
unfolding file_words finish say leave with_timers requeue request with_buffers alter_acc with_accs with_queues
finish-words p st q b = refl

-- by the side of a row
side-list : (w : Bool) (f : ℕ) → queue_of f (1 + bit w) ≡ queue_at w f
side-list true f = refl
side-list false f = refl

module _ {xs ys : List ℕ} {d : Desk} {t : Alloc} (S : Stage xs ys d t) (f p : ℕ) (hf : f < files) (hp : p < places) (b : Built) (e : file_of d f ≡ built b) (R : Ripe p b) where
  abbrev i : ℕ
  i = place_of f p

  abbrev w : Bool
  w = R.acc.writer

  -- the desk after the request failed
  abbrev then : Desk
  then = with_file d f (built (fail p 22 b))

  steady : Steady b
  unfolding OnFile
  steady = rw e at (S.steady f hf)

  own : buffers_at f ys ≡ b.buffers
  unfolding OnFile
  own = rw e at (S.buffers f hf)

  matches : Matches f t t b.accs b.timers
  unfolding accs_of timers_of
  matches = rw e at (S.matches f hf)

  side : (place_at xs i).side ≡ 1 + bit w
  unfolding place_at place_row_of place_of acc_of place_words
  side =
      ap (λ r. get_or r 0 0)
      (sym (words-place xs i) ∙ S.segment.boxes.rows (place_row i) (omega arith) ∙ S.segment.same (place_row i) (omega arith) (λ z. omega arith) ∙ row_of-acc d f p hp
      ∙ ap (λ y. place_words (acc_of y p)) e ∙ ap place_words R.at)

  pub waits-is : waits_in xs i ≡ queue_at w f
  unfolding waits_in
  waits-is = rw (side, place-file f p hp) (side-list w f)

  -- the segment

  new-accs : (fail p 22 b).accs ≡ alter (with_req R.done) b.accs p
  new-accs = ap (λ c. c.accs) R.fails ∙ finish-accs p 22 R.done b

  outstands : outstanding (req_at b.accs p) ≡ 1
  unfolding acc_at req_of
  outstands = ap outstanding (ap req_of R.at) ∙ (outstanding-ends R.ends).0

  placed : Placed f p d b R.acc t
  placed = record {
    file = hf;
    place = hp;
    eight = S.eight;
    was = e;
    queues = steady.queues;
    opens = R.at;
    long = matches.whole.long;
    holds = omega (arith, outstands, matches.agrees.holds p hp, count_t-sieve f p t.clock hp, ap (count_t p) matches.agrees.clock);
  }

  pub seg-late : (entry_of xs (waits_in xs i) i < entries) × Seg (late xs i) then (ends_at i t) row_count
  unfolding late
  seg-late =
      rw (waits-is, ← R.words i)
      (seg-complete placed w R.waits S.segment R.done (fail p 22 b) new-accs (ap (λ c. c.rq) R.fails ∙ finish-reads p 22 R.done b)
      (ap (λ c. c.wq) R.fails ∙ finish-writes p 22 R.done b) (λ _. ap (λ c. file_words (built c)) R.fails ∙ finish-words p 22 R.done b) R.over)

  -- the buffers

  -- nothing lies in the buffer of the place
  laid : Laid f p R.done ys (emptied i ys)
  laid = clear f p R.done ys R.empty refl

  fits : length (lies R.done) ≤ buffer_bytes
  fits = rw R.empty (omega arith)

  own-buffers : buffers_at f (emptied i ys) ≡ (fail p 22 b).buffers
  own-buffers =
      ap (buffers_at f) laid ∙ buffers_at-refilled f p R.done ys hp fits ∙ ap (refilled p R.done) own
      ∙ sym (ap (λ c. c.buffers) R.fails ∙ (asks-finish p 22 R.done b).buffers)

  pub other-buffers : (g : ℕ) → (g ≡ f → ⊥) → buffers_at g (emptied i ys) ≡ buffers_at g ys
  other-buffers g n = ap (buffers_at g) laid ∙ buffers_at-apart f p R.done ys hp fits g n

  -- file by file
  each : (P : ℕ → File → Type 0) → P f (built (fail p 22 b)) → ((g : ℕ) → g < files → (g ≡ f → ⊥) → P g (file_of d g)) → (g : ℕ) → g < files → P g (file_of then g)
  each P h k g l = go (ℕ_discrete g f)
    where
      go : Dec (g ≡ f) → P g (file_of then g)
      go (yes z) = rw (z, file-same d f (built (fail p 22 b)) S.eight hf) h
      go (no n) = rw (file-other d f g (built (fail p 22 b)) n) (k g l n)

  pub stage-late : Stage (late xs i) (emptied i ys) then (ends_at i t)
  stage-late = record {
    segment = seg-late.1;
    eight = eight-put d f _ S.eight;
    matches = each (λ g y. Matches g (ends_at i t) (ends_at i t) (accs_of y) (timers_of y)) (unfold accs_of timers_of in fails-one f p 22 t b hf hp matches (omega arith))
        (λ g h n. others g i t _ _ (λ z. n (sym z ∙ place-file f p hp)) (S.matches g h));
    steady = each (λ g y. OnFile Steady y) (unfold OnFile in rw R.fails (steady-finish p 22 R.done R.acc R.acc.req b R.at refl R.ends steady))
        (λ g h n. S.steady g h);
    buffers = each (λ g y. OnFile (λ c. buffers_at g (emptied i ys) ≡ c.buffers) y) (unfold OnFile in own-buffers)
        (λ g h n. rw (other-buffers g n) (S.buffers g h));
    size = length-sets ys (buffer_bytes * i) (zeros buffer_bytes) ∙ S.size;
  }

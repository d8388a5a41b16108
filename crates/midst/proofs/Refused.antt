-- A refused call changes nothing, and its reply is its number.
use mathlib.Core.Path.{◌≡◌, refl, sym, ap, ◌∙◌}
use mathlib.Core.Bool.{true, false, ◌&&◌}
use mathlib.Core.List.{List, []}
use mathlib.Core.Option.{Option, none, some}
use Prim.Native.Nat.{ℕ, zero, suc, ◌≤◌, ◌<◌}
use native.Mathlib.Omega.{arith}
use native.Mathlib.Decide.{dec_lt}
use lib.Dec.{ltb, eqb}
use borrow.Author.Tests.{ltb-true, lt-ltb}
use Rattle.kinds.specs.declared.Control.{Control}
use Rattle.kinds.specs.declared.Control.TheVariants.{Timeout, Verify, Abort, Extended, Typed, Keep}
use Rattle.rules.specs.Limits.{files}
use Rattle.rules.specs.State.{Req, idle, reading, writing, read_done, write_done, Acc, Hap, Built, File, unbuilt, built}
use Rattle.rules.specs.Store.{fetch}
use Rattle.rules.specs.Requests.{writers, readers, fits, acc_at}
use Rattle.rules.specs.Reply.{Out, hushed, leaves, answering, status, unmade}
use Rattle.rules.specs.Open.{open_reader, open_writer}
use Rattle.rules.specs.Transfer.{may_wait, read_on, is_nil, write_on, collected, collect}
use Rattle.rules.specs.Controls.{abort}
use Rattle.rules.specs.FileCounts.{counts}
use Rattle.rules.specs.Calls.{Ask, refusal, ask, ask_built, ask_unbuilt}
use Rattle.rules.specs.Calls as calls
use Rattle.rules.specs.Desk.{Desk, on, file_of, with_file, Responded, answered}
use Rattle.rules.specs.Allocation.{Alloc, allot_all, alloc_asked}
use Rattle.rules.proofs.Split.{by_cases, both, opt, pick_true, pick-false}
use Rattle.laws.specs.Runs.{OnFile}
use Rattle.laws.specs.Outstanding.{req_of, req_at, waits_read, waits_write, awaits, uncollected}
use Rattle.laws.specs.Entries.{Calm}
use Rattle.laws.specs.Bounds.{least_refusal, Bounded}
use Rattle.laws.specs.EightFiles.{EightFiles}
use Rattle.laws.proofs.Files.{on-file}
use Rattle.laws.proofs.EightFiles.{file-here, file-none}
use Rattle.laws.proofs.Allocated.{happens-here, happens-nowhere}
use Rattle.memory.specs.Memories.{Memories}
use Rattle.memory.specs.Fine.{Fine, StandsFor}
use Rattle.midst.specs.Outcome.{status_of, reply_status, refusal_of}
use Rattle.midst.specs.Accepted.{OpenKnown, CloseKnown, ControlKnown, Known, KnownNew, Judging, refuses, accepts, end_of, Ended, Refused}
use Rattle.midst.proofs.Judged.{refusal-back, judged, judged-new}

-- the file with another past
pastly : Built → List Hap → Built
pastly b hs = record { geo = b.geo; store = b.store; accs = b.accs; buffers = b.buffers; rq = b.rq; wq = b.wq; timers = b.timers; past = hs }

-- in a fine file no request completed with a refusal's number

bounded-end : (words : ℕ) (q : Req) → Bounded words q → end_of q < least_refusal
unfolding Bounded end_of
bounded-end words idle h = omega arith
bounded-end words (reading q) h = omega arith
bounded-end words (writing q) h = omega arith
bounded-end words (read_done q) h = h.1
bounded-end words (write_done q) h = h

pub fine-ended : (b : Built) → Fine b → Ended b
fine-ended b h x = bounded-end b.geo.words (req_at b.accs x) (h.bounds x)

-- what is accepted is not refused
unfoldable Passes : Out → Type 0
Passes o = refusal_of o.reply ≡ 0

passes-read : (p : ℕ) (a : Acc) (n : ℕ) (b : Built) → Passes (read_on p a n b)
unfolding read_on Passes status answering leaves refusal_of reply_status status_of
passes-read p a n b =
    opt Passes (fetch b.geo a.typed a.keep b.store).got (λ _. both Passes (may_wait (writers b) a) (λ _. refl) (λ _. refl)) (λ r _. refl)

passes-write : (p : ℕ) (a : Acc) (n : ℕ) (d : List ℕ) (b : Built) → Passes (write_on p a n d b)
unfolding write_on Passes status answering leaves refusal_of reply_status status_of
passes-write p a n d b = both Passes (fits b && is_nil b.wq) (λ _. refl) (λ _. both Passes (may_wait (readers b) a) (λ _. refl) (λ _. refl))

passes-collected : (st l : ℕ) (d : List ℕ) (p : ℕ) (b : Built) → st < least_refusal → Passes (collected st l d p b)
unfolding collected Passes status answering leaves refusal_of reply_status status_of
passes-collected st l d p b h = both Passes (eqb st 0) (λ _. refl) (λ _. rw (lt-ltb st least_refusal h))

passes-collect : (p : ℕ) (q : Req) (b : Built) → end_of q < least_refusal → (q ≡ idle → ⊥) → Passes (collect p q b)
unfolding collect Passes status answering leaves refusal_of reply_status status_of end_of
passes-collect p idle b h n = absurd (n refl)
passes-collect p (reading q) b h n = refl
passes-collect p (writing q) b h n = refl
passes-collect p (read_done q) b h n = passes-collected q.status q.log q.bytes p b h
passes-collect p (write_done q) b h n = passes-collected q.status q.log [] p b h

passes-abort : (p : ℕ) (q : Req) (b : Built) → (q ≡ idle → ⊥) → Passes (abort p q b)
unfolding abort Passes status answering leaves refusal_of reply_status status_of
passes-abort p idle b n = absurd (n refl)
passes-abort p (reading q) b n = refl
passes-abort p (writing q) b n = refl
passes-abort p (read_done q) b n = refl
passes-abort p (write_done q) b n = refl

to : {o r : Out} → o ≡ r → Passes r → Passes o
to {o} {r} e h = rw e h

known-control : (p : ℕ) (c : Option Control) (b : Built) (o : Out) → ControlKnown p c b o → Passes o
unfolding ControlKnown
known-control p (some (Timeout v)) b o k = to k.out (unfold Passes answering leaves refusal_of reply_status status_of in refl)
known-control p (some (Verify v)) b o k = to k.out (unfold Passes answering leaves refusal_of reply_status status_of in refl)
known-control p (some (Abort v)) b o k = to k.out (passes-abort p _ b k.outstands)
known-control p (some (Extended v)) b o k = to k.out (unfold Passes answering leaves refusal_of reply_status status_of in refl)
known-control p (some (Typed v)) b o k = to k.out (unfold Passes answering leaves refusal_of reply_status status_of in refl)
known-control p (some (Keep v)) b o k = to k.out (unfold Passes answering leaves refusal_of reply_status status_of in refl)
known-control p none b o k = absurd k

known-open : (access share multi : ℕ) (b : Built) (o : Out) → OpenKnown access share multi b o → Passes o
known-open zero share multi b o k = to (k.reader refl) (unfold Passes open_reader answering leaves refusal_of reply_status status_of in refl)
known-open (suc n) share multi b o k = to (k.writer (omega arith)) (unfold Passes open_writer answering leaves refusal_of reply_status status_of in refl)

known-close : (p : ℕ) (b : Built) (o : Out) (q : Req) (k : CloseKnown p b o) → k.a.req ≡ q → Passes o
unfolding waits_read waits_write uncollected
known-close p b o idle k r = to (k.idles r) (unfold Passes answering leaves refusal_of reply_status status_of in refl)
known-close p b o (reading q) k r = to (k.waits (ap awaits r)) (unfold Passes answering leaves refusal_of reply_status status_of in refl)
known-close p b o (writing q) k r = to (k.waits (ap awaits r)) (unfold Passes answering leaves refusal_of reply_status status_of in refl)
known-close p b o (read_done q) k r = absurd (omega (arith, k.collected, ap uncollected r))
known-close p b o (write_done q) k r = absurd (omega (arith, k.collected, ap uncollected r))

known-passes : (q : Ask) (b : Built) (o : Out) → Ended b → Known q b o → Passes o
unfolding Known
known-passes (calls.build r f n x) b o z k = absurd k
known-passes (calls.opens access share multi) b o z k = known-open access share multi b o k
known-passes (calls.read p n) b o z k = to k.out (passes-read p _ n b)
known-passes (calls.write p n d) b o z k = to k.out (passes-write p _ n d b)
known-passes (calls.control p c) b o z k = known-control p c b o k
known-passes (calls.collect p) b o z k = to k.out (passes-collect p _ b (unfold req_of acc_at in rw k.at at (z p)) k.outstands)
known-passes (calls.close p) b o z k = known-close p b o _ k refl
known-passes calls.counts b o z k = to k (unfold Passes counts answering leaves refusal_of reply_status status_of in refl)
known-passes (calls.load t) b o z k = absurd k
known-passes (calls.save n) b o z k = unfold Passes in k
known-passes (calls.look p) b o z k = unfold Passes in k

new-passes : (q : Ask) (o : Out) → KnownNew q o → Passes o
unfolding KnownNew
new-passes (calls.build r f n x) o k = to k.out (unfold Passes answering leaves refusal_of reply_status status_of in refl)
new-passes (calls.opens access share multi) o k = absurd k
new-passes (calls.read p n) o k = absurd k
new-passes (calls.write p n d) o k = absurd k
new-passes (calls.control p c) o k = absurd k
new-passes (calls.collect p) o k = absurd k
new-passes (calls.close p) o k = absurd k
new-passes calls.counts o k = absurd k
new-passes (calls.load t) o k = unfold Passes in k
new-passes (calls.save n) o k = absurd k
new-passes (calls.look p) o k = absurd k

-- a refused call of a file leaves the file, and nothing happens
stays : (x : File) (q : Ask) → Calm x → OnFile Ended x → (Passes (ask x q) → ⊥)
    → ((ask x q).file ≡ x) × ((ask x q).haps ≡ []) × ((ask x q).reply ≡ refusal q (refusal_of (ask x q).reply))
unfolding ask OnFile hushed pastly
stays unbuilt q c z n = go (judged-new q)
  where
    go : Judging q unmade (KnownNew q) (ask_unbuilt q)
        → ((ask_unbuilt q).file ≡ unbuilt) × ((ask_unbuilt q).haps ≡ []) × ((ask_unbuilt q).reply ≡ refusal q (refusal_of (ask_unbuilt q).reply))
    go (refuses m l e) = rw e (unfold unmade in (refl, refl, rw (refusal-back q m l)))
    go (accepts k) = absurd (n (new-passes q (ask_unbuilt q) k))
stays (built b) q c z n = go (judged b q)
  where
    go : Judging q (λ r. leaves r b) (Known q b) (ask_built b q)
        → ((ask_built b q).file ≡ built b) × ((ask_built b q).haps ≡ []) × ((ask_built b q).reply ≡ refusal q (refusal_of (ask_built b q).reply))
    go (refuses m l e) = rw e (unfold leaves in (ap (λ (hs : List Hap). built (pastly b hs)) (sym c), c, rw (refusal-back q m l)))
    go (accepts k) = absurd (n (known-passes q b (ask_built b q) z k))

-- a call of one of the eight files
answered-on : (d : Desk) (f : ℕ) (q : Ask) → ltb f files ≡ true → answered d (on f q) ≡ record { reply = (ask (file_of d f) q).reply; desk = with_file d f (ask (file_of d f) q).file }
unfolding answered
answered-on d f q t = pick_true (ltb f files) _ _ t

-- "A refusal changes nothing"
pub refused-still : (d : Desk) (s : Alloc) (f : ℕ) (q : Ask) → ((g : ℕ) → g < files → Calm (file_of d g)) → OnFile Ended (file_of d f)
    → (refusal_of (answered d (on f q)).reply ≡ 0 → ⊥) → Refused d s f q
unfolding alloc_asked allot_all
refused-still d s f q c z n = by_cases (ltb f files) within beyond
  where
    within : ltb f files ≡ true → Refused d s f q
    within t =
        let e = answered-on d f q t in
        let k = stays (file_of d f) q (c f (ltb-true f files t)) z (λ (h : Passes (ask (file_of d f) q)). n (ap (λ (r : Responded). refusal_of r.reply) e ∙ (unfold Passes in h))) in
        record {
          desk = ap (λ (r : Responded). r.desk) e ∙ file-here d f _ (sym k.0);
          alloc = rw (happens-here f d q (ltb-true f files t), k.1);
          reply = rw e k.2;
        }

    beyond : ltb f files ≡ false → Refused d s f q
    beyond t =
        let e : answered d (on f q) ≡ record { reply = refusal q 31; desk = d } = unfold answered in pick-false (ltb f files) _ _ t in
        record {
          desk = ap (λ (r : Responded). r.desk) e;
          alloc = rw (happens-nowhere f d q t);
          reply = rw (e, refusal-back q 31 (omega arith));
        }

-- of a desk that memories stand for

desk-ended : (d : Desk) → EightFiles d → ((g : ℕ) → g < files → OnFile Fine (file_of d g)) → (f : ℕ) → OnFile Ended (file_of d f)
unfolding OnFile
desk-ended d l h f = go (dec_lt f files)
  where
    go : Dec (f < files) → OnFile Ended (file_of d f)
    go (yes k) = on-file Fine Ended fine-ended (file_of d f) (h f k)
    go (no k) = let e : files ≤ f = omega arith in rw (file-none d f l e) tt

pub stands-refused : {m : Memories} {d : Desk} {s : Alloc} (f : ℕ) (q : Ask) → StandsFor m d s
    → (refusal_of (answered d (on f q)).reply ≡ 0 → ⊥) → Refused d s f q
stands-refused {d = d} {s = s} f q S n = refused-still d s f q S.agreed.calm (desk-ended d S.agreed.eight S.fine f) n

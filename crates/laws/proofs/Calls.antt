-- Every call of a built file keeps what each small change keeps.
use mathlib.Core.Path.{◌≡◌, refl, sym, ap, ◌∙◌}
use mathlib.Core.Bool.{Bool, true, false, ◌&&◌, ◌||◌, true≢false}
use mathlib.Core.List.{List, []}
use mathlib.Core.Option.{Option, none, some}
use Prim.Native.Nat.{ℕ, zero, suc, ◌+◌, ◌*◌, ◌≤◌}
use native.Mathlib.Nat.{le_trans}
use native.Mathlib.Omega.{arith}
use lib.Dec.{ltb, leb, eqb}
use lib.ListN.{length}
use borrow.Author.Tests.{leb-true}
use Rattle.kinds.specs.declared.Control.{Control}
use Rattle.kinds.specs.declared.Control.TheVariants.{Timeout, Verify, Abort, Extended, Typed, Keep}
use Rattle.rules.specs.Limits.{places, most_mode, most_read_words, most_read_bytes, buffer_bytes}
use Rattle.rules.specs.State.{Req, idle, reading, writing, read_done, write_done, Acc, Built}
use Rattle.rules.specs.Store.{fetch}
use Rattle.rules.specs.TransferCounts.{in_words, count_bytes, readable}
use Rattle.rules.specs.Requests.{count_acc, is_writer, writers, readers, opened, fits, acc_at, with_accs, with_queues, with_timers, alter_acc, say, is_idle, with_req, begun, requeue, leave, cancel, with_buffers, request}
use Rattle.rules.specs.Settle.{settle}
use Rattle.rules.specs.Reply.{Reply, Out, leaves, answering, status}
use Rattle.rules.specs.Open.{sharing_of, other_share, crowded, holds_id, free_id_from, free_id, open_reader, open_writer, room_to_open, open_file}
use Rattle.rules.specs.Transfer.{may_wait, read_on, read, is_nil, write_on, write, collected, collect}
use Rattle.rules.specs.Controls.{set_timeout, set_extended, set_typed, set_keep, switched, of_reader, abort, while_idle, control}
use Rattle.rules.specs.Close.{close}
use Rattle.rules.specs.Sheet.{sheet, save}
use Rattle.rules.specs.Look.{oldest, look_file, look_req, look}
use Rattle.rules.specs.FileCounts.{counts}
use Rattle.rules.specs.Calls.{Ask, on_acc, ask_built}
use Rattle.rules.specs.Calls as calls
use Rattle.rules.proofs.Split.{by_cases, both, opt, and_left}
use Rattle.rules.proofs.Fits.{read_fits}
use Rattle.laws.specs.Runs.{Proper}
use Rattle.laws.specs.Changes.{Mild, Walks, Settles}
use Rattle.laws.specs.Outstanding.{waits_read, waits_write, awaits, uncollected}
use Rattle.laws.proofs.Accessors.{get_or-alter-same}
use Rattle.laws.proofs.Walk.{behind-at, settles, closes}

cancel-at : (p : ℕ) (a : Acc) (b : Built) → acc_at b p ≡ some a → acc_at (cancel p b) p ≡ some (with_req idle a)
unfolding acc_at cancel say leave with_timers requeue request with_buffers alter_acc with_accs with_queues
cancel-at p a b e = get_or-alter-same (with_req idle) a b.accs p e

pub begun-at : (p : ℕ) (a : Acc) (b : Built) → acc_at b p ≡ some a → acc_at (alter_acc p begun b) p ≡ some (begun a)
unfolding acc_at alter_acc with_accs
begun-at p a b e = get_or-alter-same begun a b.accs p e

pub begun-mild : Mild begun
unfolding Mild begun is_writer
begun-mild a = (refl, refl, refl, refl)

pub is-idle : (q : Req) → is_idle q ≡ true → q ≡ idle
unfolding is_idle
is-idle idle e = refl
is-idle (reading q) e = absurd (true≢false (sym e))
is-idle (writing q) e = absurd (true≢false (sym e))
is-idle (read_done q) e = absurd (true≢false (sym e))
is-idle (write_done q) e = absurd (true≢false (sym e))

-- what may be asked for fits a buffer
pub readable-bytes : (n : ℕ) → readable n ≡ true → count_bytes n ≤ buffer_bytes
unfolding readable count_bytes
readable-bytes n = by_cases (in_words n)
    (λ t. rw t (λ e. omega (arith, leb-true n most_read_words e, read_fits)))
    (λ t. rw t (λ e. le_trans (leb-true _ most_read_bytes e) read_fits))

pub free-id : (k n : ℕ) (l : List (Option Acc)) → n ≤ free_id_from k n l
unfolding free_id_from
free-id zero n l = omega arith
free-id (suc k) n l = both (λ (m : ℕ). n ≤ m) (eqb (count_acc (holds_id n) l) 0) (λ _. omega arith) (λ _. omega (arith, free-id k (n + 1) l))

-- R is what holds of a settled file
module _ (I R : Built → Type 0) (J : ℕ → Built → Type 0) (w : Walks I J) (st : Settles I R) (G : Out → Type 0) (g : (r : Reply) (b : Built) → I b → R b → G (leaves r b)) where
  begins : (p : ℕ) (b : Built) → I b → I (alter_acc p begun b)
  begins p b s = w.mild p begun b begun-mild s

  -- a call that settles
  settled-out : (r : Reply) (b : Built) → I b → G (leaves r (settle b))
  settled-out r b s = let k = settles I J w b s in g r _ k (st.rests b k)

  at_read : (p : ℕ) (a : Acc) (n : ℕ) (b : Built) → acc_at b p ≡ some a → a.req ≡ idle → a.writer ≡ false → count_bytes n ≤ buffer_bytes → I b → G (read_on p a n b)
  unfolding read_on status answering
  at_read p a n b e i h l s =
      let c = begins p _ (w.fetches p a.typed a.keep b s) in
      opt G (fetch b.geo a.typed a.keep b.store).got
      (λ _. both G (may_wait (writers b) a)
      (λ _. settled-out _ _ (w.read_waits p _ _ (begun a) _ (begun-at p a _ (behind-at p _ b ∙ e)) (unfold begun in i) (unfold begun in h) l c))
      (λ _. settled-out _ _ c))
      (λ r _. settled-out _ _ c)

  at-write : (p : ℕ) (a : Acc) (n : ℕ) (d : List ℕ) (b : Built) → acc_at b p ≡ some a → a.req ≡ idle → a.writer ≡ true → length d ≤ 2 * b.geo.words → I b → G (write_on p a n d b)
  unfolding write_on status answering alter_acc with_accs begun
  at-write p a n d b e i h l s =
      both G (fits b && is_nil b.wq)
      (λ t. settled-out _ _ (begins p _ (w.writes p a d b e h l (and_left (fits b) _ t) s)))
      (λ _. both G (may_wait (readers b) a)
      (λ _. settled-out _ _ (w.write_waits p _ _ (begun a) (alter_acc p begun b) (begun-at p a b e) i h l (begins p b s)))
      (λ _. settled-out _ _ (begins p b s)))

  at_open : (access share multi : ℕ) (b : Built) → I b → R b → G (open_file access share multi b)
  unfolding open_file open_reader open_writer status answering free_id
  at_open access share multi b s z =
      both G (leb access most_mode && leb share most_mode && leb multi most_mode)
      (λ _. both G (eqb multi 3 || ltb 0 (count_acc (other_share (sharing_of share)) b.accs) || crowded (ltb 0 access) (sharing_of share) b)
      (λ _. g _ b s z)
      (λ _. both G (leb places (opened b)) (λ _. g _ b s z)
      (λ _. both G (ltb 0 access)
      (λ _. both G (room_to_open access b) (λ t. settled-out _ _ (w.joins access _ _ b (free-id places 1 _) t s)) (λ _. g _ b s z))
      (λ _. settled-out _ _ (w.enters _ b s)))))
      (λ _. g _ b s z)

  changes : (p : ℕ) (f : Acc → Acc) (r : Reply) (b : Built) → Mild f → I b → R b → G (leaves r (alter_acc p f b))
  changes p f r b m s z = g r _ (w.mild p f b m s) (st.milds p f b m z)

  switches : (p v : ℕ) (f : Bool → Acc → Acc) (b : Built) → ((t : Bool) → Mild (f t)) → I b → R b → G (switched p v f b)
  unfolding switched status answering
  switches p v f b m s z = both G (leb v 1) (λ _. changes p _ _ b (m _) s z) (λ _. g _ b s z)

  while-idle : (a : Acc) (o : Out) (b : Built) → I b → R b → G o → G (while_idle a b o)
  unfolding while_idle status answering
  while-idle a o b s z h = both G (is_idle a.req) (λ _. h) (λ _. g _ b s z)

  of_reader_lem : (a : Acc) (o : Out) (b : Built) → I b → R b → G o → G (of_reader a b o)
  unfolding of_reader status answering
  of_reader_lem a o b s z h = both G a.writer (λ _. g _ b s z) (λ _. h)

  at-abort : (p : ℕ) (a : Acc) (q : Req) (b : Built) → acc_at b p ≡ some a → a.req ≡ q → I b → R b → G (abort p q b)
  unfolding abort status answering waits_read waits_write
  at-abort p a idle b e r s z = g _ b s z
  at-abort p a (reading q) b e r s z = g _ _ (w.cancels p a b e (ap awaits r) s) (st.cancels p b z)
  at-abort p a (writing q) b e r s z = g _ _ (w.cancels p a b e (ap awaits r) s) (st.cancels p b z)
  at-abort p a (read_done q) b e r s z = g _ b s z
  at-abort p a (write_done q) b e r s z = g _ b s z

  at-control : (p : ℕ) (a : Acc) (c : Option Control) (b : Built) → acc_at b p ≡ some a → I b → R b → G (control p a c b)
  unfolding control status answering Mild is_writer set_timeout set_extended set_typed set_keep
  at-control p a none b e s z = while-idle a _ b s z (g _ b s z)
  at-control p a (some (Timeout v)) b e s z = while-idle a _ b s z (changes p (set_timeout v) _ b (λ c. (refl, refl, refl, refl)) s z)
  at-control p a (some (Verify v)) b e s z = while-idle a _ b s z (g _ b s z)
  at-control p a (some (Abort v)) b e s z = at-abort p a a.req b e refl s z
  at-control p a (some (Extended v)) b e s z = while-idle a _ b s z (switches p v set_extended b (λ t c. (refl, refl, refl, refl)) s z)
  at-control p a (some (Typed v)) b e s z = while-idle a _ b s z (of_reader_lem a _ b s z (switches p v set_typed b (λ t c. (refl, refl, refl, refl)) s z))
  at-control p a (some (Keep v)) b e s z = while-idle a _ b s z (of_reader_lem a _ b s z (switches p v set_keep b (λ t c. (refl, refl, refl, refl)) s z))

  collects : (s' l : ℕ) (d : List ℕ) (p : ℕ) (a : Acc) (b : Built) → acc_at b p ≡ some a → uncollected a.req ≡ 1 → I b → R b → G (collected s' l d p b)
  unfolding collected status answering
  collects s' l d p a b e h s z =
      let k = w.frees p a b e h s in
      both G (eqb s' 0) (λ _. g _ _ k (st.frees p b z)) (λ _. g _ _ k (st.frees p b z))

  at-collect : (p : ℕ) (a : Acc) (q : Req) (b : Built) → acc_at b p ≡ some a → a.req ≡ q → I b → R b → G (collect p q b)
  unfolding collect status answering uncollected
  at-collect p a idle b e r s z = g _ b s z
  at-collect p a (reading q) b e r s z = g _ b s z
  at-collect p a (writing q) b e r s z = g _ b s z
  at-collect p a (read_done q) b e r s z = collects q.status q.log q.bytes p a b e (ap uncollected r) s z
  at-collect p a (write_done q) b e r s z = collects q.status q.log [] p a b e (ap uncollected r) s z

  at-close : (p : ℕ) (a : Acc) (q : Req) (b : Built) → acc_at b p ≡ some a → a.req ≡ q → I b → R b → G (close p a q b)
  unfolding close status answering with_req waits_read waits_write
  at-close p a idle b e r s z = settled-out _ _ (closes I J w p a a b e refl refl r s)
  at-close p a (reading q) b e r s z = settled-out _ _ (closes I J w p a (with_req idle a) (cancel p b) (cancel-at p a b e) refl refl refl (w.cancels p a b e (ap awaits r) s))
  at-close p a (writing q) b e r s z = settled-out _ _ (closes I J w p a (with_req idle a) (cancel p b) (cancel-at p a b e) refl refl refl (w.cancels p a b e (ap awaits r) s))
  at-close p a (read_done q) b e r s z = g _ b s z
  at-close p a (write_done q) b e r s z = g _ b s z

  may_read : (p : ℕ) (a : Acc) (n : ℕ) (b : Built) → acc_at b p ≡ some a → I b → R b → G (read p a n b)
  unfolding read status answering
  may_read p a n b e s z =
      both G (is_idle a.req)
      (λ i. both G a.writer (λ _. g _ b s z) (λ h. both G (readable n) (λ t. at_read p a n b e (is-idle a.req i) h (readable-bytes n t) s) (λ _. g _ b s z)))
      (λ _. g _ b s z)

  may_write : (p : ℕ) (a : Acc) (n : ℕ) (d : List ℕ) (b : Built) → length d ≡ count_bytes n → acc_at b p ≡ some a → I b → R b → G (write p a n d b)
  unfolding write status answering
  may_write p a n d b k e s z =
      both G (is_idle a.req)
      (λ i. both G a.writer
      (λ h. both G (leb (count_bytes n) (2 * b.geo.words)) (λ t. at-write p a n d b e (is-idle a.req i) h (rw k (leb-true _ _ t)) s) (λ _. g _ b s z))
      (λ _. g _ b s z))
      (λ _. g _ b s z)

  on-acc : (q : Ask) (p : ℕ) (f : Acc → Out) (b : Built) → I b → R b → ((a : Acc) → acc_at b p ≡ some a → G (f a)) → G (on_acc q p f b)
  unfolding on_acc
  on-acc q p f b s z h = opt G (acc_at b p) (λ _. g _ b s z) h

  looks-file : (b : Built) → I b → R b → G (look_file b)
  unfolding look_file
  looks-file b s z = opt G (oldest b.store.recs) (λ _. g _ b s z) (λ r _. g _ b s z)

  looks_req : (q : Req) (b : Built) → I b → R b → G (look_req q b)
  unfolding look_req
  looks_req idle b s z = looks-file b s z
  looks_req (reading q) b s z = looks-file b s z
  looks_req (writing q) b s z = looks-file b s z
  looks_req (read_done q) b s z = both G (eqb q.status 0) (λ _. g _ b s z) (λ _. looks-file b s z)
  looks_req (write_done q) b s z = looks-file b s z

  looks : (a : Acc) (b : Built) → I b → R b → G (look a b)
  unfolding look
  looks a b s z = both G a.writer (λ _. g _ b s z) (λ _. looks_req a.req b s z)

  saves : (n : ℕ) (b : Built) → I b → R b → G (save n b)
  unfolding save
  saves n b s z = both G (leb (length (sheet b.geo b.store.recs)) n) (λ _. g _ b s z) (λ _. g _ b s z)

  -- every call of a built file
  pub walked : (b : Built) (q : Ask) → Proper q → I b → R b → G (ask_built b q)
  unfolding ask_built Proper
  walked b (calls.build r f n x) k s z = g _ b s z
  walked b (calls.opens a sh m) k s z = at_open a sh m b s z
  walked b (calls.read p n) k s z = on-acc _ p _ b s z (λ a e. may_read p a n b e s z)
  walked b (calls.write p n d) k s z = on-acc _ p _ b s z (λ a e. may_write p a n d b k e s z)
  walked b (calls.control p c) k s z = on-acc _ p _ b s z (λ a e. at-control p a c b e s z)
  walked b (calls.collect p) k s z = on-acc _ p _ b s z (λ a e. at-collect p a a.req b e refl s z)
  walked b (calls.close p) k s z = on-acc _ p _ b s z (λ a e. at-close p a a.req b e refl s z)
  walked b calls.counts k s z = unfold counts answering in g _ b s z
  walked b (calls.load t) k s z = g _ b s z
  walked b (calls.save n) k s z = saves n b s z
  walked b (calls.look p) k s z = on-acc _ p _ b s z (λ a _. looks a b s z)

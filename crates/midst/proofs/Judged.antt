-- Each call by its tests: it is refused, and leaves the file as it was, or what is known of it is known.
use mathlib.Core.Path.{◌≡◌, refl, sym, ap, ◌∙◌}
use mathlib.Core.Bool.{Bool, true, false, ◌&&◌, ◌||◌, true≢false}
use mathlib.Core.List.{List}
use mathlib.Core.Option.{Option, none, some}
use Prim.Native.Nat.{ℕ, ◌*◌, ◌≤◌}
use native.Mathlib.Omega.{arith}
use lib.Dec.{ltb, leb, eqb}
use lib.ListN.{length}
use borrow.Author.Tests.{ltb-true, ltb-false, leb-true, leb-false, eqb-false, le-ltb}
use Rattle.kinds.specs.declared.Answer.TheVariants.{Controlled}
use Rattle.kinds.specs.declared.Control.{Control}
use Rattle.kinds.specs.declared.Control.TheVariants.{Timeout, Verify, Abort, Extended, Typed, Keep}
use Rattle.rules.specs.Limits.{places, most_mode}
use Rattle.rules.specs.Geometry.{data_blocks, in_range, fits_share}
use Rattle.rules.specs.State.{Req, idle, reading, writing, read_done, write_done, Acc, Built}
use Rattle.rules.specs.TransferCounts.{count_bytes, readable}
use Rattle.rules.specs.Requests.{count_acc, opened, acc_at, alter_acc, is_idle}
use Rattle.rules.specs.Reply.{Reply, Out, leaves, answering, status, unmade}
use Rattle.rules.specs.Open.{sharing_of, other_share, crowded, purged, open_reader, open_writer, room_to_open, open_file, build}
use Rattle.rules.specs.Transfer.{read, write, collect}
use Rattle.rules.specs.Controls.{set_extended, set_typed, set_keep, switched, of_reader, abort, while_idle, control}
use Rattle.rules.specs.Close.{close}
use Rattle.rules.specs.Sheet.{read_sheet, load, sheet, save}
use Rattle.rules.specs.Look.{oldest, look_file, look_req, look}
use Rattle.rules.specs.Calls.{Ask, refusal, on_acc, ask_built, ask_unbuilt}
use Rattle.rules.specs.Calls as calls
use Rattle.rules.proofs.Split.{both, opt, and-true}
use Rattle.laws.specs.Bounds.{least_refusal}
use Rattle.laws.specs.Outstanding.{waits_read, waits_write, awaits, uncollected, outstanding}
use Rattle.midst.specs.Outcome.{status_of, reply_status, refusal_of}
use Rattle.midst.specs.Accepted.{ReadKnown, WriteKnown, CollectKnown, CloseKnown, AbortKnown, ControlKnown, OpenKnown, BuildKnown, Known, KnownNew, Judging, refuses, accepts}
use Rattle.laws.proofs.Calls.{is-idle}

-- a request that is outstanding is not idle
busy : {q : Req} → q ≡ idle → outstanding q ≡ 1 → ⊥
unfolding waits_read waits_write uncollected
busy {q} e h = omega (arith, h, ap outstanding e)

neither : (s t : Bool) → s || t ≡ false → (s ≡ false) × (t ≡ false)
neither true t h = absurd (true≢false h)
neither false t h = (refl, h)

-- the number of a refusal is read back from its reply
pub refusal-back : (q : Ask) (n : ℕ) → least_refusal ≤ n → refusal_of (refusal q n) ≡ n
unfolding refusal_of reply_status status_of refusal
refusal-back (calls.build r b m x) n h = rw (le-ltb n least_refusal h)
refusal-back (calls.opens a s m) n h = rw (le-ltb n least_refusal h)
refusal-back (calls.read p m) n h = rw (le-ltb n least_refusal h)
refusal-back (calls.write p m d) n h = rw (le-ltb n least_refusal h)
refusal-back (calls.control p c) n h = rw (le-ltb n least_refusal h)
refusal-back (calls.collect p) n h = rw (le-ltb n least_refusal h)
refusal-back (calls.close p) n h = rw (le-ltb n least_refusal h)
refusal-back calls.counts n h = rw (le-ltb n least_refusal h)
refusal-back (calls.load t) n h = rw (le-ltb n least_refusal h)
refusal-back (calls.save m) n h = rw (le-ltb n least_refusal h)
refusal-back (calls.look p) n h = rw (le-ltb n least_refusal h)

-- K is known of what passes
pub passed : (q : Ask) (x : Reply → Out) (K : Out → Type 0) (o : Out) → ((r : Reply) → (x r).reply ≡ r) → Judging q x K o → refusal_of o.reply ≡ 0 → K o
passed q x K o h (refuses n l e) z =
    absurd (omega (arith, l, sym (refusal-back q n l) ∙ ap refusal_of (sym (h (refusal q n))) ∙ ap (λ (y : Out). refusal_of y.reply) (sym e) ∙ z))
passed q x K o h (accepts k) z = k

-- the calls of a built file, each by its tests

module _ (b : Built) where
  abbrev Left : Reply → Out
  Left r = leaves r b

  -- an accessor that is open
  judged-acc : (q : Ask) (p : ℕ) (K : Out → Type 0) (f : Acc → Out) → ((a : Acc) → acc_at b p ≡ some a → Judging q Left K (f a)) → Judging q Left K (on_acc q p f b)
  unfolding on_acc
  judged-acc q p K f h = opt (Judging q Left K) (acc_at b p) (λ _. refuses 32 (omega arith) refl) h

  judged-read : (p n : ℕ) (a : Acc) → acc_at b p ≡ some a → Judging (calls.read p n) Left (ReadKnown p n b) (read p a n b)
  unfolding read status answering refusal
  judged-read p n a e =
      both (Judging (calls.read p n) Left (ReadKnown p n b)) (is_idle a.req)
      (λ i. both (Judging (calls.read p n) Left (ReadKnown p n b)) a.writer
      (λ _. refuses 34 (omega arith) refl)
      (λ w. both (Judging (calls.read p n) Left (ReadKnown p n b)) (readable n)
      (λ t. accepts (record { a = a; at = e; idles = is-idle a.req i; side = w; count = t; out = refl }))
      (λ _. refuses 35 (omega arith) refl)))
      (λ _. refuses 33 (omega arith) refl)

  judged-write : (p n : ℕ) (d : List ℕ) (a : Acc) → acc_at b p ≡ some a → Judging (calls.write p n d) Left (WriteKnown p n d b) (write p a n d b)
  unfolding write status answering refusal
  judged-write p n d a e =
      both (Judging (calls.write p n d) Left (WriteKnown p n d b)) (is_idle a.req)
      (λ i. both (Judging (calls.write p n d) Left (WriteKnown p n d b)) a.writer
      (λ w. both (Judging (calls.write p n d) Left (WriteKnown p n d b)) (leb (count_bytes n) (2 * b.geo.words))
      (λ t. accepts (record { a = a; at = e; idles = is-idle a.req i; side = w; count = t; out = refl }))
      (λ _. refuses 35 (omega arith) refl))
      (λ _. refuses 34 (omega arith) refl))
      (λ _. refuses 33 (omega arith) refl)

  judged-collect : (p : ℕ) (a : Acc) (q : Req) → acc_at b p ≡ some a → a.req ≡ q → Judging (calls.collect p) Left (CollectKnown p b) (collect p q b)
  unfolding collect status answering refusal waits_read waits_write uncollected
  judged-collect p a idle e r = refuses 39 (omega arith) refl
  judged-collect p a (reading u) e r = accepts (record { a = a; at = e; outstands = λ i. busy i (ap outstanding r); out = sym (ap (λ (q : Req). collect p q b) r) })
  judged-collect p a (writing u) e r = accepts (record { a = a; at = e; outstands = λ i. busy i (ap outstanding r); out = sym (ap (λ (q : Req). collect p q b) r) })
  judged-collect p a (read_done u) e r = accepts (record { a = a; at = e; outstands = λ i. busy i (ap outstanding r); out = sym (ap (λ (q : Req). collect p q b) r) })
  judged-collect p a (write_done u) e r = accepts (record { a = a; at = e; outstands = λ i. busy i (ap outstanding r); out = sym (ap (λ (q : Req). collect p q b) r) })

  -- a request by its kind
  judged-close : (p : ℕ) (a : Acc) (q : Req) → acc_at b p ≡ some a → a.req ≡ q → Judging (calls.close p) Left (CloseKnown p b) (close p a q b)
  unfolding close status answering refusal waits_read waits_write uncollected
  judged-close p a idle e r =
      accepts (record { a = a; at = e; collected = ap uncollected r; idles = λ _. refl; waits = λ h. absurd (omega (arith, h, ap awaits r)); out = sym (ap (λ (q : Req). close p a q b) r) })
  judged-close p a (reading u) e r =
      accepts (record { a = a; at = e; collected = ap uncollected r; idles = λ i. absurd (busy i (ap outstanding r)); waits = λ _. refl; out = sym (ap (λ (q : Req). close p a q b) r) })
  judged-close p a (writing u) e r =
      accepts (record { a = a; at = e; collected = ap uncollected r; idles = λ i. absurd (busy i (ap outstanding r)); waits = λ _. refl; out = sym (ap (λ (q : Req). close p a q b) r) })
  judged-close p a (read_done q) e r = refuses 33 (omega arith) refl
  judged-close p a (write_done q) e r = refuses 33 (omega arith) refl

  judged-abort : (p : ℕ) (c : Option Control) (a : Acc) (q : Req) → acc_at b p ≡ some a → a.req ≡ q → Judging (calls.control p c) Left (AbortKnown p b) (abort p q b)
  unfolding abort status answering refusal waits_read waits_write uncollected
  judged-abort p c a idle e r = refuses 39 (omega arith) refl
  judged-abort p c a (reading u) e r =
      accepts (record { a = a; at = e; outstands = λ i. busy i (ap outstanding r); waits = λ _. refl; completed = λ h. absurd (omega (arith, h, ap uncollected r)); out = sym (ap (λ (q : Req). abort p q b) r) })
  judged-abort p c a (writing u) e r =
      accepts (record { a = a; at = e; outstands = λ i. busy i (ap outstanding r); waits = λ _. refl; completed = λ h. absurd (omega (arith, h, ap uncollected r)); out = sym (ap (λ (q : Req). abort p q b) r) })
  judged-abort p c a (read_done u) e r =
      accepts (record { a = a; at = e; outstands = λ i. busy i (ap outstanding r); waits = λ h. absurd (omega (arith, h, ap awaits r)); completed = λ _. refl; out = sym (ap (λ (q : Req). abort p q b) r) })
  judged-abort p c a (write_done u) e r =
      accepts (record { a = a; at = e; outstands = λ i. busy i (ap outstanding r); waits = λ h. absurd (omega (arith, h, ap awaits r)); completed = λ _. refl; out = sym (ap (λ (q : Req). abort p q b) r) })

  -- the tests of the controls
  judged-idle : (p : ℕ) (c : Option Control) (K : Out → Type 0) (a : Acc) (o : Out) → (a.req ≡ idle → Judging (calls.control p c) Left K o) → Judging (calls.control p c) Left K (while_idle a b o)
  unfolding while_idle status answering refusal
  judged-idle p c K a o h = both (Judging (calls.control p c) Left K) (is_idle a.req) (λ i. h (is-idle a.req i)) (λ _. refuses 33 (omega arith) refl)

  judged-reader : (p : ℕ) (c : Option Control) (K : Out → Type 0) (a : Acc) (o : Out) → (a.writer ≡ false → Judging (calls.control p c) Left K o) → Judging (calls.control p c) Left K (of_reader a b o)
  unfolding of_reader status answering refusal
  judged-reader p c K a o h = both (Judging (calls.control p c) Left K) a.writer (λ _. refuses 34 (omega arith) refl) h

  judged-switch : (p v : ℕ) (c : Option Control) (f : Bool → Acc → Acc) (K : Out → Type 0) → (v ≤ 1 → K (answering Controlled (alter_acc p (f (eqb v 1)) b))) → Judging (calls.control p c) Left K (switched p v f b)
  unfolding switched status answering refusal
  judged-switch p v c f K h = both (Judging (calls.control p c) Left K) (leb v 1) (λ t. accepts (h (leb-true v 1 t))) (λ _. refuses 35 (omega arith) refl)

  judged-control : (p : ℕ) (c : Option Control) (a : Acc) → acc_at b p ≡ some a → Judging (calls.control p c) Left (ControlKnown p c b) (control p a c b)
  unfolding control ControlKnown
  judged-control p (some (Timeout v)) a e = judged-idle p _ _ a _ (λ i. accepts (record { a = a; at = e; idles = i; out = refl }))
  judged-control p (some (Verify v)) a e = judged-idle p _ _ a _ (λ i. accepts (record { a = a; at = e; idles = i; out = refl }))
  judged-control p (some (Abort v)) a e = judged-abort p _ a a.req e refl
  judged-control p (some (Extended v)) a e = judged-idle p _ _ a _ (λ i. judged-switch p v _ set_extended _ (λ l. record { a = a; at = e; idles = i; low = l; out = refl }))
  judged-control p (some (Typed v)) a e =
      judged-idle p _ _ a _ (λ i. judged-reader p _ _ a _ (λ w. judged-switch p v _ set_typed _ (λ l. record { a = a; at = e; idles = i; side = w; low = l; out = refl })))
  judged-control p (some (Keep v)) a e =
      judged-idle p _ _ a _ (λ i. judged-reader p _ _ a _ (λ w. judged-switch p v _ set_keep _ (λ l. record { a = a; at = e; idles = i; side = w; low = l; out = refl })))
  judged-control p none a e = judged-idle p _ _ a _ (λ i. unfold status answering refusal in refuses 35 (omega arith) refl)

  -- what the tests of an open give
  opens-known : (access share multi : ℕ) {o : Out} → leb access most_mode && leb share most_mode && leb multi most_mode ≡ true
      → eqb multi 3 || ltb 0 (count_acc (other_share (sharing_of share)) b.accs) || crowded (ltb 0 access) (sharing_of share) b ≡ false → leb places (opened b) ≡ false
      → (access ≡ 0 → o ≡ open_reader (sharing_of share) b) → (1 ≤ access → room_to_open access b ≡ true) → (1 ≤ access → o ≡ open_writer (sharing_of share) (purged access b))
      → OpenKnown access share multi b o
  opens-known access share multi m k l rd rm wr =
      let u = and-true (leb access most_mode && leb share most_mode) (leb multi most_mode) m in
      let v = and-true (leb access most_mode) (leb share most_mode) u.0 in
      let x = neither (eqb multi 3 || ltb 0 (count_acc (other_share (sharing_of share)) b.accs)) (crowded (ltb 0 access) (sharing_of share) b) k in
      let y = neither (eqb multi 3) (ltb 0 (count_acc (other_share (sharing_of share)) b.accs)) x.0 in
      record {
        access-low = leb-true access most_mode v.0;
        share-low = leb-true share most_mode v.1;
        multi-low = leb-true multi most_mode u.1;
        not_three = eqb-false multi 3 y.0;
        same = omega (arith, ltb-false 0 (count_acc (other_share (sharing_of share)) b.accs) y.1);
        apart = x.1;
        place = leb-false places (opened b) l;
        reader = rd;
        room = rm;
        writer = wr;
      }

  judged-open : (access share multi : ℕ) → Judging (calls.opens access share multi) Left (OpenKnown access share multi b) (open_file access share multi b)
  unfolding open_file status answering refusal
  judged-open access share multi =
      let G : Out → Type 0 = Judging (calls.opens access share multi) Left (OpenKnown access share multi b) in
      both G (leb access most_mode && leb share most_mode && leb multi most_mode)
      (λ m. both G (eqb multi 3 || ltb 0 (count_acc (other_share (sharing_of share)) b.accs) || crowded (ltb 0 access) (sharing_of share) b)
      (λ _. refuses 40 (omega arith) refl)
      (λ k. both G (leb places (opened b)) (λ _. refuses 41 (omega arith) refl)
      (λ l. both G (ltb 0 access)
      (λ w. both G (room_to_open access b)
      (λ t. accepts (opens-known access share multi m k l (λ z. absurd (omega (arith, ltb-true 0 access w, z))) (λ _. t) (λ _. refl)))
      (λ _. refuses 42 (omega arith) refl))
      (λ w. accepts
      (opens-known access share multi m k l (λ _. refl) (λ g. absurd (omega (arith, ltb-false 0 access w, g))) (λ g. absurd (omega (arith, ltb-false 0 access w, g))))))))
      (λ _. refuses 35 (omega arith) refl)

  -- save and look
  judged-save : (n : ℕ) → Judging (calls.save n) Left (λ o. refusal_of o.reply ≡ 0) (save n b)
  unfolding save refusal refusal_of reply_status leaves
  judged-save n =
      both (Judging (calls.save n) Left (λ o. refusal_of o.reply ≡ 0)) (leb (length (sheet b.geo b.store.recs)) n) (λ _. accepts refl)
      (λ _. refuses 44 (omega arith) refl)

  judged-file : (p : ℕ) → Judging (calls.look p) Left (λ o. refusal_of o.reply ≡ 0) (look_file b)
  unfolding look_file refusal refusal_of reply_status leaves
  judged-file p =
      opt (Judging (calls.look p) Left (λ o. refusal_of o.reply ≡ 0)) (oldest b.store.recs) (λ _. refuses 39 (omega arith) refl) (λ r _. accepts refl)

  judged-req : (p : ℕ) (q : Req) → Judging (calls.look p) Left (λ o. refusal_of o.reply ≡ 0) (look_req q b)
  unfolding look_req refusal refusal_of reply_status leaves
  judged-req p idle = judged-file p
  judged-req p (reading q) = judged-file p
  judged-req p (writing q) = judged-file p
  judged-req p (read_done q) = both (Judging (calls.look p) Left (λ o. refusal_of o.reply ≡ 0)) (eqb q.status 0) (λ _. accepts refl) (λ _. judged-file p)
  judged-req p (write_done q) = judged-file p

  judged-look : (p : ℕ) (a : Acc) → Judging (calls.look p) Left (λ o. refusal_of o.reply ≡ 0) (look a b)
  unfolding look refusal
  judged-look p a = both (Judging (calls.look p) Left (λ o. refusal_of o.reply ≡ 0)) a.writer (λ _. refuses 34 (omega arith) refl) (λ _. judged-req p a.req)

  -- every call of a built file
  pub judged : (q : Ask) → Judging q Left (Known q b) (ask_built b q)
  unfolding ask_built Known
  judged (calls.build r f n x) = refuses 31 (omega arith) refl
  judged (calls.opens access share multi) = judged-open access share multi
  judged (calls.read p n) = judged-acc _ p _ _ (judged-read p n)
  judged (calls.write p n d) = judged-acc _ p _ _ (judged-write p n d)
  judged (calls.control p c) = judged-acc _ p _ _ (judged-control p c)
  judged (calls.collect p) = judged-acc _ p _ _ (λ a e. judged-collect p a a.req e refl)
  judged (calls.close p) = judged-acc _ p _ _ (λ a e. judged-close p a a.req e refl)
  judged calls.counts = accepts refl
  judged (calls.load t) = refuses 31 (omega arith) refl
  judged (calls.save n) = judged-save n
  judged (calls.look p) = judged-acc _ p _ _ (λ a _. judged-look p a)

-- the calls of a file that is not built

judged-build : (r f n x : ℕ) → Judging (calls.build r f n x) unmade (BuildKnown r f n x) (build r f n x)
unfolding build refusal
judged-build r f n x =
    both (Judging (calls.build r f n x) unmade (BuildKnown r f n x)) (in_range r f n x)
    (λ t. both (Judging (calls.build r f n x) unmade (BuildKnown r f n x)) (fits_share r f (data_blocks n f x))
    (λ h. accepts (record { numbers = t; fits = h; out = refl }))
    (λ _. refuses 38 (omega arith) refl))
    (λ _. refuses 35 (omega arith) refl)

judged-load : (t : List ℕ) → Judging (calls.load t) unmade (λ o. refusal_of o.reply ≡ 0) (load t)
unfolding load refusal refusal_of reply_status leaves
judged-load t = opt (Judging (calls.load t) unmade (λ o. refusal_of o.reply ≡ 0)) (read_sheet t) (λ _. refuses 43 (omega arith) refl) (λ s _. accepts refl)

pub judged-new : (q : Ask) → Judging q unmade (KnownNew q) (ask_unbuilt q)
unfolding ask_unbuilt KnownNew
judged-new (calls.build r f n x) = judged-build r f n x
judged-new (calls.opens access share multi) = refuses 31 (omega arith) refl
judged-new (calls.read p n) = refuses 31 (omega arith) refl
judged-new (calls.write p n d) = refuses 31 (omega arith) refl
judged-new (calls.control p c) = refuses 31 (omega arith) refl
judged-new (calls.collect p) = refuses 31 (omega arith) refl
judged-new (calls.close p) = refuses 31 (omega arith) refl
judged-new calls.counts = refuses 31 (omega arith) refl
judged-new (calls.load t) = judged-load t
judged-new (calls.save n) = refuses 31 (omega arith) refl
judged-new (calls.look p) = refuses 31 (omega arith) refl

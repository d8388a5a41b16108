-- What is known of a call of a file that is not refused, and what a refused one leaves. b is the file, o the outcome of the call.
use Rattle.std.specs.Prelude.{◌≡◌, Bool, true, false, List, ℕ, ◌*◌, ◌≤◌, ◌<◌, ltb, leb, eqb}
use Rattle.std.proofs.Math.Option.{Option, none, some}
use Rattle.kinds.specs.declared.Answer.TheVariants.{Controlled, Closed}
use Rattle.kinds.specs.declared.Answer.TheVariants as answer
use Rattle.kinds.specs.declared.Control.{Control}
use Rattle.kinds.specs.declared.Control.TheVariants.{Timeout, Verify, Abort, Extended, Typed, Keep}
use Rattle.rules.specs.Limits.{files, places, most_mode}
use Rattle.rules.specs.Geometry.{data_blocks, capacity, in_range, fits_share}
use Rattle.rules.specs.State.{Req, idle, reading, writing, read_done, write_done, Acc, Built, unbuilt, built}
use Rattle.rules.specs.Store.{empty_store}
use Rattle.rules.specs.TransferCounts.{count_bytes, readable}
use Rattle.rules.specs.Requests.{count_acc, opened, acc_at, alter_acc, cancel}
use Rattle.rules.specs.Settle.{settle}
use Rattle.rules.specs.Reply.{Reply, Out, answering, status}
use Rattle.rules.specs.Open.{new_file, geo_of, sharing_of, other_share, crowded, purged, open_reader, open_writer, room_to_open}
use Rattle.rules.specs.Transfer.{read_on, write_on, collect}
use Rattle.rules.specs.Controls.{set_timeout, set_extended, set_typed, set_keep, abort}
use Rattle.rules.specs.Close.{closed, close}
use Rattle.rules.specs.FileCounts.{counts}
use Rattle.rules.specs.Calls.{Ask, refusal, ask}
use Rattle.rules.specs.Calls as calls
use Rattle.rules.specs.Desk.{Desk, on, file_of, answered}
use Rattle.rules.specs.Allocation.{Alloc, alloc_asked}
use Rattle.laws.specs.Bounds.{least_refusal}
use Rattle.laws.specs.Outstanding.{req_at, awaits, uncollected}
use Rattle.midst.specs.Outcome.{refusal_of}

pub record ReadKnown (p n : ℕ) (b : Built) (o : Out) : Type 0 where
  pub a : Acc
  pub at : acc_at b p ≡ some a
  pub idles : a.req ≡ idle
  pub side : a.writer ≡ false
  pub count : readable n ≡ true
  pub out : o ≡ read_on p a n b

pub record WriteKnown (p n : ℕ) (d : List ℕ) (b : Built) (o : Out) : Type 0 where
  pub a : Acc
  pub at : acc_at b p ≡ some a
  pub idles : a.req ≡ idle
  pub side : a.writer ≡ true
  pub count : leb (count_bytes n) (2 * b.geo.words) ≡ true
  pub out : o ≡ write_on p a n d b

pub record CollectKnown (p : ℕ) (b : Built) (o : Out) : Type 0 where
  pub a : Acc
  pub at : acc_at b p ≡ some a
  pub outstands : a.req ≡ idle → ⊥
  pub out : o ≡ collect p a.req b

-- a close that is not refused: there is no request, or one that waits and is cancelled
pub record CloseKnown (p : ℕ) (b : Built) (o : Out) : Type 0 where
  pub a : Acc
  pub at : acc_at b p ≡ some a
  pub collected : uncollected a.req ≡ 0
  pub idles : a.req ≡ idle → o ≡ answering Closed (settle (closed p a b))
  pub waits : awaits a.req ≡ 1 → o ≡ answering Closed (settle (closed p a (cancel p b)))
  pub out : o ≡ close p a a.req b

-- a control that changes an accessor
pub record SetKnown (p : ℕ) (f : Acc → Acc) (b : Built) (o : Out) : Type 0 where
  pub a : Acc
  pub at : acc_at b p ≡ some a
  pub idles : a.req ≡ idle
  pub out : o ≡ answering Controlled (alter_acc p f b)

-- a verify, which has nothing to do
pub record VerifyKnown (p : ℕ) (b : Built) (o : Out) : Type 0 where
  pub a : Acc
  pub at : acc_at b p ≡ some a
  pub idles : a.req ≡ idle
  pub out : o ≡ answering Controlled b

-- a control that changes an accessor by a parameter that is 0 or 1
pub record SwitchKnown (p v : ℕ) (f : Bool → Acc → Acc) (b : Built) (o : Out) : Type 0 where
  pub a : Acc
  pub at : acc_at b p ≡ some a
  pub idles : a.req ≡ idle
  pub low : v ≤ 1
  pub out : o ≡ answering Controlled (alter_acc p (f (eqb v 1)) b)

-- a control that changes a reader by a parameter that is 0 or 1
pub record ReaderKnown (p v : ℕ) (f : Bool → Acc → Acc) (b : Built) (o : Out) : Type 0 where
  pub a : Acc
  pub at : acc_at b p ≡ some a
  pub idles : a.req ≡ idle
  pub side : a.writer ≡ false
  pub low : v ≤ 1
  pub out : o ≡ answering Controlled (alter_acc p (f (eqb v 1)) b)

pub record AbortKnown (p : ℕ) (b : Built) (o : Out) : Type 0 where
  pub a : Acc
  pub at : acc_at b p ≡ some a
  pub outstands : a.req ≡ idle → ⊥
  pub waits : awaits a.req ≡ 1 → o ≡ answering Controlled (cancel p b)
  pub completed : uncollected a.req ≡ 1 → o ≡ status 5 2 b
  pub out : o ≡ abort p a.req b

unfoldable pub ControlKnown : ℕ → Option Control → Built → Out → Type 0
ControlKnown p (some (Timeout v)) b o = SetKnown p (set_timeout v) b o
ControlKnown p (some (Verify v)) b o = VerifyKnown p b o
ControlKnown p (some (Abort v)) b o = AbortKnown p b o
ControlKnown p (some (Extended v)) b o = SwitchKnown p v set_extended b o
ControlKnown p (some (Typed v)) b o = ReaderKnown p v set_typed b o
ControlKnown p (some (Keep v)) b o = ReaderKnown p v set_keep b o
ControlKnown p none b o = ⊥

pub record OpenKnown (access share multi : ℕ) (b : Built) (o : Out) : Type 0 where
  pub access-low : access ≤ most_mode
  pub share-low : share ≤ most_mode
  pub multi-low : multi ≤ most_mode
  pub not_three : multi ≡ 3 → ⊥
  pub same : count_acc (other_share (sharing_of share)) b.accs ≡ 0
  pub apart : crowded (ltb 0 access) (sharing_of share) b ≡ false
  pub place : opened b < places
  pub reader : access ≡ 0 → o ≡ open_reader (sharing_of share) b
  pub room : 1 ≤ access → room_to_open access b ≡ true
  pub writer : 1 ≤ access → o ≡ open_writer (sharing_of share) (purged access b)

pub record BuildKnown (r b n x : ℕ) (o : Out) : Type 0 where
  pub numbers : in_range r b n x ≡ true
  pub fits : fits_share r b (data_blocks n b x) ≡ true
  pub out : o ≡ answering (answer.Built (capacity b (data_blocks n b x))) (new_file (geo_of r b (data_blocks n b x)) empty_store)

-- what is known of an accepted call of a built file; of save and look only that they are not refused
unfoldable pub Known : Ask → Built → Out → Type 0
Known (calls.build r f n x) b o = ⊥
Known (calls.opens access share multi) b o = OpenKnown access share multi b o
Known (calls.read p n) b o = ReadKnown p n b o
Known (calls.write p n d) b o = WriteKnown p n d b o
Known (calls.control p c) b o = ControlKnown p c b o
Known (calls.collect p) b o = CollectKnown p b o
Known (calls.close p) b o = CloseKnown p b o
Known calls.counts b o = o ≡ counts b
Known (calls.load t) b o = ⊥
Known (calls.save n) b o = refusal_of o.reply ≡ 0
Known (calls.look p) b o = refusal_of o.reply ≡ 0

-- what is known of an accepted call of a file that is not built; of load only that it is not refused
unfoldable pub KnownNew : Ask → Out → Type 0
KnownNew (calls.build r f n x) o = BuildKnown r f n x o
KnownNew (calls.opens access share multi) o = ⊥
KnownNew (calls.read p n) o = ⊥
KnownNew (calls.write p n d) o = ⊥
KnownNew (calls.control p c) o = ⊥
KnownNew (calls.collect p) o = ⊥
KnownNew (calls.close p) o = ⊥
KnownNew calls.counts o = ⊥
KnownNew (calls.load t) o = refusal_of o.reply ≡ 0
KnownNew (calls.save n) o = ⊥
KnownNew (calls.look p) o = ⊥

-- a call that leaves x if it is refused, and of which K is known if it is not
pub data Judging (q : Ask) (x : Reply → Out) (K : Out → Type 0) (o : Out) : Type 0 where
  refuses : (n : ℕ) → least_refusal ≤ n → o ≡ x (refusal q n) → Judging q x K o
  accepts : K o → Judging q x K o

-- a call of file f of desk d that is not refused: the file is built, and K is known of it and of the call's outcome
pub record NotRefused (K : Built → Out → Type 0) (d : Desk) (f : ℕ) (q : Ask) : Type 0 where
  pub file : f < files
  pub b : Built
  pub stands : file_of d f ≡ built b
  pub known : K b (ask (file_of d f) q)

-- a call of file f of desk d that is not refused, although the file is not built: K is known of the call's outcome
pub record NotRefusedNew (K : Out → Type 0) (d : Desk) (f : ℕ) (q : Ask) : Type 0 where
  pub file : f < files
  pub stands : file_of d f ≡ unbuilt
  pub known : K (ask (file_of d f) q)

-- the status that a completed request brings
unfoldable pub end_of : Req → ℕ
end_of idle = 0
end_of (reading q) = 0
end_of (writing q) = 0
end_of (read_done q) = q.status
end_of (write_done q) = q.status

-- no completed request brings a refusal number
abbrev pub Ended : Built → Type 0
Ended b = (x : ℕ) → end_of (req_at b.accs x) < least_refusal

-- "A refusal changes nothing"
pub record Refused (d : Desk) (s : Alloc) (f : ℕ) (q : Ask) : Type 0 where
  pub desk : (answered d (on f q)).desk ≡ d
  pub alloc : alloc_asked d (on f q) s ≡ s
  pub reply : (answered d (on f q)).reply ≡ refusal q (refusal_of (answered d (on f q)).reply)

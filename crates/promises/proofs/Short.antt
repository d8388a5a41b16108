-- What an event asks of a file is answered shortly: operation and status at least, and what the answer memory has room for at most. The second byte is the
-- status, and it is not one of the two numbers that are given before a file is looked at.
use Prim.Native.Nat.{ℕ, ◌*◌, ◌≤◌, ◌<◌}
use mathlib.Core.Path.{◌≡◌, refl, ap}
use mathlib.Core.Bool.{Bool, true, cond, ◌&&◌, ◌||◌}
use mathlib.Core.List.{List, [], ◌++◌, append-nil}
use mathlib.Core.Option.{Option, none, some}
use native.Mathlib.Omega.{arith}
use lib.Dec.{ltb, leb, eqb}
use lib.ListN.{length, get_or, take, length-append, length-take}
use borrow.Author.Tests.{lt-ltb}
use Rattle.words.specs.Word.{word}
use Rattle.kinds.specs.declared.Answer.{Answer}
use Rattle.kinds.specs.declared.Answer.TheVariants.{Opened, Read, Written, Controlled, Collected, Closed, Passed, Counted, Status}
use Rattle.kinds.specs.declared.Answer.TheVariants as answer
use Rattle.kinds.specs.declared.Control.{Control}
use Rattle.kinds.specs.declared.Control.TheVariants.{Timeout, Verify, Abort, Extended, Typed, Keep}
use Rattle.rules.specs.Limits.{places, most_mode, buffer_bytes, answer_head, answer_room}
use Rattle.rules.specs.State.{Rec, Req, idle, reading, writing, read_done, write_done, Acc, Built}
use Rattle.rules.specs.Store.{fetch}
use Rattle.rules.specs.TransferCounts.{count_bytes, readable}
use Rattle.rules.specs.Geometry.{in_range, fits_share, data_blocks}
use Rattle.rules.specs.Requests.{is_idle, writers, readers, fits, opened, count_acc}
use Rattle.rules.specs.Settle.{handed}
use Rattle.rules.specs.Answers.{answer_bytes, most_answer}
use Rattle.rules.specs.Reply.{Reply, answers, Out, leaves, answering, status, unmade}
use Rattle.rules.specs.Open.{build, sharing_of, other_share, crowded, open_reader, open_writer, room_to_open, open_file}
use Rattle.rules.specs.Transfer.{may_wait, read_on, read, is_nil, write_on, write, collected, collect}
use Rattle.rules.specs.Controls.{switched, of_reader, abort, while_idle, control}
use Rattle.rules.specs.Close.{close}
use Rattle.rules.specs.Calls.{Ask, refusal}
use Rattle.rules.specs.Calls as calls
use Rattle.rules.specs.Desk.{reply_bytes}
use Rattle.rules.proofs.Split.{both, opt}
use Rattle.laws.specs.Bounds.{least_refusal, Bounded}
use Rattle.laws.proofs.Calls.{readable-bytes}
use Rattle.midst.specs.Outcome.{status_of, reply_status}

-- whether a file gives this status; 29 and 30 are given before a file is looked at
abbrev pub of_file : ℕ → Bool
of_file st = ltb st least_refusal || ltb 30 st

pub record Short (r : Reply) : Type 0 where
  pub least : 2 ≤ length (reply_bytes r)
  pub most : length (reply_bytes r) ≤ answer_room
  pub second : get_or (reply_bytes r) 1 29 ≡ reply_status r
  pub number : of_file (reply_status r) ≡ true

abbrev pub ShortOut : Out → Type 0
ShortOut o = Short o.reply

answer-short : (a : Answer) → (2 ≤ length (answer_bytes a)) × (length (answer_bytes a) ≤ most_answer)
unfolding answer_bytes
answer-short (answer.Built c) = (omega arith, omega arith)
answer-short (Opened p n) = (omega arith, omega arith)
answer-short (Read l) = (omega arith, omega arith)
answer-short (Written l) = (omega arith, omega arith)
answer-short Controlled = (omega arith, omega arith)
answer-short (Collected l) = (omega arith, omega arith)
answer-short Closed = (omega arith, omega arith)
answer-short Passed = (omega arith, omega arith)
answer-short (Counted a b c d) = (omega arith, omega arith)
answer-short (Status op st) = (omega arith, omega arith)

second-byte : (a : Answer) (d : List ℕ) → get_or (answer_bytes a ++ d) 1 29 ≡ status_of a
unfolding answer_bytes status_of
second-byte (answer.Built c) d = refl
second-byte (Opened p n) d = refl
second-byte (Read l) d = refl
second-byte (Written l) d = refl
second-byte Controlled d = refl
second-byte (Collected l) d = refl
second-byte Closed d = refl
second-byte Passed d = refl
second-byte (Counted r s v w) d = refl
second-byte (Status op st) d = refl

-- an answer without data is short
pub plain : (a : Answer) → of_file (status_of a) ≡ true → Short (answers a [])
unfolding reply_bytes reply_status
plain a z =
    let (least, most) = answer-short a in
    let e = ap length (append-nil (answer_bytes a)) in
    record { least = omega (arith, least, e); most = omega (arith, most, e); second = second-byte a []; number = z }

-- an answer with the data of a record is short
with-data : (a : Answer) (d : List ℕ) → length (answer_bytes a) ≡ answer_head → length d ≤ buffer_bytes → of_file (status_of a) ≡ true → Short (answers a d)
unfolding reply_bytes reply_status
with-data a d e h z =
    let l = length-append (answer_bytes a) d in
    record { least = omega (arith, e, l); most = omega (arith, e, h, l); second = second-byte a d; number = z }

take_short : (n : ℕ) (l : List ℕ) → length (take n l) ≤ n
take_short n l = omega (arith, length-take n l)

handed-short : (typed : Bool) (n : ℕ) (r : Rec) → n ≤ buffer_bytes → length (handed typed n r) ≤ buffer_bytes
unfolding handed
handed-short typed n r h = omega (arith, h, take_short n (cond typed (word r.typ ++ word r.wid ++ r.body) r.body))

pub done-short : (a : Answer) (b : Built) → of_file (status_of a) ≡ true → ShortOut (answering a b)
unfolding answering leaves
done-short a b z = plain a z

status-short : (op st : ℕ) (b : Built) → of_file st ≡ true → ShortOut (status op st b)
unfolding status status_of
status-short op st b z = done-short (Status op st) b z

-- what an event asks of a file
unfoldable pub IsEvent : Ask → Type 0
IsEvent (calls.build r b n x) = Unit {0}
IsEvent (calls.opens a s m) = Unit {0}
IsEvent (calls.read p n) = Unit {0}
IsEvent (calls.write p n d) = Unit {0}
IsEvent (calls.control p c) = Unit {0}
IsEvent (calls.collect p) = Unit {0}
IsEvent (calls.close p) = Unit {0}
IsEvent calls.counts = Unit {0}
IsEvent (calls.load t) = ⊥
IsEvent (calls.save n) = ⊥
IsEvent (calls.look p) = ⊥

pub refusal-short : (q : Ask) → IsEvent q → (st : ℕ) → of_file st ≡ true → Short (refusal q st)
unfolding refusal IsEvent status_of
refusal-short (calls.build r b n x) i st z = plain (Status 1 st) z
refusal-short (calls.opens a s m) i st z = plain (Status 2 st) z
refusal-short (calls.read p n) i st z = plain (Status 3 st) z
refusal-short (calls.write p n d) i st z = plain (Status 4 st) z
refusal-short (calls.control p c) i st z = plain (Status 5 st) z
refusal-short (calls.collect p) i st z = plain (Status 6 st) z
refusal-short (calls.close p) i st z = plain (Status 7 st) z
refusal-short calls.counts i st z = plain (Status 9 st) z
refusal-short (calls.load t) i st z = absurd i
refusal-short (calls.save n) i st z = absurd i
refusal-short (calls.look p) i st z = absurd i

pub build-short : (r b n x : ℕ) → ShortOut (build r b n x)
unfolding build unmade status_of
build-short r b n x =
    both ShortOut (in_range r b n x)
    (λ _. both ShortOut (fits_share r b (data_blocks n b x)) (λ _. done-short _ _ refl) (λ _. plain _ refl))
    (λ _. plain _ refl)

pub open-short : (access share multi : ℕ) (b : Built) → ShortOut (open_file access share multi b)
unfolding open_file open_reader open_writer status_of
open-short access share multi b =
    both ShortOut (leb access most_mode && leb share most_mode && leb multi most_mode)
    (λ _. both ShortOut (eqb multi 3 || ltb 0 (count_acc (other_share (sharing_of share)) b.accs) || crowded (ltb 0 access) (sharing_of share) b)
    (λ _. status-short 2 40 b refl)
    (λ _. both ShortOut (leb places (opened b)) (λ _. status-short 2 41 b refl)
    (λ _. both ShortOut (ltb 0 access)
    (λ _. both ShortOut (room_to_open access b) (λ _. done-short _ _ refl) (λ _. status-short 2 42 b refl))
    (λ _. done-short _ _ refl))))
    (λ _. status-short 2 35 b refl)

read-on : (p : ℕ) (a : Acc) (n : ℕ) (b : Built) → count_bytes n ≤ buffer_bytes → ShortOut (read_on p a n b)
unfolding read_on
read-on p a n b h =
    opt ShortOut (fetch b.geo a.typed a.keep b.store).got
    (λ _. both ShortOut (may_wait (writers b) a) (λ _. status-short 3 1 _ refl) (λ _. status-short 3 2 _ refl))
    (λ r _. unfold leaves answer_bytes status_of in with-data (Read _) (handed a.typed (count_bytes n) r) refl (handed-short a.typed (count_bytes n) r h) refl)

pub read_short : (p : ℕ) (a : Acc) (n : ℕ) (b : Built) → ShortOut (read p a n b)
unfolding read
read_short p a n b =
    both ShortOut (is_idle a.req)
    (λ _. both ShortOut a.writer (λ _. status-short 3 34 b refl)
    (λ _. both ShortOut (readable n) (λ t. read-on p a n b (readable-bytes n t)) (λ _. status-short 3 35 b refl)))
    (λ _. status-short 3 33 b refl)

write-on : (p : ℕ) (a : Acc) (n : ℕ) (d : List ℕ) (b : Built) → ShortOut (write_on p a n d b)
unfolding write_on status_of
write-on p a n d b =
    both ShortOut (fits b && is_nil b.wq) (λ _. done-short _ _ refl)
    (λ _. both ShortOut (may_wait (readers b) a) (λ _. status-short 4 1 _ refl) (λ _. status-short 4 2 _ refl))

pub write-short : (p : ℕ) (a : Acc) (n : ℕ) (d : List ℕ) (b : Built) → ShortOut (write p a n d b)
unfolding write
write-short p a n d b =
    both ShortOut (is_idle a.req)
    (λ _. both ShortOut a.writer
    (λ _. both ShortOut (leb (count_bytes n) (2 * b.geo.words)) (λ _. write-on p a n d b) (λ _. status-short 4 35 b refl))
    (λ _. status-short 4 34 b refl))
    (λ _. status-short 4 33 b refl)

idle-short : (a : Acc) (o : Out) (b : Built) → ShortOut o → ShortOut (while_idle a b o)
unfolding while_idle
idle-short a o b h = both ShortOut (is_idle a.req) (λ _. h) (λ _. status-short 5 33 b refl)

reader-short : (a : Acc) (o : Out) (b : Built) → ShortOut o → ShortOut (of_reader a b o)
unfolding of_reader
reader-short a o b h = both ShortOut a.writer (λ _. status-short 5 34 b refl) (λ _. h)

switch-short : (p v : ℕ) (set : Bool → Acc → Acc) (b : Built) → ShortOut (switched p v set b)
unfolding switched status_of
switch-short p v set b = both ShortOut (leb v 1) (λ _. done-short Controlled _ refl) (λ _. status-short 5 35 b refl)

abort-short : (p : ℕ) (q : Req) (b : Built) → ShortOut (abort p q b)
unfolding abort status_of
abort-short p idle b = status-short 5 39 b refl
abort-short p (reading q) b = done-short Controlled _ refl
abort-short p (writing q) b = done-short Controlled _ refl
abort-short p (read_done q) b = status-short 5 2 b refl
abort-short p (write_done q) b = status-short 5 2 b refl

pub control-short : (p : ℕ) (a : Acc) (c : Option Control) (b : Built) → ShortOut (control p a c b)
unfolding control status_of
control-short p a none b = idle-short a _ b (status-short 5 35 b refl)
control-short p a (some (Timeout v)) b = idle-short a _ b (done-short Controlled _ refl)
control-short p a (some (Verify v)) b = idle-short a _ b (done-short Controlled _ refl)
control-short p a (some (Abort v)) b = abort-short p a.req b
control-short p a (some (Extended v)) b = idle-short a _ b (switch-short p v _ b)
control-short p a (some (Typed v)) b = idle-short a _ b (reader-short a _ b (switch-short p v _ b))
control-short p a (some (Keep v)) b = idle-short a _ b (reader-short a _ b (switch-short p v _ b))

collected-short : (st log : ℕ) (d : List ℕ) (p : ℕ) (b : Built) → length d ≤ buffer_bytes → st < least_refusal → ShortOut (collected st log d p b)
unfolding collected
collected-short st log d p b h l =
    both ShortOut (eqb st 0) (λ _. unfold leaves answer_bytes status_of in with-data (Collected log) d refl h refl) (λ _. status-short 6 st _ (rw (lt-ltb st least_refusal l) refl))

pub collect-short : (p : ℕ) (q : Req) (b : Built) → Bounded b.geo.words q → ShortOut (collect p q b)
unfolding collect Bounded
collect-short p idle b h = status-short 6 39 b refl
collect-short p (reading q) b h = status-short 6 1 b refl
collect-short p (writing q) b h = status-short 6 1 b refl
collect-short p (read_done q) b h = collected-short q.status q.log q.bytes p b h.0 h.1
collect-short p (write_done q) b h = collected-short q.status q.log [] p b (omega arith) h

pub close-short : (p : ℕ) (a : Acc) (q : Req) (b : Built) → ShortOut (close p a q b)
unfolding close status_of
close-short p a idle b = done-short Closed _ refl
close-short p a (reading q) b = done-short Closed _ refl
close-short p a (writing q) b = done-short Closed _ refl
close-short p a (read_done q) b = status-short 7 33 b refl
close-short p a (write_done q) b = status-short 7 33 b refl

-- The outcome of each call on a file: refused with a number, or accepted, and the number is 0.
use Prim.Native.Nat.{ℕ, ◌+◌, ◌*◌, ◌<◌}
use mathlib.Core.Path.{◌≡◌, refl}
use mathlib.Core.Bool.{Bool, true, false, cond, ◌&&◌}
use mathlib.Core.List.{List, []}
use mathlib.Core.Option.{none, some}
use borrow.Author.Tests.{lt-ltb}
use lib.Dec.{ltb, leb, eqb}
use Rattle.occurrences.specs.Count.{bit}
use Rattle.kinds.specs.declared.Control.{Control}
use Rattle.kinds.specs.declared.Control.TheVariants.{Timeout, Verify, Abort, Extended, Typed, Keep}
use Rattle.rules.specs.Limits.{places}
use Rattle.rules.specs.Geometry.{data_blocks, in_range, fits_share}
use Rattle.rules.specs.TransferCounts.{count_bytes, readable}
use Rattle.rules.specs.State.{Req, idle, reading, writing, read_done, write_done, Acc, Built}
use Rattle.rules.specs.Store.{fetch}
use Rattle.rules.specs.Requests.{opened, writers, readers, fits, is_idle}
use Rattle.rules.specs.Reply.{Out, leaves, answering, status, unmade}
use Rattle.rules.specs.Transfer as transfer
use Rattle.rules.specs.Controls as controls
use Rattle.rules.specs.Close as closing
use Rattle.rules.specs.Open as opening
use Rattle.rules.proofs.Split.{both, opt}
use Rattle.laws.specs.Bounds.{least_refusal}
use Rattle.midst.specs.Outcome.{refusal_of, reply_status, status_of}
use Rattle.midst.specs.Accepted.{end_of}
use Rattle.accessors.specs.Sides.{side_of}
use Rattle.accessors.specs.Outstanding.{outstanding_of}
use Rattle.judges.specs.Verdicts.{forbidden, open_refusal}
use Rattle.refusing.specs.Verdicts.{free, while_free, read_refusal, write_refusal, switch_refusal, reader_refusal, nothing_refusal, control_refusal, code_refusal, close_refusal, build_refusal, modes_in_range}

-- n is the refusal number of a call's outcome
abbrev Comes : ℕ → Out → Type 0
Comes n o = refusal_of o.reply ≡ n

-- a test chooses a call's outcome, and the number with it
tested : (P : ℕ → Out → Type 0) (t : Bool) {n m : ℕ} {x y : Out} → P n x → P m y → P (cond t n m) (elim t as (λ (b : Bool). Out) [ true ↦ x | false ↦ y ])
tested P true h k = h
tested P false h k = k

-- what is found out of an accessor

free-is : (q : Req) → free (outstanding_of q) ≡ is_idle q
unfolding free outstanding_of is_idle
free-is idle = refl
free-is (reading q) = refl
free-is (writing q) = refl
free-is (read_done q) = refl
free-is (write_done q) = refl

side-is-writer : (a : Acc) → eqb (side_of (some a)) 2 ≡ a.writer
unfolding side_of
side-is-writer a = go a.writer
  where
    go : (w : Bool) → eqb (1 + bit w) 2 ≡ w
    go true = refl
    go false = refl

-- read, write and collect

read-on : (p n : ℕ) (a : Acc) (b : Built) → Comes 0 (transfer.read_on p a n b)
unfolding transfer.read_on leaves status answering refusal_of reply_status status_of
read-on p n a b =
    opt (Comes 0) (fetch b.geo a.typed a.keep b.store).got
    (λ _. both (Comes 0) (transfer.may_wait (writers b) a) (λ _. refl) (λ _. refl)) (λ r _. refl)

write-on : (p n : ℕ) (a : Acc) (d : List ℕ) (b : Built) → Comes 0 (transfer.write_on p a n d b)
unfolding transfer.write_on leaves status answering refusal_of reply_status status_of
write-on p n a d b =
    both (Comes 0) (fits b && transfer.is_nil b.wq) (λ _. refl)
    (λ _. both (Comes 0) (transfer.may_wait (readers b) a) (λ _. refl) (λ _. refl))

pub read-comes : (p n : ℕ) (a : Acc) (b : Built) → Comes (read_refusal n (side_of (some a)) (outstanding_of a.req)) (transfer.read p a n b)
unfolding transfer.read read_refusal while_free leaves status answering refusal_of reply_status status_of
read-comes p n a b =
    rw (free-is a.req, side-is-writer a)
    (tested Comes (is_idle a.req) (tested Comes a.writer refl (tested Comes (readable n) (read-on p n a b) refl)) refl)

pub write-comes : (p n : ℕ) (d : List ℕ) (a : Acc) (b : Built)
    → Comes (write_refusal n b.geo.words (side_of (some a)) (outstanding_of a.req)) (transfer.write p a n d b)
unfolding transfer.write write_refusal while_free leaves status answering refusal_of reply_status status_of
write-comes p n d a b =
    rw (free-is a.req, side-is-writer a)
    (tested Comes (is_idle a.req) (tested Comes a.writer (tested Comes (leb (count_bytes n) (2 * b.geo.words)) (write-on p n a d b) refl) refl) refl)

-- a completed request is handed over with its status, which is no refusal's number
collected-comes : (st l : ℕ) (d : List ℕ) (p : ℕ) (b : Built) → st < least_refusal → Comes 0 (transfer.collected st l d p b)
unfolding transfer.collected leaves status answering refusal_of reply_status status_of
collected-comes st l d p b h = both (Comes 0) (eqb st 0) (λ _. refl) (λ _. rw (lt-ltb st least_refusal h))

pub collect-comes : (p : ℕ) (q : Req) (b : Built) → end_of q < least_refusal → Comes (nothing_refusal (outstanding_of q)) (transfer.collect p q b)
unfolding transfer.collect nothing_refusal outstanding_of free end_of leaves status answering refusal_of reply_status status_of
collect-comes p idle b h = refl
collect-comes p (reading q) b h = refl
collect-comes p (writing q) b h = refl
collect-comes p (read_done q) b h = collected-comes q.status q.log q.bytes p b h
collect-comes p (write_done q) b h = collected-comes q.status q.log [] p b h

-- control

module _ (a : Acc) (b : Built) where
  while-comes : (o : Out) (n : ℕ) → Comes n o → Comes (while_free (outstanding_of a.req) n) (controls.while_idle a b o)
  unfolding controls.while_idle while_free leaves status answering refusal_of reply_status status_of
  while-comes o n h = rw (free-is a.req) (tested Comes (is_idle a.req) h refl)

  switch-comes : (p v : ℕ) (set : Bool → Acc → Acc) → Comes (switch_refusal v) (controls.switched p v set b)
  unfolding controls.switched switch_refusal leaves status answering refusal_of reply_status status_of
  switch-comes p v set = tested Comes (leb v 1) refl refl

  reader-comes : (p v : ℕ) (set : Bool → Acc → Acc) → Comes (reader_refusal (side_of (some a)) v) (controls.of_reader a b (controls.switched p v set b))
  unfolding controls.of_reader reader_refusal leaves status answering refusal_of reply_status status_of
  reader-comes p v set = rw (side-is-writer a) (tested Comes a.writer refl (switch-comes p v set))

abort-comes : (p : ℕ) (q : Req) (b : Built) → Comes (nothing_refusal (outstanding_of q)) (controls.abort p q b)
unfolding controls.abort nothing_refusal outstanding_of free leaves status answering refusal_of reply_status status_of
abort-comes p idle b = refl
abort-comes p (reading q) b = refl
abort-comes p (writing q) b = refl
abort-comes p (read_done q) b = refl
abort-comes p (write_done q) b = refl

pub control-comes : (p : ℕ) (c : Control) (a : Acc) (b : Built) → Comes (control_refusal c (side_of (some a)) (outstanding_of a.req)) (controls.control p a (some c) b)
unfolding controls.control control_refusal leaves answering refusal_of reply_status status_of
control-comes p (Timeout v) a b = while-comes a b _ 0 refl
control-comes p (Verify v) a b = while-comes a b _ 0 refl
control-comes p (Abort v) a b = abort-comes p a.req b
control-comes p (Extended v) a b = while-comes a b _ (switch_refusal v) (switch-comes a b p v controls.set_extended)
control-comes p (Typed v) a b = while-comes a b _ (reader_refusal (side_of (some a)) v) (reader-comes a b p v controls.set_typed)
control-comes p (Keep v) a b = while-comes a b _ (reader_refusal (side_of (some a)) v) (reader-comes a b p v controls.set_keep)

pub code-comes : (p : ℕ) (a : Acc) (b : Built) → Comes (code_refusal (outstanding_of a.req)) (controls.control p a none b)
unfolding controls.control code_refusal leaves status answering refusal_of reply_status status_of
code-comes p a b = while-comes a b _ 35 refl

-- close
pub close-comes : (p : ℕ) (a : Acc) (q : Req) (b : Built) → Comes (close_refusal (outstanding_of q)) (closing.close p a q b)
unfolding closing.close close_refusal outstanding_of leaves status answering refusal_of reply_status status_of
close-comes p a idle b = refl
close-comes p a (reading q) b = refl
close-comes p a (writing q) b = refl
close-comes p a (read_done q) b = refl
close-comes p a (write_done q) b = refl

-- build and open

pub build-comes : (r b n x : ℕ) → Comes (build_refusal r b n x) (opening.build r b n x)
unfolding opening.build build_refusal leaves answering unmade refusal_of reply_status status_of
build-comes r b n x = tested Comes (in_range r b n x) (tested Comes (fits_share r b (data_blocks n b x)) refl refl) refl

pub open-comes : (access share multi : ℕ) (b : Built) → Comes (open_refusal access share multi b) (opening.open_file access share multi b)
unfolding opening.open_file opening.open_reader opening.open_writer open_refusal modes_in_range forbidden leaves status answering refusal_of reply_status status_of
open-comes access share multi b =
    tested Comes (modes_in_range access share multi)
    (tested Comes (forbidden access share multi b) refl
    (tested Comes (leb places (opened b)) refl (tested Comes (ltb 0 access) (tested Comes (opening.room_to_open access b) refl refl) refl)))
    refl

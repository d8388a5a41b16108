use Prim.Native.Nat.{ℕ}
use mathlib.Core.Bool.{Bool}
use mathlib.Core.Path.{◌≡◌, refl, sym, ap, ◌∙◌}
use native.Mathlib.Omega.{arith}
use lib.Dec.{ltb}
use Rattle.rules.specs.Desk.{Desk}
use Rattle.rules.specs.Allocation.{Alloc, place_of}
use Rattle.segment.specs.Fields.{place_at}
use Rattle.accessors.specs.Sides.{count_side}
use Rattle.memory.specs.Memories.{Memories, memories}
use Rattle.memory.specs.Fine.{StandsFor}
use Rattle.transfers.specs.Rows.{may_wait_row}
use Rattle.transfers.proofs.Fits.{Fit}
use Rattle.transfers.proofs.Rests.{done-of}
use Rattle.transfers.proofs.Writes.{Writing, Admitted, Untaken, write-fit, write-ranged, write-ready, write-side, write_bytes, write-put, write-rowed, write-free, write-waits, write-ends, write-beside, waits-beside}
use Rattle.transfers.proofs.writing.write.Goals as goal
use Rattle.transfers.proofs.writing.write.Goals.{Start, After-put-next, After-begin_write-2, After-may_wait}

-- the memories as they are lent
abbrev lent : Start → Memories
lent c = memories c.args.segment.now c.args.blocks.now c.args.buffers.now

-- the write on each desk that they stand for, which does not refuse it; and on the desk that is known
writes : (c : Start) {d : Desk} {s : Alloc} → StandsFor (lent c) d s → Writing (lent c) c.args.f c.args.acc c.args.count c.args.«data».now d s
writes c S = record { stands = S; accepted = c.requires.sound.1 _ _ S; size = c.requires.data_len }

known : (c : Start) → Writing (lent c) c.args.f c.args.acc c.args.count c.args.«data».now c.requires.sound.0.0 c.requires.sound.0.1
known c = writes c c.requires.sound.0.2

fit : (c : Start) → Fit (lent c) c.args.f c.args.acc
fit c = write-fit (known c)

-- what the code has seen when the record is put
admitted : (c : After-put-next)
    → Admitted (memories c.args.segment.now c.args.blocks.now c.args.buffers.now) c.args.f c.args.acc c.take_file-file.result
    (place_at c.args.segment.now (place_of c.args.f c.args.acc)) c.begin_write.new.segment
unfolding place_of
admitted c = record {
  seen = record { file = c.take_file-file.ensures; place = refl; began = c.begin_write.ensures };
  fits = sym c.in_default.ensures;
}

-- what the code has seen when the accessor has begun
untaken : (c : After-begin_write-2)
    → Untaken (memories c.args.segment.now c.args.blocks.now c.args.buffers.now) c.args.f c.args.acc c.args.count c.take_file-file.result
    c.read_place-row.result c.begin_write-2.new.segment c.in_words-by_words.result
unfolding place_of
untaken c = record {
  seen = record { file = c.take_file-file.ensures; place = c.read_place-row.ensures; began = c.begin_write-2.ensures };
  full = sym c.in-Some.ensures.0;
  words = c.in_words-by_words.ensures;
}

writers : (c : After-begin_write-2) → c.in-Some.writers ≡ count_side c.args.segment.now c.args.f 2
writers c = c.in-Some.ensures.1

-- whether the write may wait
may-wait : (c : After-may_wait) {t : Bool} → c.may_wait.result ≡ t
    → t ≡ may_wait_row (ltb 0 (count_side c.begin_write-2.new.segment c.args.f 1)) c.read_place-row.result
may-wait c e = sym e ∙ c.may_wait.ensures ∙ ap (λ (j : ℕ). may_wait_row (ltb 0 j) c.read_place-row.result) c.count_side.ensures.0

pub overflow_mul-place : goal.overflow_mul-place
overflow_mul-place c = record { fits = omega (arith, (fit (goal.at.overflow_mul-place c).Start).file) }

pub overflow_add-place : goal.overflow_add-place
overflow_add-place c = record { fits = omega (arith, (fit (goal.at.overflow_add-place c).Start).file, (fit (goal.at.overflow_add-place c).Start).place) }

pub take_file-file-requires : goal.take_file-file-requires
take_file-file-requires c =
    (fit (goal.at.take_file-file-requires c).Start).file

pub held_back-requires : goal.held_back-requires
held_back-requires c =
    ((fit (goal.at.held_back-requires c).Start).file, write-ranged (known (goal.at.held_back-requires c).Start) c.take_file-file.ensures)

pub place_id-id-requires : goal.place_id-id-requires
place_id-id-requires c =
    omega (arith, (fit (goal.at.place_id-id-requires c).Start).file, (fit (goal.at.place_id-id-requires c).Start).place)

pub begin_write-requires : goal.begin_write-requires
unfolding place_of
begin_write-requires c =
    (omega (arith, (fit (goal.at.begin_write-requires c).Start).file, (fit (goal.at.begin_write-requires c).Start).place), write-side (known (goal.at.begin_write-requires c).Start))

pub put-next-requires-clause-f_lt_files : goal.put-next-requires-clause-f_lt_files
put-next-requires-clause-f_lt_files c =
    (fit (goal.at.put-next-requires-clause-f_lt_files c).Start).file

pub put-next-requires-clause-ready : goal.put-next-requires-clause-ready
put-next-requires-clause-ready c =
    (write-ready (known (goal.at.put-next-requires-clause-ready c).Start) c.take_file-file.ensures).1

pub quick_conclude-requires : goal.quick_conclude-requires
unfolding place_of
quick_conclude-requires c =
    let W = known (goal.at.quick_conclude-requires c).Start in (
      (_, _, (write-put W (admitted (goal.at.quick_conclude-requires c).After-put-next) c.place_id-id.ensures c.put-next.ensures.keeps refl refl).mid),
      write-rowed W (admitted (goal.at.quick_conclude-requires c).After-put-next) c.put-next.ensures.file,
    )

pub overflow_cast-data : goal.overflow_cast-data
overflow_cast-data c = record { fits = omega (arith, write_bytes (known (goal.at.overflow_cast-data c).Start)) }

pub returns-in_default : goal.returns-in_default
unfolding place_of
returns-in_default c =
    λ d s S.
    done-of c.quick_conclude.ensures S.stands.bodies
    (write-put (writes (goal.at.returns-in_default c).Start S) (admitted (goal.at.returns-in_default c).After-put-next) c.place_id-id.ensures c.put-next.ensures.keeps c.log_of-log.ensures c.in_words-by_words.ensures)

pub read_place-row-requires : goal.read_place-row-requires
read_place-row-requires c =
    omega (arith, (fit (goal.at.read_place-row-requires c).Start).file, (fit (goal.at.read_place-row-requires c).Start).place)

pub begin_write-requires-2 : goal.begin_write-requires-2
unfolding place_of
begin_write-requires-2 c =
    (omega (arith, (fit (goal.at.begin_write-requires-2 c).Start).file, (fit (goal.at.begin_write-requires-2 c).Start).place), write-side (known (goal.at.begin_write-requires-2 c).Start))

pub count_side-requires : goal.count_side-requires
count_side-requires c =
    (fit (goal.at.count_side-requires c).Start).file

pub wait_write-requires-clause-f_lt_files : goal.wait_write-requires-clause-f_lt_files
unfolding place_of
wait_write-requires-clause-f_lt_files c =
    let F = fit (goal.at.wait_write-requires-clause-f_lt_files c).Start in
    let free = write-free (known (goal.at.wait_write-requires-clause-f_lt_files c).Start) (untaken (goal.at.wait_write-requires-clause-f_lt_files c).After-begin_write-2) in
    (F.file, omega (arith, F.file, F.place), write_bytes (known (goal.at.wait_write-requires-clause-f_lt_files c).Start), free.1)

pub wait_write-requires-clause-free_list_bound : goal.wait_write-requires-clause-free_list_bound
unfolding place_of
wait_write-requires-clause-free_list_bound c =
    let F = fit (goal.at.wait_write-requires-clause-free_list_bound c).Start in
    let free = write-free (known (goal.at.wait_write-requires-clause-free_list_bound c).Start) (untaken (goal.at.wait_write-requires-clause-free_list_bound c).After-begin_write-2) in
    free.2

pub settle_back-requires : goal.settle_back-requires
unfolding place_of
settle_back-requires c =
    let W = known (goal.at.settle_back-requires c).Start in
    let so = may-wait (goal.at.settle_back-requires c).After-may_wait c.if-may_wait.true in (
      (_, _, (write-waits W (untaken (goal.at.settle_back-requires c).After-begin_write-2) so c.wait_write.ensures.segment c.wait_write.ensures.buffers).mid),
      λ _. waits-beside W (untaken (goal.at.settle_back-requires c).After-begin_write-2) so c.wait_write.ensures.segment c.wait_write.ensures.buffers (writers (goal.at.settle_back-requires c).After-begin_write-2),
    )

pub returns-then-may_wait : goal.returns-then-may_wait
unfolding place_of
returns-then-may_wait c =
    λ d s S.
    rw c.untaken.ensures
    (done-of c.settle_back.ensures S.stands.bodies
    (write-waits (writes (goal.at.returns-then-may_wait c).Start S) (untaken (goal.at.returns-then-may_wait c).After-begin_write-2) (may-wait (goal.at.returns-then-may_wait c).After-may_wait c.if-may_wait.true) c.wait_write.ensures.segment c.wait_write.ensures.buffers))

pub settle_back-requires-2 : goal.settle_back-requires-2
settle_back-requires-2 c =
    let W = known (goal.at.settle_back-requires-2 c).Start in (
      (_, _, (write-ends W (untaken (goal.at.settle_back-requires-2 c).After-begin_write-2) (may-wait (goal.at.settle_back-requires-2 c).After-may_wait c.if-may_wait.false)).mid),
      λ _. write-beside W (untaken (goal.at.settle_back-requires-2 c).After-begin_write-2).seen (writers (goal.at.settle_back-requires-2 c).After-begin_write-2),
    )

pub returns : goal.returns
returns c =
    λ d s S.
    rw c.untaken-2.ensures
    (done-of c.settle_back-2.ensures S.stands.bodies
    (write-ends (writes (goal.at.returns c).Start S) (untaken (goal.at.returns c).After-begin_write-2) (may-wait (goal.at.returns c).After-may_wait c.if-may_wait.false)))

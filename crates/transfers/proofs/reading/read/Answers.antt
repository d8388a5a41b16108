use mathlib.Core.Bool.{Bool}
use mathlib.Core.List.{List}
use mathlib.Core.Path.{◌≡◌, refl, sym, ap, ◌∙◌}
use Prim.Native.Nat.{ℕ}
use native.Mathlib.Omega.{arith}
use lib.Dec.{ltb}
use Rattle.rules.specs.Desk.{Desk}
use Rattle.rules.specs.Allocation.{Alloc, place_of}
use Rattle.segment.specs.Fields.{place_at}
use Rattle.accessors.specs.Sides.{count_side}
use Rattle.memory.specs.Memories.{Memories, memories}
use Rattle.memory.specs.Fine.{StandsFor}
use Rattle.transfers.specs.Rows.{begun_segment, may_wait_row}
use Rattle.transfers.proofs.Fits.{Fit}
use Rattle.transfers.proofs.Rests.{gave-of}
use Rattle.transfers.proofs.Handing.{Reading, Served, Unserved, read-fit, read_held, read-side, read-rowed, read_short, read-gives, read-free, read-waits, read-ends, read-counts}
use Rattle.transfers.proofs.reading.read.Goals as goal
use Rattle.transfers.proofs.reading.read.Goals.{Start, After-share, After-begin_read-2, After-may_wait}

-- the memories as they are lent
abbrev lent : Start → Memories
lent c = memories c.args.segment.now c.args.blocks.now c.args.buffers.now

-- the read on each desk that they stand for, which does not refuse it; and on the desk that is known
reads : (c : Start) {d : Desk} {s : Alloc} → StandsFor (lent c) d s → Reading (lent c) c.args.f c.args.acc c.args.count d s
reads c S = record { stands = S; accepted = c.requires.sound.1 _ _ S }

known : (c : Start) → Reading (lent c) c.args.f c.args.acc c.args.count c.requires.sound.0.0 c.requires.sound.0.1
known c = reads c c.requires.sound.0.2

fit : (c : Start) → Fit (lent c) c.args.f c.args.acc
fit c = read-fit (known c)

-- what the code has seen when it has the file's share: the row is the accessor's, and in the segment xs the accessor has begun
served : (c : After-share) {xs : List ℕ} → xs ≡ begun_segment c.args.segment.now (place_of c.args.f c.args.acc)
    → Served (memories c.args.segment.now c.args.blocks.now c.args.buffers.now) c.args.f c.args.acc c.args.count c.take_file-file.result
    (place_at c.args.segment.now (place_of c.args.f c.args.acc)) xs c.fetch-found.result c.share.result.now c.place_typed-typed.result c.count_bytes-limit.result
unfolding place_of
served c began = record {
  fetches = record {
    seen = record { file = c.take_file-file.ensures; place = refl; began = began };
    keeps = rw (← c.place_typed-typed.ensures, ← c.place_keep-keep.ensures) c.fetch-found.ensures.keeps;
    gets = rw (← c.place_typed-typed.ensures, ← c.place_keep-keep.ensures) c.fetch-found.ensures.gets;
  };
  got = c.if-found.true;
  share = c.share.ensures;
  typed = c.place_typed-typed.ensures;
  counted = c.count_bytes-limit.ensures.value;
}

-- what the code has seen when the accessor has begun
unserved : (c : After-begin_read-2)
    → Unserved (memories c.args.segment.now c.args.blocks.now c.args.buffers.now) c.args.f c.args.acc c.args.count c.take_file-file.result
    c.read_place-row.result c.begin_read-2.new.segment c.fetch-found.result c.in_words-by_words.result c.count_bytes-limit.result
unfolding place_of
unserved c = record {
  fetches = record {
    seen = record { file = c.take_file-file.ensures; place = c.read_place-row.ensures; began = c.begin_read-2.ensures };
    keeps = rw (c.read_place-row.ensures, ← c.place_typed-typed.ensures, ← c.place_keep-keep.ensures) c.fetch-found.ensures.keeps;
    gets = rw (c.read_place-row.ensures, ← c.place_typed-typed.ensures, ← c.place_keep-keep.ensures) c.fetch-found.ensures.gets;
  };
  empty = c.if-found.false;
  words = c.in_words-by_words.ensures;
  counted = c.count_bytes-limit.ensures.value;
}

-- whether the read may wait
may-wait : (c : After-may_wait) {t : Bool} → c.may_wait.result ≡ t
    → t ≡ may_wait_row (ltb 0 (count_side c.begin_read-2.new.segment c.args.f 2)) c.read_place-row.result
may-wait c e = sym e ∙ c.may_wait.ensures ∙ ap (λ (t : Bool). may_wait_row t c.read_place-row.result) c.has_writer.ensures

pub overflow_mul-place : goal.overflow_mul-place
overflow_mul-place c = record { fits = omega (arith, (fit (goal.at.overflow_mul-place c).Start).file) }

pub overflow_add-place : goal.overflow_add-place
overflow_add-place c = record { fits = omega (arith, (fit (goal.at.overflow_add-place c).Start).file, (fit (goal.at.overflow_add-place c).Start).place) }

pub take_file-file-requires : goal.take_file-file-requires
take_file-file-requires c =
    (fit (goal.at.take_file-file-requires c).Start).file

pub place_typed-typed-requires : goal.place_typed-typed-requires
place_typed-typed-requires c =
    omega (arith, (fit (goal.at.place_typed-typed-requires c).Start).file, (fit (goal.at.place_typed-typed-requires c).Start).place)

pub place_keep-keep-requires : goal.place_keep-keep-requires
place_keep-keep-requires c =
    omega (arith, (fit (goal.at.place_keep-keep-requires c).Start).file, (fit (goal.at.place_keep-keep-requires c).Start).place)

pub fetch-found-requires-clause-f_lt_files : goal.fetch-found-requires-clause-f_lt_files
fetch-found-requires-clause-f_lt_files c =
    (fit (goal.at.fetch-found-requires-clause-f_lt_files c).Start).file

pub fetch-found-requires-clause-held : goal.fetch-found-requires-clause-held
fetch-found-requires-clause-held c =
    (read_held (known (goal.at.fetch-found-requires-clause-held c).Start) c.take_file-file.ensures).1

pub give-size-requires-clause-at_len_bound : goal.give-size-requires-clause-at_len_bound
give-size-requires-clause-at_len_bound c =
    read_short (known (goal.at.give-size-requires-clause-at_len_bound c).Start) (served (goal.at.give-size-requires-clause-at_len_bound c).After-share refl)

pub begin_read-requires : goal.begin_read-requires
unfolding place_of
begin_read-requires c =
    (omega (arith, (fit (goal.at.begin_read-requires c).Start).file, (fit (goal.at.begin_read-requires c).Start).place), read-side (known (goal.at.begin_read-requires c).Start))

pub quick_conclude-requires : goal.quick_conclude-requires
unfolding place_of
quick_conclude-requires c =
    let R = known (goal.at.quick_conclude-requires c).Start in
    let w = served (goal.at.quick_conclude-requires c).After-share c.begin_read.ensures in
    ((_, _, (read-gives R w c.give-size.ensures.size c.give-size.ensures.answer refl refl).acts.mid), read-rowed R w.fetches)

pub returns-then-found : goal.returns-then-found
unfolding place_of
returns-then-found c =
    λ d s S.
    gave-of c.quick_conclude.ensures S.stands.bodies
    (read-gives (reads (goal.at.returns-then-found c).Start S) (served (goal.at.returns-then-found c).After-share c.begin_read.ensures) c.give-size.ensures.size c.give-size.ensures.answer c.log_of-log.ensures c.in_words-by_words.ensures)

pub read_place-row-requires : goal.read_place-row-requires
read_place-row-requires c = let F = fit (goal.at.read_place-row-requires c).Start in
    omega (arith, F.file, F.place)

pub begin_read-requires-2 : goal.begin_read-requires-2
unfolding place_of
begin_read-requires-2 c =
    (omega (arith, (fit (goal.at.begin_read-requires-2 c).Start).file, (fit (goal.at.begin_read-requires-2 c).Start).place), read-side (known (goal.at.begin_read-requires-2 c).Start))

pub has_writer-requires : goal.has_writer-requires
has_writer-requires c =
    let R = known (goal.at.has_writer-requires c).Start in
    ((fit (goal.at.has_writer-requires c).Start).file, read-counts R (unserved (goal.at.has_writer-requires c).After-begin_read-2).fetches)

pub wait_read-requires-clause-f_lt_files : goal.wait_read-requires-clause-f_lt_files
unfolding place_of
wait_read-requires-clause-f_lt_files c =
    let F = fit (goal.at.wait_read-requires-clause-f_lt_files c).Start in
    let free = read-free (known (goal.at.wait_read-requires-clause-f_lt_files c).Start) (unserved (goal.at.wait_read-requires-clause-f_lt_files c).After-begin_read-2) in
    (F.file, omega (arith, F.file, F.place), free.1)

pub wait_read-requires-clause-free_list_bound : goal.wait_read-requires-clause-free_list_bound
unfolding place_of
wait_read-requires-clause-free_list_bound c =
    let F = fit (goal.at.wait_read-requires-clause-free_list_bound c).Start in
    let free = read-free (known (goal.at.wait_read-requires-clause-free_list_bound c).Start) (unserved (goal.at.wait_read-requires-clause-free_list_bound c).After-begin_read-2) in
    free.2

pub conclude-requires : goal.conclude-requires
unfolding place_of
conclude-requires c =
    (_, _, (read-waits (known (goal.at.conclude-requires c).Start) (unserved (goal.at.conclude-requires c).After-begin_read-2) {memory = c.args.answer.now} (may-wait (goal.at.conclude-requires c).After-may_wait c.if-may_wait.true) c.wait_read.ensures.segment c.wait_read.ensures.buffers).acts.mid)

pub returns-then-may_wait : goal.returns-then-may_wait
unfolding place_of
returns-then-may_wait c =
    λ d s S.
    rw c.unserved.ensures
    (gave-of c.conclude.ensures S.stands.bodies (read-waits (reads (goal.at.returns-then-may_wait c).Start S) (unserved (goal.at.returns-then-may_wait c).After-begin_read-2) (may-wait (goal.at.returns-then-may_wait c).After-may_wait c.if-may_wait.true) c.wait_read.ensures.segment c.wait_read.ensures.buffers))

pub conclude-requires-2 : goal.conclude-requires-2
conclude-requires-2 c =
    (_, _, (read-ends (known (goal.at.conclude-requires-2 c).Start) (unserved (goal.at.conclude-requires-2 c).After-begin_read-2) {memory = c.args.answer.now} (may-wait (goal.at.conclude-requires-2 c).After-may_wait c.if-may_wait.false)).acts.mid)

pub returns : goal.returns
returns c =
    λ d s S.
    rw c.unserved-2.ensures
    (gave-of c.conclude-2.ensures S.stands.bodies (read-ends (reads (goal.at.returns c).Start S) (unserved (goal.at.returns c).After-begin_read-2) (may-wait (goal.at.returns c).After-may_wait c.if-may_wait.false)))

use Rattle.transfers.proofs.Fits.{Fit, has_room, cut_short}
use lib.Seq.{sets}
use mathlib.Core.Path.{ap, ◌∙◌}
use Rattle.words.specs.Word.{Bytes}
use Rattle.rules.specs.Limits.{answer_head}
use Rattle.rules.specs.Allocation.{place_of}
use Rattle.transfers.proofs.Collects.{Collecting, Seen, collect-fit, collect-waits, entry-status, entry-size, entry-ends, entry_gives}
use native.Mathlib.Omega.{arith}
use Rattle.memory.specs.Memories.{memories}
use Rattle.transfers.proofs.collecting.collect.Goals as goal
use Rattle.transfers.proofs.collecting.collect.Goals.{Start, After-read_entry-m}

-- the collect on the desk that is known, which does not refuse it
known : (c : Start)
    → Collecting (memories c.args.segment.now c.requires.by_index.0 c.args.buffers.now) c.args.f c.args.acc c.requires.by_index.1.0 c.requires.by_index.1.1
known c = record { stands = c.requires.by_index.1.2; accepted = c.requires.by_index.2 _ _ c.requires.by_index.1.2 }

fit : (c : Start) → Fit (memories c.args.segment.now c.requires.by_index.0 c.args.buffers.now) c.args.f c.args.acc
fit c = collect-fit (known c)

-- what the code has seen when the entry is read
seen : (c : After-read_entry-m) → Seen c.args.segment.now c.args.f c.args.acc c.get-e.result c.read_entry-m.result
unfolding place_of
seen c = record { port = c.get-e.ensures; here = omega (arith, c.if-e-ge-ENTRIES.false); entry = c.read_entry-m.ensures }

pub overflow_mul-place : goal.overflow_mul-place
overflow_mul-place c = record { fits = omega (arith, (fit (goal.at.overflow_mul-place c).Start).file) }

pub overflow_add-place : goal.overflow_add-place
overflow_add-place c = record { fits = omega (arith, (fit (goal.at.overflow_add-place c).Start).file, (fit (goal.at.overflow_add-place c).Start).place) }

pub overflow_add-place-2 : goal.overflow_add-place-2
overflow_add-place-2 c = record { fits = omega (arith, (fit (goal.at.overflow_add-place-2 c).Start).file, (fit (goal.at.overflow_add-place-2 c).Start).place) }

pub get-e-requires : goal.get-e-requires
get-e-requires c =
    omega (arith, (fit (goal.at.get-e-requires c).Start).file, (fit (goal.at.get-e-requires c).Start).place)

pub returns-then-e-ge-ENTRIES : goal.returns-then-e-ge-ENTRIES
unfolding place_of
returns-then-e-ge-ENTRIES c = λ blocks d s S A. collect-waits (record { stands = S; accepted = A }) (omega (arith, c.if-e-ge-ENTRIES.true, c.get-e.ensures))

pub free-requires : goal.free-requires
unfolding place_of
free-requires c =
    let F = fit (goal.at.free-requires c).Start in
    (omega (arith, F.file, F.place), omega (arith, (seen (goal.at.free-requires c).After-read_entry-m).port, (seen (goal.at.free-requires c).After-read_entry-m).here))

pub overflow_cast-result : goal.overflow_cast-result
overflow_cast-result c = record { fits = omega (arith, entry-status (known (goal.at.overflow_cast-result c).Start) (seen (goal.at.overflow_cast-result c).After-read_entry-m)) }

pub returns-then-m-ne0 : goal.returns-then-m-ne0
unfolding place_of Bytes
returns-then-m-ne0 c =
    λ blocks d s S A.
    entry-ends (record { stands = S; accepted = A }) (seen (goal.at.returns-then-m-ne0 c).After-read_entry-m) (record {
      collected = c.free.ensures.segment;
      cleared = c.free.ensures.buffers;
      bytes = c.free.ensures.bytes.0;
      bytes' = c.free.ensures.bytes.1;
    }) c.if-m-ne0.true

pub lies-requires : goal.lies-requires
lies-requires c =
    let F = fit (goal.at.lies-requires c).Start in
    (omega (arith, F.file, F.place), entry-size (known (goal.at.lies-requires c).Start) (seen (goal.at.lies-requires c).After-read_entry-m))

pub copy-requires : goal.copy-requires
copy-requires c =
    has_room c.lies.ensures (cut_short _ _ (entry-size (known (goal.at.copy-requires c).Start) (seen (goal.at.copy-requires c).After-read_entry-m))) c.requires.answer_len

pub free-requires-2 : goal.free-requires-2
unfolding place_of
free-requires-2 c =
    let F = fit (goal.at.free-requires-2 c).Start in
    (omega (arith, F.file, F.place), omega (arith, (seen (goal.at.free-requires-2 c).After-read_entry-m).port, (seen (goal.at.free-requires-2 c).After-read_entry-m).here))

pub returns : goal.returns
unfolding place_of Bytes
returns c =
    λ blocks d s S A.
    entry_gives (record { stands = S; accepted = A }) (seen (goal.at.returns c).After-read_entry-m) (record {
      collected = c.free-2.ensures.segment;
      cleared = c.free-2.ensures.buffers;
      bytes = c.free-2.ensures.bytes.0;
      bytes' = c.free-2.ensures.bytes.1;
    }) c.if-m-ne0.false (c.copy.ensures ∙ ap (sets _ answer_head) c.lies.ensures)

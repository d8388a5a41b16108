use Rattle.looking.proofs.Readers.{reader-file, reader-fit, port-low, ended-finds, brought-finds}
use Rattle.rules.specs.Allocation.{place_of}
use native.Mathlib.Omega.{arith}
use Rattle.looking.proofs.finding.of_completed.Goals as goal

pub overflow_mul-place : goal.overflow_mul-place
overflow_mul-place c = record { fits = omega (arith, (reader-fit c.requires.1 c.requires.2).file) }

pub overflow_add-place : goal.overflow_add-place
overflow_add-place c =
    let fit = reader-fit c.requires.1 c.requires.2 in
    record { fits = omega (arith, fit.file, fit.place) }

pub overflow_add-place-2 : goal.overflow_add-place-2
overflow_add-place-2 c =
    let fit = reader-fit c.requires.1 c.requires.2 in
    record { fits = omega (arith, fit.file, fit.place) }

pub get-e-requires : goal.get-e-requires
get-e-requires c =
    let fit = reader-fit c.requires.1 c.requires.2 in
    omega (arith, fit.file, fit.place)

pub read_entry-request-requires : goal.read_entry-request-requires
unfolding place_of
read_entry-request-requires c =
    port-low c.requires.1 c.requires.2 _ c.get-e.ensures

pub of_file-requires : goal.of_file-requires
of_file-requires c =
    reader-file c.requires.1 c.requires.2

pub returns-then-request-ne0 : goal.returns-then-request-ne0
unfolding place_of
returns-then-request-ne0 c =
    ended-finds c.requires.1 c.requires.2 _ c.get-e.ensures _
    c.read_entry-request.ensures c.if-request-ne0.true _ c.of_file.ensures

pub overflow_mul-result : goal.overflow_mul-result
overflow_mul-result c =
    let fit = reader-fit c.requires.1 c.requires.2 in
    record { fits = omega (arith, fit.file, fit.place) }

pub returns : goal.returns
unfolding place_of
returns c =
    brought-finds c.requires.1 c.requires.2 _ c.get-e.ensures _
    c.read_entry-request.ensures c.if-request-ne0.false

use native.Mathlib.Omega.{arith}
use Rattle.opening.proofs.Builds.{build-file, build-numbers, build-room, build-sizes, build-done}
use Rattle.opening.proofs.build.Goals as goal

pub data_blocks-count-requires-clause-le_records : goal.data_blocks-count-requires-clause-le_records
data_blocks-count-requires-clause-le_records c = let n = build-numbers _ _ _ _ _ c.requires in
    n.0

pub data_blocks-count-requires-clause-le_factor : goal.data_blocks-count-requires-clause-le_factor
data_blocks-count-requires-clause-le_factor c = let n = build-numbers _ _ _ _ _ c.requires in
    n.1

pub data_blocks-count-requires-clause-le_extents : goal.data_blocks-count-requires-clause-le_extents
data_blocks-count-requires-clause-le_extents c = let n = build-numbers _ _ _ _ _ c.requires in
    n.2

pub clear-requires : goal.clear-requires
clear-requires c =
    build-file _ _ _ _ _ c.requires

pub overflow_mul-f : goal.overflow_mul-f
overflow_mul-f c =
    record { fits = omega (arith, build-file _ _ _ _ _ c.requires) }

pub zero-requires : goal.zero-requires
zero-requires c =
    omega (arith, build-file _ _ _ _ _ c.requires, (build-sizes _ _ _ _ _ c.requires).2)

pub write_file-requires : goal.write_file-requires
write_file-requires c =
    build-file _ _ _ _ _ c.requires

pub overflow_cast-room : goal.overflow_cast-room
overflow_cast-room c =
    omega (arith, c.capacity-room.ensures, build-room _ _ _ _ _ c.requires _ c.data_blocks-count.ensures.value)

pub returns : goal.returns
returns c =
    let zeroed = c.default.ensures.1.1.1 in
    build-done _ _ _ _ _ c.requires _ _ _ c.data_blocks-count.ensures.value c.capacity-room.ensures
    (rw (zeroed.0, zeroed.1.0, zeroed.1.1) at c.write_file.ensures) c.clear.ensures c.zero.ensures
    c.known.ensures c.known-2.ensures c.known-3.ensures

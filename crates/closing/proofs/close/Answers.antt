use native.Mathlib.Omega.{arith}
use Rattle.closing.proofs.Clears.{close-size, clears, close-done}
use Rattle.closing.proofs.close.Goals as goal

pub overflow_mul-f : goal.overflow_mul-f
overflow_mul-f c =
    let (d, s, S) = c.requires.0 in
    record { fits = omega (arith, (close-size S _ _ (c.requires.1 d s S)).2) }

pub overflow_add-f : goal.overflow_add-f
overflow_add-f c =
    let (d, s, S) = c.requires.0 in
    let size = close-size S _ _ (c.requires.1 d s S) in
    record { fits = omega (arith, size.2, size.3) }

pub place_side-side-requires : goal.place_side-side-requires
place_side-side-requires c =
    let (d, s, S) = c.requires.0 in
    let size = close-size S _ _ (c.requires.1 d s S) in
    omega (arith, size.2, size.3)

pub take_file-file-requires : goal.take_file-file-requires
take_file-file-requires c =
    let (d, s, S) = c.requires.0 in
    let size = close-size S _ _ (c.requires.1 d s S) in
    size.2

pub remove-requires : goal.remove-requires
remove-requires c =
    let (d, s, S) = c.requires.0 in
    let size = close-size S _ _ (c.requires.1 d s S) in
    (size.2, size.3)

pub leave-left-requires : goal.leave-left-requires
leave-left-requires c =
    let (d, s, S) = c.requires.0 in
    let C = clears S _ _ (c.requires.1 d s S) _ c.place_side-side.ensures _ c.take_file-file.ensures _ _
    c.remove.ensures.segment c.remove.ensures.buffers in
    (_, C.file, C.acc, C.mid, C.at, C.still)

pub conclude-requires : goal.conclude-requires
conclude-requires c =
    let (d, s, S) = c.requires.0 in
    let C = clears S _ _ (c.requires.1 d s S) _ c.place_side-side.ensures _ c.take_file-file.ensures _ _
    c.remove.ensures.segment c.remove.ensures.buffers in
    (_, _, c.leave-left.ensures _ C.file C.acc C.mid C.at C.still)

pub returns : goal.returns
returns c =
    λ d s S.
    let C = clears S _ _ (c.requires.1 d s S) _ c.place_side-side.ensures _ c.take_file-file.ensures _ _
    c.remove.ensures.segment c.remove.ensures.buffers in
    close-done C
    (c.conclude.ensures _ _ (c.leave-left.ensures _ C.file C.acc C.mid C.at C.still) S.stands.bodies _)

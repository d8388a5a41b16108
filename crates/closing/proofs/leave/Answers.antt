use native.Mathlib.Omega.{arith}
use Rattle.closing.proofs.Parts.{vacant, leave-size, reader-gone, writer-gone, writer-done}
use Rattle.closing.proofs.leave.Goals as goal

pub overflow_add-place : goal.overflow_add-place
overflow_add-place c =
    let (o, b, a, M, e, i) = c.requires in
    record { fits = omega (arith, (leave-size M _ a e).1, (leave-size M _ a e).2) }

pub read_place-row-requires : goal.read_place-row-requires
read_place-row-requires c =
    let (o, b, a, M, e, i) = c.requires in
    omega (arith, (leave-size M _ a e).1, (leave-size M _ a e).2)

pub write_place-requires : goal.write_place-requires
write_place-requires c =
    let (o, b, a, M, e, i) = c.requires in
    omega (arith, (leave-size M _ a e).1, (leave-size M _ a e).2)

pub returns-then-row-ne-WRITER : goal.returns-then-row-ne-WRITER
returns-then-row-ne-WRITER c =
    λ o b a M e i.
    reader-gone M _ a e i _ c.read_place-row.ensures _ (rw (vacant c.default.result c.default.ensures) at c.write_place.ensures) c.if-row-ne-WRITER.true

pub part-requires : goal.part-requires
part-requires c =
    let (o, b, a, M, e, i) = c.requires in (
      o,
      _,
      writer-gone M _ a e i _ c.read_place-row.ensures _ (rw (vacant c.default.result c.default.ensures) at c.write_place.ensures) c.if-row-ne-WRITER.false,
    )

pub returns : goal.returns
returns c =
    λ o b a M e i.
    writer-done M _ a e i _ c.read_place-row.ensures _ (rw (vacant c.default.result c.default.ensures) at c.write_place.ensures) c.if-row-ne-WRITER.false
    (c.part.ensures o _
    (writer-gone M _ a e i _ c.read_place-row.ensures _ (rw (vacant c.default.result c.default.ensures) at c.write_place.ensures) c.if-row-ne-WRITER.false))

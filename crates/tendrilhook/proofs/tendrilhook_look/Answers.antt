use Rattle.tendrilhook.proofs.Copied.{other_length, copied}
use Rattle.looking.proofs.Parts.{given, said}
use Rattle.looking.proofs.Short.{short}
use Rattle.words.specs.Word.{Bytes}
use native.Mathlib.Omega.{arith}
use Rattle.tendrilhook.proofs.tendrilhook_look.Goals as goal

pub returns-then-record-ne-RECORD_ROOM : goal.returns-then-record-ne-RECORD_ROOM
returns-then-record-ne-RECORD_ROOM c = rw c.number.ensures (other_length _ _ _ _ c.if-record-ne-RECORD_ROOM.true)

pub copy-requires : goal.copy-requires
unfolding Bytes
copy-requires c =
    let shows = (given _ _ _ _ c.shown-what.ensures.tells _ c.part-part.ensures).1 in
    let h = short _ (λ i. (c.type_inv.segment i).fits)
    (λ i. (c.type_inv.blocks i).fits)
    (λ i. (c.type_inv.buffers i).fits) _ _ _ shows in
    omega (arith, h, c.if-record-ne-RECORD_ROOM.false)

pub returns : goal.returns
returns c =
    copied _ _ _ _ c.if-record-ne-RECORD_ROOM.false _
    (given _ _ _ _ c.shown-what.ensures.tells _ c.part-part.ensures).1 _ c.copy.ensures _
    (said _ _ _ _ c.shown-what.ensures.tells _ c.status.ensures)

use Rattle.std.proofs.Common.{sym, ◌∙◌, inl, inr}
use Rattle.reader.proofs.Heads.{says-none, says-some}
use Rattle.reader.proofs.head_of.Goals as goal
use Rattle.reader.proofs.head_of.Goals.{then-frame-ne-HEAD_BYTES-via-then-frame-ne-HEAD_BYTES, then-frame-ne-HEAD_BYTES-via-else-frame-ne-HEAD_BYTES+then-frame-ne-HEAD}

pub returns-then-frame-ne-HEAD_BYTES : goal.returns-then-frame-ne-HEAD_BYTES
returns-then-frame-ne-HEAD_BYTES c =
    elim c.then-frame-ne-HEAD_BYTES.branch [
      | then-frame-ne-HEAD_BYTES-via-then-frame-ne-HEAD_BYTES w ↦ sym (says-none _ _ (inl w.if-frame-ne-HEAD_BYTES.true))
      | then-frame-ne-HEAD_BYTES-via-else-frame-ne-HEAD_BYTES+then-frame-ne-HEAD w ↦ sym (says-none _ _ (inr w.if-frame-ne-HEAD.true))
    ]

pub returns : goal.returns
returns c = c.then_some.ensures ∙ rw (c.good_numbers.ensures, c.get.ensures, c.get-2.ensures, c.get-3.ensures) (sym (says-some _ _ c.if-frame-ne-HEAD_BYTES.false c.if-frame-ne-HEAD.false))

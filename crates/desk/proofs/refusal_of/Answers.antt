use Rattle.words.specs.Word.{Bytes}
use Rattle.desk.proofs.Numbers.{unsound-number, frame-number}
use Rattle.decision.proofs.desk.Both.{sound-stands}
use mathlib.Core.Path.{sym}
use Rattle.desk.proofs.refusal_of.Goals as goal

pub returns-in_default : goal.returns-in_default
returns-in_default c = unsound-number _ (sym c.in_default.ensures.sound) _

pub judge_frame-requires : goal.judge_frame-requires
unfolding Bytes
judge_frame-requires c =
    rw c.in-Some.ensures.same.0
    (_, _, sound-stands _ (λ i. (c.type_inv.segment i).fits) (λ i. (c.type_inv.blocks i).fits) (λ i. (c.type_inv.buffers i).fits) (sym c.in-Some.ensures.sound))

pub returns : goal.returns
returns c =
    frame-number _ (sym c.in-Some.ensures.sound) _ _ c.decode.ensures _ (rw c.in-Some.ensures.same.0 at c.judge_frame.ensures)

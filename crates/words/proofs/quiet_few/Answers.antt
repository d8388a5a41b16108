use native.Mathlib.Omega.{arith}
use Rattle.words.proofs.Ors.{or_right, sofar-one, sofar-also, sofar-over}
use Rattle.words.proofs.Joins.{part_step, part-bad, last-bad, last-holds}
use Rattle.words.proofs.quiet_few.Goals as goal

pub returns : goal.returns
returns c =
    let a = c.four in
    let b = c.four-2 in
    sofar-over _ _ _
    (sofar-also _ _ _ _
    (sofar-one _ _ _ (part_step _ _ _ 4 a.result (omega arith) a.ensures.0) (part-bad _ _ _ 4 a.result (omega arith) a.ensures.0))
    (last-bad _ _ _ 4 b.result (omega arith) b.ensures.0))
    (λ h. last-holds _ _ _ 4 b.result (omega arith) 4 b.ensures.0 (or_right a.result b.result h) (omega arith) (omega arith))

use Prim.Native.Nat.{◌*◌}
use native.Mathlib.Omega.{arith}
use Rattle.words.proofs.Ors.{or_left, sofar-one, sofar-on, sofar-over}
use Rattle.words.proofs.Joins.{eight-start, eight-step, part-bad, last-bad, last-holds}
use Rattle.words.proofs.quiet.Goals as goal

pub loop-k-init : goal.loop-k-init
loop-k-init c =
    (sofar-one _ _ _ (λ h. eight-start _ _ _) (last-bad _ _ _ 8 c.eight-all.result (omega arith) c.eight-all.ensures.0), λ h. h)

pub loop-k-preserved : goal.loop-k-preserved
loop-k-preserved c =
    let l = c.loop-k in
    let x = c.eight-all-in-loop-k in (
      sofar-on _ _ _ _ _ l.invariant.0 (eight-step _ _ _ _ _ x.result (omega arith) (omega arith) x.ensures.0) (part-bad _ _ _ 8 x.result (omega arith) x.ensures.0),
      λ h. l.invariant.1 (or_left l.all x.result h),
    )

pub returns : goal.returns
returns c =
    let l = c.loop-k in
    let x = c.eight-all in
    sofar-over _ _ _ l.invariant.0 (λ h. last-holds _ _ _ 8 x.result (omega arith) (8 * l.k) x.ensures.0 (l.invariant.1 h) (omega arith) (omega arith))

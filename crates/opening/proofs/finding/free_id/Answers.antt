use Prim.Native.Nat.{◌+◌, ◌-◌}
use mathlib.Core.Path.{◌≡◌, sym, ◌∙◌}
use native.Mathlib.Omega.{arith}
use Rattle.opening.proofs.Turns.{id-here, id-on, id-end}
use Rattle.opening.proofs.finding.free_id.Goals as goal

pub returns-then-not-id_held : goal.returns-then-not-id_held
returns-then-not-id_held c = sym (c.loop-id.invariant ∙ id-here _ _ _ _ c.id_held.ensures _ (omega arith) c.if-not-id_held.true)

pub loop-id-preserved : goal.loop-id-preserved
loop-id-preserved c =
    let less : 9 - (c.loop-id.id + 1) ≡ 9 - c.loop-id.id - 1 = omega arith in
    rw less (c.loop-id.invariant ∙ id-on _ _ _ _ c.id_held.ensures _ (omega arith) c.if-not-id_held.false)

pub returns : goal.returns
returns c = let last : c.loop-id.id ≡ 9 = omega arith in sym (c.loop-id.invariant ∙ id-end _ _ _ _ (omega arith) ∙ last)

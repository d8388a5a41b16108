use Prim.Native.Nat.{◌+◌, ◌-◌, ◌*◌}
use mathlib.Core.Path.{◌≡◌, sym, ◌∙◌}
use native.Mathlib.Omega.{arith}
use Rattle.rules.specs.Limits.{places}
use Rattle.opening.proofs.Turns.{free-here, free_on, free-end}
use Rattle.opening.proofs.finding.free_place.Goals as goal

pub loop-place-init : goal.loop-place-init
loop-place-init c = let first : places * c.args.f + 0 ≡ places * c.args.f = omega arith in rw first (omega arith)

pub returns-then-place_side-eq-CLOSED : goal.returns-then-place_side-eq-CLOSED
returns-then-place_side-eq-CLOSED c = (
  sym (c.loop-place.invariant ∙ free-here _ _ _ c.place_side.ensures _ _ (omega arith) c.if-place_side-eq-CLOSED.true),
  omega arith,
)

pub loop-place-preserved : goal.loop-place-preserved
loop-place-preserved c =
    let next : places * c.args.f + (c.loop-place.place + 1) ≡ places * c.args.f + c.loop-place.place + 1 = omega arith in
    let less : places - (c.loop-place.place + 1) ≡ places - c.loop-place.place - 1 = omega arith in
    rw (next, less) (c.loop-place.invariant ∙ free_on _ _ _ c.place_side.ensures _ _ (omega arith) c.if-place_side-eq-CLOSED.false)

pub returns : goal.returns
returns c = (sym (c.loop-place.invariant ∙ free-end _ _ _ _ (omega arith) ∙ omega arith), omega arith)

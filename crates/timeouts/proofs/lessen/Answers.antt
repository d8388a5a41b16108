use Prim.Native.Nat.{◌+◌, ◌-◌}
use mathlib.Core.Path.{◌≡◌, sym, ◌∙◌}
use native.Mathlib.Omega.{arith}
use borrow.Author.Rules.{rules}
use Rattle.rules.specs.Limits.{entries}
use Rattle.timeouts.specs.Late.{less_all}
use Rattle.timeouts.proofs.Steps.{less-stop, less-step}
use Rattle.timeouts.proofs.lessen.Goals as goal

pub returns-then-e-ge-ENTRIES : goal.returns-then-e-ge-ENTRIES
returns-then-e-ge-ENTRIES c =
    sym (c.loop.invariant.2 ∙ less-stop _ _ _ c.get-e.ensures _ _ c.if-e-ge-ENTRIES.true)

pub loop-preserved : goal.loop-preserved
loop-preserved c = (
  search rules,
  search rules,
  let less : entries - (c.loop.counter + 1) ≡ entries - c.loop.counter - 1 = omega arith in
      rw (less, c.link_at-p.ensures.0, c.lose.ensures)
      (c.loop.invariant.2 ∙ less-step _ _ _ c.get-e.ensures _ _ (omega arith) c.if-e-ge-ENTRIES.false),
)

pub returns : goal.returns
unfolding less_all
returns c = let z : entries - c.loop.counter ≡ 0 = omega arith in sym (c.loop.invariant.2 ∙ rw z)

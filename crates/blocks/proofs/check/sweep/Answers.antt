use Prim.Native.Nat.{◌+◌, ◌-◌, min}
use mathlib.Core.Path.{◌≡◌, sym, ◌∙◌}
use native.Mathlib.Omega.{arith}
use Rattle.ring.proofs.Laws.{wrapped-less}
use Rattle.blocks.proofs.check.Laws.{sweep-done, sweep-end, sweep-room, sweep-bad, sweep-step}
use borrow.Author.Rules.{rules}
use Rattle.blocks.proofs.check.sweep.Goals as goal

pub returns-then-left-eq0 : goal.returns-then-left-eq0
returns-then-left-eq0 c = sym (c.loop.invariant.same ∙ sweep-done _ _ _ _ _ c.if-left-eq0.true)

pub holds-requires : goal.holds-requires
holds-requires c =
    let count : c.min-count.result ≡ min c.loop.left c.args.ring.factor = omega (arith, c.min-count.ensures, c.from.ensures) in
    let r = sweep-room _ _ _ _ _ c.block_span.ensures.value count in
    search rules

pub returns-then-not-holds : goal.returns-then-not-holds
returns-then-not-holds c =
    let count : c.min-count.result ≡ min c.loop.left c.args.ring.factor = omega (arith, c.min-count.ensures, c.from.ensures) in
    sym
    (c.loop.invariant.same
    ∙ sweep-bad _ _ _ _ _ _ _ (omega arith) c.if-left-eq0.false c.loop.invariant.block
    c.block_span.ensures.value count
    (sym c.holds.ensures ∙ c.if-not-holds.true))

pub loop-preserved : goal.loop-preserved
loop-preserved c =
    let count : c.min-count.result ≡ min c.loop.left c.args.ring.factor = omega (arith, c.min-count.ensures, c.from.ensures) in
    let m : c.args.ring.blocks - c.loop.counter - 1 ≡ c.args.ring.blocks - (c.loop.counter + 1) = omega arith in
    record {
      same = rw (← m)
          (c.loop.invariant.same
          ∙ sweep-step _ _ _ _ _ _ _ (omega arith) c.if-left-eq0.false c.loop.invariant.block
          c.block_span.ensures.value count _ c.wrapped-block.ensures
          (sym c.holds.ensures ∙ c.if-not-holds.false));
      block = rw c.wrapped-block.ensures (wrapped-less _ _ (omega arith));
      low = omega arith;
    }

pub returns : goal.returns
returns c = sym (c.loop.invariant.same ∙ sweep-end _ _ _ _ _ (omega arith))

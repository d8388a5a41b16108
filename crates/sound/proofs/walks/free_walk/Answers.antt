use mathlib.Core.Path.{◌≡◌, sym, ◌∙◌}
use native.Mathlib.Omega.{arith}
use Rattle.sound.specs.Walks.{free_walk}
use Rattle.sound.proofs.Steps.{held, failed, free-end, met-before, unfit, both-held}
use Rattle.sound.proofs.quick.Onward.{slot-holds, low_byte, high_byte, end_low, from-bad, from-good}
use Rattle.sound.proofs.walks.free_walk.Goals as goal
use mathlib.Core.Path.{ap}
use mathlib.Core.Bool.{not}

pub returns-then-s-p-ne0 : goal.returns-then-s-p-ne0
returns-then-s-p-ne0 c =
    λ b.
    sym
    (c.loop-left.invariant.3 b
    ∙ free-end _ _ _ b _ c.get.ensures _ c.loop-left-test.true
    (high_byte _ _ _ c.get.ensures c.if-s-p-ne0.true))

pub returns-then-v-ge-ENTRY_COUNT : goal.returns-then-v-ge-ENTRY_COUNT
returns-then-v-ge-ENTRY_COUNT c =
    λ b.
    sym
    (c.loop-left.invariant.3 b
    ∙ end_low _ _ b _ _ _ c.from-v.ensures c.if-s-p-ne0.false
    c.loop-left-test.true c.if-v-ge-ENTRY_COUNT.true (omega arith))

pub returns-then-seen-e-ne0 : goal.returns-then-seen-e-ne0
returns-then-seen-e-ne0 c =
    λ b.
    sym
    (c.loop-left.invariant.3 b
    ∙ slot-holds _ _ b _ _ _ (low_byte _ _ _ c.from-v.ensures c.if-s-p-ne0.false) c.loop-left-test.true c.if-v-ge-ENTRY_COUNT.false
    ∙ c.in_order-e.ensures.3 b
    ∙ from-bad _ _ b _ _ (met-before _ c.if-seen-e-ne0.true))

pub returns-then-not-free_entry : goal.returns-then-not-free_entry
returns-then-not-free_entry c =
    λ b.
    sym
    (c.loop-left.invariant.3 b
    ∙ slot-holds _ _ b _ _ _ (low_byte _ _ _ c.from-v.ensures c.if-s-p-ne0.false) c.loop-left-test.true c.if-v-ge-ENTRY_COUNT.false
    ∙ c.in_order-e.ensures.3 b
    ∙ from-bad _ _ b _ _
    (unfit c.if-seen-e-ne0.false (failed c.free_entry.ensures (ap not c.if-not-free_entry.true))))

pub loop-left-preserved : goal.loop-left-preserved
loop-left-preserved c = (
  omega arith,
  omega arith,
  omega arith,
  λ b.
      c.loop-left.invariant.3 b
      ∙ slot-holds _ _ b _ _ _ (low_byte _ _ _ c.from-v.ensures c.if-s-p-ne0.false) c.loop-left-test.true c.if-v-ge-ENTRY_COUNT.false
      ∙ c.in_order-e.ensures.3 b
      ∙ from-good _ _ b _ _
      (both-held c.if-seen-e-ne0.false (held c.free_entry.ensures (ap not c.if-not-free_entry.false))),
)

pub returns : goal.returns
unfolding free_walk
returns c = let z : c.loop-left.left ≡ 0 = omega arith in λ b. sym (c.loop-left.invariant.3 b ∙ rw z)

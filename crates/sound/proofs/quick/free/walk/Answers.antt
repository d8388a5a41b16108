use mathlib.Core.Path.{refl, sym, ◌∙◌}
use native.Mathlib.Omega.{arith}
use Rattle.sound.proofs.Steps.{held, failed}
use Rattle.sound.proofs.quick.Onward.{low_byte, high-place}
use Rattle.sound.proofs.quick.Ends.{from-off, from_on, ends-off, ends_on, ends-nil, ends_next}
use Rattle.sound.proofs.quick.free.walk.Goals as goal
use mathlib.Core.Path.{ap}
use mathlib.Core.Bool.{not}

pub returns-then-s-p-ne0 : goal.returns-then-s-p-ne0
returns-then-s-p-ne0 c =
    sym (c.loop-left.invariant.3 ∙ ends-off _ _ _ _ refl c.loop-left-test.true (high-place _ _ c.if-s-p-ne0.true))

pub returns-then-v-ge-ENTRY_COUNT : goal.returns-then-v-ge-ENTRY_COUNT
returns-then-v-ge-ENTRY_COUNT c =
    sym (c.loop-left.invariant.3 ∙ ends-off _ _ _ _ (low_byte _ _ _ c.from-v.ensures c.if-s-p-ne0.false) c.loop-left-test.true c.if-v-ge-ENTRY_COUNT.true)

pub returns-then-not-free_entry : goal.returns-then-not-free_entry
returns-then-not-free_entry c =
    let k = c.paired.ensures c.if-paired.true in
    sym
    (c.loop-left.invariant.3
    ∙ ends_on _ _ _ _ (low_byte _ _ _ c.from-v.ensures c.if-s-p-ne0.false) c.loop-left-test.true c.if-v-ge-ENTRY_COUNT.false
    ∙ c.along-e.ensures.3
    ∙ ends_next _ _ _ _ _ refl k.2 k.1 k.0
    ∙ from-off _ _ _ (failed c.free_entry.ensures (ap not c.if-not-free_entry.true)))

pub loop-left-preserved-then-paired : goal.loop-left-preserved-then-paired
loop-left-preserved-then-paired c =
    let k = c.paired.ensures c.if-paired.true in (
      omega arith,
      omega arith,
      omega arith,
      c.loop-left.invariant.3
          ∙ ends_on _ _ _ _ (low_byte _ _ _ c.from-v.ensures c.if-s-p-ne0.false) c.loop-left-test.true c.if-v-ge-ENTRY_COUNT.false
          ∙ c.along-e.ensures.3
          ∙ ends_next _ _ _ _ _ refl k.2 k.1 k.0
          ∙ from_on _ _ _ (held c.free_entry.ensures (ap not c.if-not-free_entry.false)),
    )

pub returns-then-not-free_entry-2 : goal.returns-then-not-free_entry-2
returns-then-not-free_entry-2 c =
    sym
    (c.loop-left.invariant.3
    ∙ ends_on _ _ _ _ (low_byte _ _ _ c.from-v.ensures c.if-s-p-ne0.false) c.loop-left-test.true c.if-v-ge-ENTRY_COUNT.false
    ∙ c.along-e.ensures.3
    ∙ from-off _ _ _ (failed c.free_entry-in-loop-left.ensures (ap not c.if-not-free_entry-2.true)))

pub loop-left-preserved : goal.loop-left-preserved
loop-left-preserved c = (
  omega arith,
  omega arith,
  omega arith,
  c.loop-left.invariant.3
      ∙ ends_on _ _ _ _ (low_byte _ _ _ c.from-v.ensures c.if-s-p-ne0.false) c.loop-left-test.true c.if-v-ge-ENTRY_COUNT.false
      ∙ c.along-e.ensures.3
      ∙ from_on _ _ _ (held c.free_entry-in-loop-left.ensures (ap not c.if-not-free_entry-2.false)),
)

pub returns : goal.returns
returns c = rw c.get.ensures (ends-nil _ _ _ c.loop-left-test.false ∙ sym c.loop-left.invariant.3)

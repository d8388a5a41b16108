use native.Mathlib.Omega.{arith}
use mathlib.Core.Path.{◌≡◌, sym, ◌∙◌}
use Prim.Native.Nat.{◌+◌, ◌-◌}
use Rattle.rules.specs.Limits.{entries}
use Rattle.sound.specs.Walks.{entry_word, place_in, timer_walk}
use Rattle.sound.proofs.Steps.{held, failed, timer_end, timer_bad, timer_next, timer-place, met-before, unfit, both-held}
use Rattle.sound.proofs.walks.timer_walk.Goals as goal
use mathlib.Core.Path.{ap}
use mathlib.Core.Bool.{not}

pub returns-then-v-ge-ENTRIES : goal.returns-then-v-ge-ENTRIES
returns-then-v-ge-ENTRIES c =
    sym
    (c.loop.invariant.1
    ∙ timer_end _ _ _ _ _ _ _ (omega arith) _ c.get-v.ensures c.if-v-ge-ENTRIES.true)

pub returns-then-seen-e-ne0 : goal.returns-then-seen-e-ne0
returns-then-seen-e-ne0 c =
    sym
    (c.loop.invariant.1
    ∙ timer_bad _ _ _ _ _ _ _ (omega arith) _ c.get-v.ensures
    c.if-v-ge-ENTRIES.false (met-before _ c.if-seen-e-ne0.true))

pub returns-then-not-timer_entry : goal.returns-then-not-timer_entry
returns-then-not-timer_entry c =
    sym
    (c.loop.invariant.1
    ∙ timer_bad _ _ _ _ _ _ _ (omega arith) _ c.get-v.ensures c.if-v-ge-ENTRIES.false
    (unfit c.if-seen-e-ne0.false (failed c.timer_entry.ensures (ap not c.if-not-timer_entry.true))))

pub bounds-busy-i : goal.bounds-busy-i
bounds-busy-i c =
    let h = timer-place c.args.s.now c.loop.busy c.loop.low c.get-v.result _ c.get-i.ensures
    (held c.timer_entry.ensures (ap not c.if-not-timer_entry.false)) in
    omega arith

pub loop-preserved : goal.loop-preserved
unfolding place_in entry_word
loop-preserved c = (
  omega arith,
  rw (c.get-i.ensures, c.get-low.ensures)
      (c.loop.invariant.1
      ∙ timer_next _ _ _ _ _ _ _ (omega arith) _ c.get-v.ensures c.if-v-ge-ENTRIES.false
      (both-held c.if-seen-e-ne0.false (held c.timer_entry.ensures (ap not c.if-not-timer_entry.false)))),
)

pub returns : goal.returns
unfolding timer_walk
returns c = let z : entries + 1 - c.loop.counter ≡ 0 = omega arith in sym (c.loop.invariant.1 ∙ rw z)

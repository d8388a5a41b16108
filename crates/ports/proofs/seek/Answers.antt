use Prim.Native.Nat.{◌+◌, ◌-◌}
use mathlib.Core.Path.{◌≡◌, sym, ◌∙◌}
use native.Mathlib.Omega.{arith}
use borrow.Author.Rules.{rules}
use Rattle.rules.specs.Limits.{entries}
use Rattle.ports.specs.Slots.{seek}
use Rattle.ports.proofs.Steps.{seek_stop, seek-here, seek-step}
use Rattle.ports.proofs.seek.Goals as goal
use Rattle.ports.proofs.seek.Goals.{then-e-ge-ENTRIES-via-then-e-ge-ENTRIES, then-e-ge-ENTRIES-via-else-e-ge-ENTRIES+then-passes}

pub returns-then-e-ge-ENTRIES-clause-found : goal.returns-then-e-ge-ENTRIES-clause-found
returns-then-e-ge-ENTRIES-clause-found g c = λ t h.
    sym
    (c.loop.invariant.1 t h
    ∙ elim c.then-e-ge-ENTRIES.branch [
      | then-e-ge-ENTRIES-via-then-e-ge-ENTRIES w ↦ seek_stop _ _ _ c.get-e.ensures t _ w.if-e-ge-ENTRIES.true
      | then-e-ge-ENTRIES-via-else-e-ge-ENTRIES+then-passes w ↦
          seek-here _ _ _ c.get-e.ensures t _ w.if-e-ge-ENTRIES.false
          (sym (h _ _ w.if-e-ge-ENTRIES.false (rw w.read_entry.ensures at w.if-passes.ensures)))
    ])

pub loop-preserved : goal.loop-preserved
loop-preserved g c = (
  search rules,
  λ t h.
      let m : entries - (c.loop.counter + 1) ≡ entries - c.loop.counter - 1 = omega arith in
      rw (c.link_at-p.ensures.0, m)
      (c.loop.invariant.1 t h
      ∙ seek-step _ _ _ c.get-e.ensures t _ (omega arith) c.if-e-ge-ENTRIES.false
      (sym (h _ _ c.if-e-ge-ENTRIES.false (rw c.read_entry.ensures at c.if-passes.ensures)))),
)

pub returns-clause-found : goal.returns-clause-found
unfolding seek
returns-clause-found g c = λ t h. let z : entries - c.loop.counter ≡ 0 = omega arith in sym (c.loop.invariant.1 t h ∙ rw z)

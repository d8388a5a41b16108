use borrow.Author.Tests.{eq-eqb, ne_eqb}
use mathlib.Core.Path.{sym}
use Rattle.sound.proofs.Steps.{held, failed, port-end, port-bad, port-good}
use Rattle.sound.proofs.walks.port_walk.Goals as goal
use mathlib.Core.Path.{ap}
use mathlib.Core.Bool.{not}

pub returns-then-v-ge-ENTRIES : goal.returns-then-v-ge-ENTRIES
returns-then-v-ge-ENTRIES c = sym (port-end _ _ _ _ _ c.get-v.ensures c.if-v-ge-ENTRIES.true)

pub returns-then-seen-e-ne0 : goal.returns-then-seen-e-ne0
returns-then-seen-e-ne0 c =
    sym
    (port-bad _ _ _ _ _ c.get-v.ensures c.if-v-ge-ENTRIES.false
    (rw (ne_eqb _ _ c.if-seen-e-ne0.true)))

pub returns-then-not-port_entry : goal.returns-then-not-port_entry
returns-then-not-port_entry c =
    sym
    (port-bad _ _ _ _ _ c.get-v.ensures c.if-v-ge-ENTRIES.false
    (rw (
      eq-eqb _ _ c.if-seen-e-ne0.false,
      failed c.port_entry.ensures (ap not c.if-not-port_entry.true),
    )))

pub returns-then-get : goal.returns-then-get
returns-then-get c =
    sym
    (port-bad _ _ _ _ _ c.get-v.ensures c.if-v-ge-ENTRIES.false
    (rw (
      eq-eqb _ _ c.if-seen-e-ne0.false,
      held c.port_entry.ensures (ap not c.if-not-port_entry.false),
      ← c.get.ensures,
      ne_eqb _ _ c.if-get.true,
    )))

pub returns : goal.returns
returns c =
    sym
    (port-good _ _ _ _ _ c.get-v.ensures c.if-v-ge-ENTRIES.false
    (rw (
      eq-eqb _ _ c.if-seen-e-ne0.false,
      held c.port_entry.ensures (ap not c.if-not-port_entry.false),
      ← c.get.ensures,
      eq-eqb _ _ c.if-get.false,
    )))

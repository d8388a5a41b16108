use native.Mathlib.Omega.{arith}
use mathlib.Core.Path.{refl, sym, ◌∙◌}
use Rattle.ring.proofs.Laws.{advanced-held}
use Rattle.records.proofs.cursor.Laws.{stands-readable, stands-long}
use Rattle.records.proofs.fetch.Search.{search-start, search-end, search-stop, search-next}
use Rattle.records.proofs.fetch.discarded.Goals as goal

pub loop-cursor-init : goal.loop-cursor-init
loop-cursor-init c = search-start _ _ _ _ refl c.requires

pub overflow_add-cursor : goal.overflow_add-cursor
overflow_add-cursor c =
    let h = stands-readable _ _ _ c.loop-cursor.invariant.stands c.loop-cursor-test.true in
    record { fits = omega (arith, h.inside, stands-long _ _ _ c.loop-cursor.invariant.stands) }

pub get-requires : goal.get-requires
get-requires c =
    let h = stands-readable _ _ _ c.loop-cursor.invariant.stands c.loop-cursor-test.true in
    omega (arith, h.inside, h.low)

pub returns-then-get-eq-DATA-clause-ring : goal.returns-then-get-eq-DATA-clause-ring
returns-then-get-eq-DATA-clause-ring c =
    (search-stop _ _ _ c.requires.held _ c.loop-cursor.invariant c.loop-cursor-test.true
    (sym c.get.ensures ∙ c.if-get-eq-DATA.true)).0

pub returns-then-get-eq-DATA-clause-oldest : goal.returns-then-get-eq-DATA-clause-oldest
returns-then-get-eq-DATA-clause-oldest c =
    (search-stop _ _ _ c.requires.held _ c.loop-cursor.invariant c.loop-cursor-test.true
    (sym c.get.ensures ∙ c.if-get-eq-DATA.true)).1.1

pub loop-cursor-smaller : goal.loop-cursor-smaller
loop-cursor-smaller c =
    rw (
      c.next-cursor.ensures.ring,
      advanced-held c.loop-cursor.cursor.ring c.loop-cursor-test.true,
    ) (omega (arith, c.loop-cursor-test.true))

pub loop-cursor-preserved : goal.loop-cursor-preserved
loop-cursor-preserved c =
    search-next _ _ _ c.requires.held _ c.loop-cursor.invariant c.loop-cursor-test.true
    (λ z. c.if-get-eq-DATA.false (c.get.ensures ∙ z)) _ c.next-cursor.ensures.ring
    c.next-cursor.ensures.stands

pub returns-clause-ring : goal.returns-clause-ring
returns-clause-ring c =
    (search-end _ _ _ c.requires.held _ c.loop-cursor.invariant c.loop-cursor-test.false).0

pub returns-clause-oldest : goal.returns-clause-oldest
returns-clause-oldest c =
    (search-end _ _ _ c.requires.held _ c.loop-cursor.invariant c.loop-cursor-test.false).1.1

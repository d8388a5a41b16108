use native.Mathlib.Omega.{arith}
use Rattle.ring.proofs.Held.{held-ranged}
use Rattle.records.proofs.cursor.Laws.{stands-ranged, stands-readable, stands-held, stands-start, stands-next}
use Rattle.records.proofs.cursor.Cursor.next.Goals as goal

pub advanced-ring-requires : goal.advanced-ring-requires
advanced-ring-requires c = stands-ranged _ _ _ c.requires.0

pub block_span-block-requires : goal.block_span-block-requires
block_span-block-requires c =
    let h = stands-held _ _ _ c.requires.0 c.requires.1 _ c.advanced-ring.ensures in
    (h.fitted, (held-ranged _ _ _ h).block)

pub returns-then-ring-eq0-clause-stands : goal.returns-then-ring-eq0-clause-stands
returns-then-ring-eq0-clause-stands c =
    stands-start _ _ _ c.requires.0 c.requires.1 _ c.advanced-ring.ensures _
    c.block_span-block.ensures.value c.if-ring-eq0.true

pub next-requires : goal.next-requires
next-requires c =
    let h = stands-readable _ _ _ c.requires.0 c.requires.1 in omega (arith, h.inside)

pub returns-clause-stands : goal.returns-clause-stands
returns-clause-stands c =
    stands-next _ _ _ c.requires.0 c.requires.1 _ c.advanced-ring.ensures c.if-ring-eq0.false _ c.next.ensures.value

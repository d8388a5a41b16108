use Rattle.records.proofs.cursor.Laws.{head-made, head-behind, stands-full}
use Rattle.ring.proofs.Held.{held-long}
use Prim.Native.Nat.{◌+◌}
use mathlib.Core.Path.{refl, sym, ◌∙◌}
use borrow.Author.Tests.{eqb-true}
use borrow.Author.Rules.{rules}
use Rattle.records.proofs.cursor.first.Goals as goal

pub returns-then-full-clause-stands : goal.returns-then-full-clause-stands
returns-then-full-clause-stands c =
    stands-full _ _ _ c.requires _ c.block_span-block.ensures.value (eqb-true _ _ (sym c.full.ensures ∙ c.if-full.true)) _ refl

pub skip-at-requires : goal.skip-at-requires
skip-at-requires c =
    let long = held-long _ _ _ c.requires in
    (long, (c.block_span-block.result.at + c.block_span-block.result.size, search rules, head-behind _ _ _ c.requires _ c.block_span-block.ensures.value), search rules)

pub returns-clause-stands : goal.returns-clause-stands
returns-clause-stands c =
    let behind = head-behind _ _ _ c.requires _ c.block_span-block.ensures.value in
    record { held = c.requires; at = head-made _ _ _ _ _ c.block_span-block.ensures.value _ (c.skip-at.ensures _ behind) }

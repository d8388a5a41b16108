use mathlib.Core.Path.{refl, sym, ◌∙◌}
use native.Mathlib.Omega.{arith}
use Rattle.segment.specs.Layout.{free_list}
use Rattle.sound.proofs.Steps.{held, failed}
use Rattle.sound.proofs.quick.Ends.{ends-off}
use Rattle.sound.proofs.quick.Strides.{table-closed, table-twice, not-bare, by-strides}
use Rattle.sound.proofs.quick.tables.by_tables.Goals as goal
use mathlib.Core.Path.{ap}
use mathlib.Core.Bool.{not}

pub returns-then-head-ge-ENTRIES : goal.returns-then-head-ge-ENTRIES
returns-then-head-ge-ENTRIES c = sym (ends-off _ free_list _ _ c.get-head.ensures (omega arith) c.if-head-ge-ENTRIES.true)

pub returns-then-not-fill : goal.returns-then-not-fill
returns-then-not-fill c = sym (not-bare _ free_list (failed c.fill.ensures.0 (ap not c.if-not-fill.true)))

pub twice-requires : goal.twice-requires
twice-requires c = (table-closed _ 1 c.fill.new.one c.fill.ensures.1, refl)

pub twice-requires-2 : goal.twice-requires-2
twice-requires-2 c =
    (table-closed _ 2 c.twice.new.to (table-twice _ 1 2 c.fill.new.one c.twice.new.to refl c.fill.ensures.1 c.twice.ensures), refl)

pub ends-requires : goal.ends-requires
ends-requires c =
    let two = table-twice _ 1 2 c.fill.new.one c.twice.new.to refl c.fill.ensures.1 c.twice.ensures in
    let fours = table-twice _ 2 4 c.twice.new.to c.twice-2.new.to refl two c.twice-2.ensures in
    (table-closed _ 1 c.fill.new.one c.fill.ensures.1, table-closed _ 2 c.twice.new.to two, table-closed _ 4 c.twice-2.new.to fours, c.if-head-ge-ENTRIES.false)

pub returns : goal.returns
returns c =
    let two = table-twice _ 1 2 c.fill.new.one c.twice.new.to refl c.fill.ensures.1 c.twice.ensures in
    let fours = table-twice _ 2 4 c.twice.new.to c.twice-2.new.to refl two c.twice-2.ensures in
    c.ends.ensures _ c.fill.ensures.1 two fours
    ∙ by-strides _ free_list _ (held c.fill.ensures.0 (ap not c.if-not-fill.false)) c.get-head.ensures c.if-head-ge-ENTRIES.false

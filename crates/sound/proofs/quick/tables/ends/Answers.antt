use native.Mathlib.Omega.{arith}
use Rattle.sound.proofs.quick.Strides.{tables-lead, far-off, far-on}
use Rattle.sound.proofs.quick.tables.ends.Goals as goal

pub returns-then-last-ge-ENTRY_COUNT : goal.returns-then-last-ge-ENTRY_COUNT
returns-then-last-ge-ENTRY_COUNT c =
    λ s h₁ h₂ h₄.
    far-off s _ _ _
    (tables-lead s c.args.one.now c.args.two.now c.args.head c.from-second.result c.from-third.result c.by_fours-last.result h₁ h₂ (omega arith)
    c.from-second.ensures c.from-third.ensures (c.by_fours-last.ensures.1 s h₄))
    c.if-last-ge-ENTRY_COUNT.true

pub returns : goal.returns
returns c =
    λ s h₁ h₂ h₄.
    far-on s c.args.one.now _ _ _ h₁
    (tables-lead s c.args.one.now c.args.two.now c.args.head c.from-second.result c.from-third.result c.by_fours-last.result h₁ h₂ (omega arith)
    c.from-second.ensures c.from-third.ensures (c.by_fours-last.ensures.1 s h₄))
    c.if-last-ge-ENTRY_COUNT.false

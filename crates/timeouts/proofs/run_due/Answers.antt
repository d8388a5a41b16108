use Prim.Native.Nat.{◌+◌, ◌-◌}
use mathlib.Core.Path.{◌≡◌}
use native.Mathlib.Omega.{arith}
use Rattle.rules.specs.Limits.{entries}
use Rattle.timeouts.proofs.Reaches.{reached-start, stop-spent, stop-none, stop-late, goes_on}
use Rattle.timeouts.proofs.run_due.Goals as goal

pub loop-init : goal.loop-init
loop-init c = (λ d s S. reached-start _ S)

pub returns-then-e-ge-ENTRIES : goal.returns-then-e-ge-ENTRIES
returns-then-e-ge-ENTRIES c =
    λ d s S.
    stop-none (c.loop.invariant d s S) _ c.get-e.ensures c.if-e-ge-ENTRIES.true

pub returns-then-seconds-entry_seconds : goal.returns-then-seconds-entry_seconds
returns-then-seconds-entry_seconds c =
    λ d s S.
    stop-late (c.loop.invariant d s S) _ c.get-e.ensures c.if-e-ge-ENTRIES.false _
    c.entry_seconds.ensures c.if-seconds-entry_seconds.true

pub time_out-requires : goal.time_out-requires
time_out-requires c =
    let g = goes_on (c.loop.invariant c.requires.0 c.requires.1 c.requires.2) _
    c.get-e.ensures c.if-e-ge-ENTRIES.false _ c.entry_seconds.ensures c.if-seconds-entry_seconds.false _
    c.entry_place-place.ensures in
    (g.0, g.1)

pub loop-preserved : goal.loop-preserved
loop-preserved c =
    let less : entries - (c.loop.counter + 1) ≡ entries - c.loop.counter - 1 = omega arith in
    rw (less, c.time_out.ensures.0, c.time_out.ensures.1)
    (λ d s S.
    (goes_on (c.loop.invariant d s S) _ c.get-e.ensures c.if-e-ge-ENTRIES.false _ c.entry_seconds.ensures c.if-seconds-entry_seconds.false _
    c.entry_place-place.ensures).2)

pub returns : goal.returns
returns c = λ d s S. stop-spent (c.loop.invariant d s S) (omega arith)

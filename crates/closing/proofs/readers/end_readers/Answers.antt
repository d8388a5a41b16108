use Prim.Native.Nat.{◌+◌, ◌-◌}
use mathlib.Core.Path.{◌≡◌}
use native.Mathlib.Omega.{arith}
use Rattle.rules.specs.Limits.{entries}
use Rattle.closing.proofs.Ends.{walked-size, walked-stops}
use Rattle.closing.proofs.Walks.{walk-begin, walk-stop, walk-done}
use Rattle.closing.proofs.readers.end_readers.Goals as goal

pub loop-init : goal.loop-init
loop-init c = λ n blocks x o b M. walk-begin M

pub get-e-requires : goal.get-e-requires
get-e-requires c =
    (walked-size _ _ _ _ _ _ _ c.loop.invariant c.requires).1

pub returns-then-e-ge-ENTRIES : goal.returns-then-e-ge-ENTRIES
returns-then-e-ge-ENTRIES c =
    λ n blocks x o b M.
    walk-stop (c.loop.invariant n blocks x o b M) _ c.get-e.ensures c.if-e-ge-ENTRIES.true

pub pass-slot-requires : goal.pass-slot-requires
pass-slot-requires c =
    walked-stops _ _ _ _ _ _ _ c.loop.invariant c.requires _ c.get-e.ensures
    (omega (arith, c.if-e-ge-ENTRIES.false))

pub loop-preserved : goal.loop-preserved
loop-preserved c =
    let less : entries - (c.loop.counter + 1) ≡ entries - c.loop.counter - 1 = omega arith in
    rw less (λ n blocks x o b M. c.pass-slot.ensures n _ blocks x o b _ (c.loop.invariant n blocks x o b M))

pub returns : goal.returns
returns c = λ n blocks x o b M. walk-done (c.loop.invariant n blocks x o b M) (omega arith)

use Prim.Native.Nat.{◌+◌, ◌-◌}
use native.Mathlib.Omega.{arith}
use borrow.Author.Tests.{leb-true}
use Rattle.rules.specs.Limits.{places}
use Rattle.sound.proofs.quick.Ample.{room-ample}
use Rattle.sound.proofs.quick.room.ample.Goals as goal

pub returns : goal.returns
returns c = λ h s i.
    room-ample s i c.args.used c.args.most (omega (arith, leb-true c.args.used (c.args.most - (places + 1)) h, c.if-most-lt-AMPLE.false))

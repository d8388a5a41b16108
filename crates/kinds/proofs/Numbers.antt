-- No refusal has the number 0.
use mathlib.Core.Path.{◌≡◌}
use native.Mathlib.Omega.{arith}
use Rattle.kinds.specs.declared.refusals.Refusal.{Refusal}
use Rattle.kinds.specs.declared.refusals.Refusal.TheVariants.{Unsound, Shape, File, Accessor, Outstanding, Side, Range, Size, Nothing, Sharing, Full, Room, NoSheet, Short}
use Rattle.kinds.specs.Refusals.{number}

pub number-high : (r : Refusal) → number r ≡ 0 → ⊥
number-high Unsound e = omega (arith, e)
number-high Shape e = omega (arith, e)
number-high File e = omega (arith, e)
number-high Accessor e = omega (arith, e)
number-high Outstanding e = omega (arith, e)
number-high Side e = omega (arith, e)
number-high Range e = omega (arith, e)
number-high Size e = omega (arith, e)
number-high Nothing e = omega (arith, e)
number-high Sharing e = omega (arith, e)
number-high Full e = omega (arith, e)
number-high Room e = omega (arith, e)
number-high NoSheet e = omega (arith, e)
number-high Short e = omega (arith, e)

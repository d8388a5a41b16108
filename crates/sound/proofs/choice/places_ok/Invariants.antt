use Prim.Native.Nat.{◌+◌, ◌-◌}
use mathlib.Core.Path.{◌≡◌}
use Rattle.sound.specs.Rows.{places_ok}
use Rattle.sound.proofs.choice.places_ok.Given as goal

abbrev pub invariant-loop-k : goal.invariant-loop-k
invariant-loop-k l = places_ok l.s l.i l.n ≡ places_ok l.s (l.i + l.k) (l.n - l.k)

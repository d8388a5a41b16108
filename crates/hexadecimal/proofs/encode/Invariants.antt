use Prim.Native.Nat.{◌*◌}
use mathlib.Core.Path.{◌≡◌}
use lib.ListN.{length, drop}
use lib.Seq.{sets}
use Rattle.rules.specs.Line.{digits_of}
use Rattle.hexadecimal.proofs.encode.Given as goal

abbrev pub invariant-loop-i : goal.invariant-loop-i
invariant-loop-i l =
    (length l.out ≡ length l.initial.out) × (sets l.out (2 * l.i) (digits_of (drop l.i l.s)) ≡ sets l.initial.out 0 (digits_of l.s))

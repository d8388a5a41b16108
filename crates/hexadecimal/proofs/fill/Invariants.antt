use Prim.Native.Nat.{◌*◌}
use mathlib.Core.Path.{◌≡◌}
use lib.ListN.{length, drop}
use lib.Seq.{sets}
use Rattle.rules.specs.Line.{bytes_of}
use Rattle.hexadecimal.proofs.fill.Given as goal

abbrev pub invariant-loop-i : goal.invariant-loop-i
invariant-loop-i l =
    (length l.out ≡ length l.initial.out) × (sets l.out l.i (bytes_of (drop (2 * l.i) l.s)) ≡ sets l.initial.out 0 (bytes_of l.s))

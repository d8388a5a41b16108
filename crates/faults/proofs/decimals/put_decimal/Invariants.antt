use Prim.Native.Nat.{◌+◌}
use mathlib.Core.Path.{◌≡◌}
use lib.ListN.{length, take, drop}
use lib.Seq.{sets}
use Rattle.faults.specs.Decimals.{decimal}
use Rattle.faults.proofs.Powers.{last_digits}
use Rattle.faults.proofs.decimals.put_decimal.Given as goal

abbrev pub invariant-loop-k : goal.invariant-loop-k
invariant-loop-k l =
    (length l.out ≡ length l.initial.out)
    × (take l.k (decimal l.n) ≡ last_digits l.k l.rest)
    × (l.out ≡ sets l.initial.out (l.at + l.k) (drop l.k (decimal l.n)))

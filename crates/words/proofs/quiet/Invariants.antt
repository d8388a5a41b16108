use Prim.Native.Nat.{◌+◌, ◌*◌, ◌-◌}
use mathlib.Core.Path.{◌≡◌}
use Rattle.words.specs.Word.{quiet}
use Rattle.words.proofs.Ors.{Sofar}
use Rattle.words.proofs.quiet.Given as goal

abbrev pub invariant-loop-k : goal.invariant-loop-k
invariant-loop-k l = Sofar l.all (quiet l.s l.at l.n) (quiet l.s (l.at + 8 * l.k) (l.n - 8 * l.k)) × (l.all ≡ 0 → l.initial.all ≡ 0)

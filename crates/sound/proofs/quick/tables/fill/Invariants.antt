use Prim.Native.Nat.{ℕ, ◌-◌, ◌<◌}
use mathlib.Core.Path.{◌≡◌}
use lib.ListN.{length, get_or}
use Rattle.rules.specs.Limits.{entries}
use Rattle.words.proofs.Ors.{Sofar}
use Rattle.sound.specs.quick.Strides.{stops, stride, bare_from}
use Rattle.sound.proofs.quick.tables.fill.Given as goal

abbrev pub invariant-loop-e : goal.invariant-loop-e
invariant-loop-e l =
    (length l.one ≡ stops)
    × Sofar l.all (bare_from l.s 0 entries) (bare_from l.s l.e (entries - l.e))
    × ((k : ℕ) → k < l.e → get_or l.one k 0 ≡ stride l.s k)

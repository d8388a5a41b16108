use Prim.Native.Nat.{◌-◌}
use mathlib.Core.Path.{◌≡◌}
use Rattle.rules.specs.Limits.{files}
use Rattle.sound.specs.Sound.{files_ok}
use Rattle.sound.proofs.files.files_ok.Given as goal

abbrev pub invariant-loop-f : goal.invariant-loop-f
invariant-loop-f l = files_ok l.s l.blocks 0 files ≡ files_ok l.s l.blocks l.f (files - l.f)

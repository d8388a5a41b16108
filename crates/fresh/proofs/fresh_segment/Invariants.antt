use Rattle.fresh.proofs.Words.{from}
use Rattle.segment.specs.Layout.{segment_words}
use lib.Seq.{sets}
use mathlib.Core.Path.{◌≡◌}
use Prim.Native.Nat.{◌*◌, ◌-◌}
use Rattle.fresh.proofs.fresh_segment.Given as goal

abbrev pub invariant-loop-k : goal.invariant-loop-k
invariant-loop-k l = sets l.s (2 * l.k) (from l.k (segment_words - l.k)) ≡ sets l.initial.s (2 * 0) (from 0 segment_words)

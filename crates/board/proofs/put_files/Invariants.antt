use Prim.Native.Nat.{ℕ}
use mathlib.Core.List.{List}
use Rattle.rules.specs.Desk.{Desk}
use Rattle.rules.specs.Allocation.{Alloc}
use Rattle.memory.specs.Memories.{memories}
use Rattle.memory.specs.Fine.{StandsFor}
use Rattle.board.proofs.Turns.{Filed}
use Rattle.board.proofs.put_files.Given as goal

abbrev pub invariant-loop-f : goal.invariant-loop-f
invariant-loop-f l = (buffers : List ℕ) (d : Desk) (s : Alloc) → StandsFor (memories l.segment l.blocks buffers) d s → Filed d l.initial.out l.f l.out l.end

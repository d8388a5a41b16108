use Rattle.rules.specs.Desk.{Desk}
use Rattle.rules.specs.Allocation.{Alloc}
use Rattle.memory.specs.Memories.{memories}
use Rattle.memory.specs.Fine.{StandsFor}
use Rattle.serving.specs.Going.{begun}
use Rattle.serving.specs.Served.{Kept}
use Rattle.serving.specs.Told.{Heard}
use Rattle.serving.proofs.serve.Given as goal

abbrev pub invariant-loop : goal.invariant-loop
invariant-loop gi l = record {
  heard : (d : Desk) (s : Alloc) → StandsFor (memories l.initial.segment l.initial.blocks l.initial.buffers) d s
      → Heard (gi.I.Read.remaining l.initial.input) (gi.I.Read.remaining l.input) (gi.O.Write.contents l.initial.output) (gi.O.Write.contents l.output) l.aloud (begun d s)
      (memories l.segment l.blocks l.buffers) l.line.bytes l.out.bytes l.line.len;
  kept : Kept (memories l.initial.segment l.initial.blocks l.initial.buffers) (memories l.segment l.blocks l.buffers);
}

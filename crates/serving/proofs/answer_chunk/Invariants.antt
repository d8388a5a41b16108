use Rattle.std.proofs.Common.{◌≤◌, ◌-◌, length, take}
use Rattle.memory.specs.Memories.{memories}
use Rattle.serving.specs.Going.{Going, goes, written, At}
use Rattle.std.specs.Io.KnownBytes.{Appends}
use Rattle.serving.specs.Served.{Kept}
use Rattle.serving.specs.Told.{said, answers}
use Rattle.serving.proofs.answer_chunk.Given as goal

abbrev pub invariant-loop-at : goal.invariant-loop-at
invariant-loop-at gi l = record {
  in_range : l.at ≤ length l.chunk;
  at : (g : Going)
      → At (written g) (memories l.initial.segment l.initial.blocks l.initial.buffers) l.initial.line.bytes l.initial.out.bytes l.initial.line.len 0
      → At (written (goes g (take l.at l.chunk))) (memories l.segment l.blocks l.buffers) l.line.bytes l.out.bytes l.line.len 0;
  printed : (g : Going)
      → At (written g) (memories l.initial.segment l.initial.blocks l.initial.buffers) l.initial.line.bytes l.initial.out.bytes l.initial.line.len 0
      → Appends (gi.O.Write.contents l.initial.output) (gi.O.Write.contents l.output) (said l.aloud (answers g (take l.at l.chunk)));
  kept : Kept (memories l.initial.segment l.initial.blocks l.initial.buffers) (memories l.segment l.blocks l.buffers);
}

abbrev pub decreases-loop-at : goal.decreases-loop-at
decreases-loop-at gi l = length l.chunk - l.at

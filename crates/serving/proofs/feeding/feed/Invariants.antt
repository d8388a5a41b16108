use Rattle.std.proofs.Common.{◌≡◌, take}
use Rattle.serving.specs.Going.{Going, goes, At}
use Rattle.serving.specs.Served.{Kept}
use Rattle.memory.specs.Memories.{memories}
use Rattle.serving.proofs.feeding.feed.Given as goal

abbrev pub invariant-loop-i : goal.invariant-loop-i
invariant-loop-i l = record {
  first : l.i ≡ 0 → l.out.len ≡ 0;
  at : (g : Going)
      → At g (memories l.initial.segment l.initial.blocks l.initial.buffers) l.initial.line.bytes l.initial.out.bytes l.initial.line.len 0
      → At (goes g (take l.i l.chunk)) (memories l.segment l.blocks l.buffers) l.line.bytes l.out.bytes l.line.len l.out.len;
  kept : Kept (memories l.initial.segment l.initial.blocks l.initial.buffers) (memories l.segment l.blocks l.buffers);
}

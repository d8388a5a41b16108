-- Time begins to pass: what the memories stand for, with nothing done yet.
use Prim.Native.Nat.{ℕ}
use mathlib.Core.Path.{◌≡◌}
use mathlib.Core.List.{List}
use Rattle.rules.specs.State.{File, unbuilt, built}
use Rattle.rules.specs.Desk.{Desk, file_of}
use Rattle.rules.specs.Allocation.{Alloc}
use Rattle.laws.specs.Runs.{OnFile}
use Rattle.laws.specs.Queues.{Agree}
use Rattle.laws.proofs.Happenings.{matches-now}
use Rattle.memory.specs.Memories.{memories}
use Rattle.memory.specs.Image.{rows_of}
use Rattle.memory.specs.Stands.{FileBytes}
use Rattle.memory.specs.Fine.{Fine, StandsFor}
use Rattle.memory.proofs.Boxes.{get_or-rows_of, segment-boxes}
use Rattle.memory.proofs.Once.{agreed-once}
use Rattle.timeouts.specs.Stage.{Steady, Stage}

fine-steady : (y : File) → OnFile Fine y → OnFile Steady y
unfolding OnFile
fine-steady unbuilt h = tt
fine-steady (built b) h = record { queues = h.queues; sides = h.sides }

fine-agree : (y : File) → OnFile Fine y → OnFile Agree y
unfolding OnFile
fine-agree unbuilt h = tt
fine-agree (built b) h = h.queues

bytes-buffers : (y : File) (share buffers : List ℕ) → FileBytes y share buffers → OnFile (λ b. buffers ≡ b.buffers) y
unfolding FileBytes OnFile
bytes-buffers unbuilt share buffers h = tt
bytes-buffers (built b) share buffers h = h.1

pub stage-begin : {xs blocks ys : List ℕ} {d : Desk} {s : Alloc} → StandsFor (memories xs blocks ys) d s → Stage xs ys d s
stage-begin {xs} {blocks} {ys} {d} {s} S = record {
  segment = record {
    rows = rows_of d;
    boxes = segment-boxes d s xs (agreed-once d s S.agreed (λ f h. fine-agree (file_of d f) (S.fine f h))) S.stands.segment;
    same = λ i h _. get_or-rows_of d s i h;
  };
  eight = S.agreed.eight;
  matches = λ f h. matches-now f s _ _ (S.agreed.agrees f h) S.agreed.whole S.agreed.clock;
  steady = λ f h. fine-steady (file_of d f) (S.fine f h);
  buffers = λ f h. bytes-buffers (file_of d f) _ _ (S.stands.bodies.each f h);
  size = S.stands.bodies.buffers-size;
}

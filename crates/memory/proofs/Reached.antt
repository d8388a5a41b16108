-- Every desk that a run reaches is fine, and its allocation agrees with it: memories that show the two stand for them.
use Prim.Native.Nat.{ℕ}
use mathlib.Core.List.{List}
use Rattle.rules.specs.State.{File, unbuilt, built}
use Rattle.rules.specs.Desk.{Call, file_of, fresh_desk, after}
use Rattle.rules.specs.Allocation.{fresh_alloc, alloc_after}
use Rattle.laws.specs.Runs.{OnFile}
use Rattle.laws.specs.Room.{Roomy}
use Rattle.laws.specs.Records.{Records}
use Rattle.laws.specs.Bounds.{Bounds}
use Rattle.laws.specs.Lying.{Lying}
use Rattle.laws.specs.Queues.{Agree}
use Rattle.laws.specs.Timers.{Ticking}
use Rattle.laws.specs.Sides.{Sides}
use Rattle.laws.proofs.Room.{roomy}
use Rattle.laws.proofs.Records.{records}
use Rattle.laws.proofs.Bounds.{bounded}
use Rattle.laws.proofs.Lying.{lying}
use Rattle.laws.proofs.Queues.{agreeing}
use Rattle.laws.proofs.Timers.{ticking}
use Rattle.laws.proofs.Sides.{sides}
use Rattle.laws.proofs.Allocated.{agreed}
use Rattle.memory.specs.Memories.{Memories}
use Rattle.memory.specs.Stands.{Stands}
use Rattle.memory.specs.Fine.{Fine, StandsFor}

all-seven : (x : File) → OnFile Roomy x → OnFile Records x → OnFile Bounds x → OnFile Lying x → OnFile Agree x → OnFile Ticking x → OnFile Sides x → OnFile Fine x
unfolding OnFile
all-seven unbuilt r c b l q t s = tt
all-seven (built y) r c b l q t s = record { room = r; records = c; bounds = b; buffers = l; queues = q; timers = t; sides = s }

pub fine : (f : ℕ) (cs : List Call) → OnFile Fine (file_of (after fresh_desk cs) f)
fine f cs = all-seven _ (roomy f cs) (records f cs) (bounded f cs) (lying f cs) (agreeing f cs) (ticking f cs) (sides f cs)

pub reached : (cs : List Call) (m : Memories) → Stands m (after fresh_desk cs) (alloc_after fresh_desk cs fresh_alloc)
    → StandsFor m (after fresh_desk cs) (alloc_after fresh_desk cs fresh_alloc)
reached cs m s = record { stands = s; fine = λ f h. fine f cs; agreed = agreed cs }

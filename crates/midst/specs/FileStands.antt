-- A built file of a desk that the memories stand for, whatever the buffers are.
use Rattle.std.specs.Prelude.{ℕ, ◌<◌, ◌≡◌, List}
use Rattle.rules.specs.Limits.{files}
use Rattle.rules.specs.State.{Built, built}
use Rattle.rules.specs.Desk.{Desk, file_of}
use Rattle.rules.specs.Allocation.{Alloc}
use Rattle.memory.specs.Memories.{memories}
use Rattle.memory.specs.Fine.{StandsFor}

-- the memories, with some buffers, stand for a desk whose file f is built
pub record FileStands (xs blocks : List ℕ) (f : ℕ) : Type 0 where
  pub file : f < files
  pub buffers : List ℕ
  pub d : Desk
  pub s : Alloc
  pub b : Built
  pub stands : StandsFor (memories xs blocks buffers) d s
  pub is : file_of d f ≡ built b

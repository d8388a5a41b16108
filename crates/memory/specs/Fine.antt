-- What is true of every desk that a run reaches, and is asked of a desk that memories stand for.
use Rattle.std.specs.Prelude.{ℕ, ◌<◌}
use Rattle.rules.specs.Limits.{files}
use Rattle.rules.specs.State.{Built}
use Rattle.rules.specs.Desk.{Desk, file_of}
use Rattle.rules.specs.Allocation.{Alloc}
use Rattle.shares.specs.Groups.{All}
use Rattle.shares.specs.Laid.{GoodRec}
use Rattle.shares.specs.Back.{used_recs}
use Rattle.laws.specs.Runs.{OnFile}
use Rattle.laws.specs.Room.{Roomy}
use Rattle.laws.specs.Bounds.{Bounds}
use Rattle.laws.specs.Lying.{Lying}
use Rattle.laws.specs.Queues.{Agree}
use Rattle.laws.specs.Timers.{Ticking}
use Rattle.laws.specs.Sides.{Sides}
use Rattle.laws.specs.Entries.{Agreed}
use Rattle.memory.specs.Memories.{Memories}
use Rattle.memory.specs.Stands.{Stands}

-- a built file: room, the records of its held blocks, its requests, what lies in their buffers, its queues, its timers, its accessors
pub record Fine (b : Built) : Type 0 where
  pub room : Roomy b
  pub records : All GoodRec (used_recs b.geo b.store)
  pub bounds : Bounds b
  pub buffers : Lying b
  pub queues : Agree b
  pub timers : Ticking b
  pub sides : Sides b

-- the memories stand for a desk that is fine, with an allocation that agrees with it
pub record StandsFor (m : Memories) (d : Desk) (s : Alloc) : Type 0 where
  pub stands : Stands m d s
  pub fine : (f : ℕ) → f < files → OnFile Fine (file_of d f)
  pub agreed : Agreed d s

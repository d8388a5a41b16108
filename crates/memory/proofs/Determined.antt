-- Desk and allocation determine the bytes of all three memories, except for those of files that are not built.
use Prim.Native.Nat.{ℕ}
use mathlib.Core.Path.{◌≡◌, refl, sym, ◌∙◌}
use mathlib.Core.List.{List}
use Rattle.rules.specs.Desk.{Desk, fresh_desk}
use Rattle.rules.specs.Allocation.{Alloc, fresh_alloc}
use Rattle.memory.specs.Memories.{Memories, memories}
use Rattle.memory.specs.Stands.{Stands}
use Rattle.memory.specs.Covers.{Covers, Alike, Blank}
use Rattle.memory.specs.Fresh.{fresh_memories}
use Rattle.memory.proofs.Segments.{segment-same}
use Rattle.memory.proofs.Bodies.{bodies-same}
use Rattle.memory.proofs.Fresh.{fresh-stands, fresh-covers, fresh-blank}

memories-are : (m m' : Memories) → m.segment ≡ m'.segment → m.blocks ≡ m'.blocks → m.buffers ≡ m'.buffers → m ≡ m'
memories-are m m' = go m.segment m.blocks m.buffers
  where
    go : (x b y : List ℕ) → x ≡ m'.segment → b ≡ m'.blocks → y ≡ m'.buffers → memories x b y ≡ m'
    go x b y e f g = rw (e, f, g) refl

pub stands_same : (d : Desk) (s : Alloc) (m m' : Memories) → Covers d s → Stands m d s → Stands m' d s → Alike d m m' → m ≡ m'
stands_same d s m m' C S T h =
    let (e, g) = bodies-same d m m' S.bodies T.bodies h in
    memories-are m m' (segment-same m.segment m'.segment d s S.segment T.segment C) e g

-- a fresh desk's memories are those that `Fresh` says, its shares and buffers being zero
pub stands-fresh : (m : Memories) → Stands m fresh_desk fresh_alloc → Blank fresh_desk m → m ≡ fresh_memories
stands-fresh m S h =
    stands_same fresh_desk fresh_alloc m fresh_memories fresh-covers S fresh-stands
    (λ f k e. ((h f k e).0 ∙ sym (fresh-blank f k e).0, (h f k e).1 ∙ sym (fresh-blank f k e).1))

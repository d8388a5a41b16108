-- The memories of a desk and an allocation are determined to the last byte, and the fresh desk has its own.
use mathlib.Core.Path.{◌≡◌, sym, ◌∙◌}
use mathlib.Core.List.{[]}
use Rattle.rules.specs.Desk.{Desk, fresh_desk, after}
use Rattle.rules.specs.Allocation.{Alloc, fresh_alloc, alloc_after}
use Rattle.rules.specs.Memories as bytes
use Rattle.memory.specs.Memories.{Memories}
use Rattle.memory.proofs.Bodies.{bodies-are}
use Rattle.memory.proofs.Fresh.{fresh-stands, fresh-blank}
use Rattle.memory.proofs.Reached.{reached}
use Rattle.memory.specs.Fresh.{fresh_memories}
use Rattle.promises.proofs.Same.{standing-same}
use Rattle.runs.specs.Run.{Holds}

pub holds_same : (m n : Memories) (d : Desk) (s : Alloc) → Holds m d s → Holds n d s → m ≡ n
holds_same m n d s H K =
    standing-same d s m n H.stands K.stands (λ f h u. ((H.blank f h u).0 ∙ sym (K.blank f h u).0, (H.blank f h u).1 ∙ sym (K.blank f h u).1))

pub holds-bodies : (m : Memories) (d : Desk) (s : Alloc) → Holds m d s → (m.blocks ≡ bytes.blocks d) × (m.buffers ≡ bytes.buffers d)
holds-bodies m d s H = bodies-are d m H.stands.stands.bodies H.blank

pub holds-fresh : Holds fresh_memories fresh_desk fresh_alloc
unfolding after alloc_after
holds-fresh = record { stands = reached [] _ fresh-stands; blank = fresh-blank }

-- What the call that makes a fresh desk answers and leaves, whatever memories it is lent.
use Rattle.std.specs.Prelude.{true, false, ℕ, ◌*◌, eqb, length}
use Rattle.segment.specs.Layout.{segment_bytes}
use Rattle.rules.specs.Limits.{files, places, share_bytes, buffer_bytes}
use Rattle.laws.specs.Bounds.{least_refusal}
use Rattle.memory.specs.Memories.{Memories, memories}
use Rattle.memory.specs.Fresh.{fresh_memories}

pub record Made : Type 0 where
  pub status : ℕ
  pub memories : Memories

-- status 29, and memories that stay
unfoldable pub nothing_made : Memories → Made
nothing_made m = record { status = least_refusal; memories = m }

-- "of 29 it tests lengths alone"
unfoldable pub made : Memories → Made
made m =
    elim (eqb (length m.segment) segment_bytes) [
      | false ↦ nothing_made m
      | true ↦ elim (eqb (length m.blocks) (share_bytes * files)) [
        | false ↦ nothing_made m
        | true ↦ elim (eqb (length m.buffers) (places * buffer_bytes * files)) [
          | false ↦ nothing_made m
          | true ↦ record { status = 0; memories = fresh_memories }
        ]
      ]
    ]

-- The file in hand at the door: what is known of it, and what the door's functions ask.
use Prim.Native.Nat.{ℕ, ◌*◌, ◌≤◌, ◌<◌}
use mathlib.Core.Path.{◌≡◌, ap}
use mathlib.Core.List.{List}
use lib.ListN.{length}
use Rattle.rules.specs.Limits.{files}
use Rattle.rules.specs.State.{Rec, Built}
use Rattle.rules.specs.Memories.{share_at}
use Rattle.shares.proofs.Image.{record_words-most}
use Rattle.ring.specs.Ring.{Ranged}
use Rattle.ring.specs.Held.{Held}
use Rattle.ring.proofs.Held.{held-ranged}
use Rattle.blocks.specs.Memory.{blocks_bytes}
use Rattle.blocks.specs.Writing.{Ready}
use Rattle.blocks.proofs.Held.{held-ready}
use Rattle.memory.specs.Memories.{Memories, memories}
use Rattle.memory.specs.Fine.{Fine}
use Rattle.midst.specs.declared.File as hand
use Rattle.midst.specs.Mid.{Start, Mid}
use Rattle.midst.proofs.Stores.{mid-held}
use Rattle.midst.proofs.Walks.{Owed}
use Rattle.store.specs.Door.{Stored, Keeps}

pub fine-stored : {b : Built} → Fine b → Stored b
fine-stored i = (i.room.geo, i.room.holds)

pub owed-stored : (n : ℕ) (b : Built) → Owed n b → Stored b
owed-stored n b i = (i.0.0.1.geo, i.0.0.1.holds)

module _ {I : Built → Type 0} {f : ℕ} {o : Start} {m : Memories} {x : hand.File} {b : Built} (M : Mid I f o m x b) where
  -- something else is known of the same file
  pub mid-known : {J : Built → Type 0} → J b → Mid J f o m x b
  mid-known j = record {
    file = M.file;
    eight = M.eight;
    good = j;
    allots = M.allots;
    segment = M.segment;
    row = M.row;
    share = M.share;
    buffer = M.buffer;
    blocks-size = M.blocks-size;
    buffers-size = M.buffers-size;
    apart = M.apart;
  }

  module _ (s : Stored b) where
    -- what fetch asks
    pub hand-held : ((length m.blocks ≡ blocks_bytes) × (f < files)) × Held x.words x.ring (share_at f m.blocks)
    hand-held = ((M.blocks-size, M.file), mid-held M s.0 s.1)

    -- what put asks, of a record with this body
    pub hand-ready : (r : Rec) → length r.body ≤ 2 * b.geo.words → ((length m.blocks ≡ blocks_bytes) × (f < files)) × Ready x.words x.ring (share_at f m.blocks) (length r.body)
    hand-ready r h =
        let w : x.words ≡ b.geo.words = ap (λ (y : hand.File). y.words) M.row in
        ((M.blocks-size, M.file), held-ready x.words x.ring (share_at f m.blocks) (mid-held M s.0 s.1) r (record_words-most x.words r (rw w h)))

    -- what purge and fits ask
    pub hand-ranged : Ranged x.ring
    hand-ranged = held-ranged _ _ _ (mid-held M s.0 s.1)

-- through the door: the caller says what is known of the next file
module _ {I J : Built → Type 0} {f : ℕ} {o : Start} {m : Memories} {x : hand.File} {b : Built} (M : Mid I f o m x b) where
  pub through : (next : Built → Built) (blocks' : List ℕ) (y : hand.File) → Keeps f next m.blocks x blocks' y → Stored b → J (next b) → Mid J f o (memories m.segment blocks' m.buffers) y (next b)
  through next blocks' y k s j = mid-known (k o m.segment m.buffers b (mid-known M s)) j

-- What the code asks of numbers and lengths.
use Prim.Native.Nat.{ℕ, ◌+◌, ◌≤◌, ◌<◌}
use mathlib.Core.Path.{◌≡◌, refl, ap}
use mathlib.Core.List.{List}
use native.Mathlib.Omega.{arith}
use lib.ListN.{length, take, length-take}
use Rattle.rules.specs.Limits.{files, places, buffer_bytes, answer_head, answer_room}
use Rattle.rules.specs.Desk.{Desk}
use Rattle.rules.specs.Allocation.{Alloc}
use Rattle.segment.specs.Layout.{segment_bytes}
use Rattle.blocks.specs.Memory.{blocks_bytes}
use Rattle.buffers.specs.Buffer.{buffers_bytes}
use Rattle.memory.specs.Memories.{Memories}
use Rattle.memory.specs.Fine.{StandsFor}
use Rattle.midst.proofs.Changes.{mid-below}
use Rattle.transfers.proofs.Named.{Named, begin-mid}

pub record Fit (m : Memories) (f p : ℕ) : Type 0 where
  pub file : f < files
  pub place : p < places
  pub segment : length m.segment ≡ segment_bytes
  pub blocks-size : length m.blocks ≡ blocks_bytes
  pub buffers-size : length m.buffers ≡ buffers_bytes

-- where an accessor is open
pub fit : {m : Memories} {d : Desk} {s : Alloc} {f p : ℕ} → StandsFor m d s → Named d f p → Fit m f p
fit {p = p} S N = record {
  file = N.file;
  place = mid-below (begin-mid S N refl) p N.a N.at;
  segment = S.stands.segment.size;
  blocks-size = S.stands.bodies.blocks-size;
  buffers-size = S.stands.bodies.buffers-size;
}

-- bytes that fit a buffer have room after the answer's own
pub has_room : {v w : List ℕ} {m : ℕ} → v ≡ w → length w ≤ buffer_bytes → m ≡ answer_room → answer_head + length v ≤ m
has_room e h k = omega (arith, ap length e)

pub few : {v w : List ℕ} → v ≡ w → length w ≤ buffer_bytes → length v ≤ buffer_bytes
few e h = omega (arith, ap length e)

pub cut_short : (n : ℕ) (ys : List ℕ) → n ≤ buffer_bytes → length (take n ys) ≤ buffer_bytes
cut_short n ys h = omega (arith, length-take n ys)

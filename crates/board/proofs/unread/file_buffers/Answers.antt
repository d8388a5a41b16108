use Prim.Native.Nat.{◌*◌, ◌/◌, ◌<◌}
use native.Mathlib.Omega.{arith}
use lib.ListN.{length}
use Rattle.rules.specs.Limits.{places, buffer_bytes}
use Rattle.memory.specs.Stands.{buffers_at}
use Rattle.blocks.proofs.by_file.Laws.{chunk-at}
use Rattle.board.proofs.unread.file_buffers.Goals as goal

pub returns : goal.returns
unfolding buffers_at
returns c =
    let few : c.args.f < length c.args.buffers.now / (places * buffer_bytes) = omega (arith, c.told-buffers) in
    rw c.as_chunks.ensures.front (chunk-at (places * buffer_bytes) _ _ c.args.buffers.now few)

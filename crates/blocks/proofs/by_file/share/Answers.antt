use Prim.Native.Nat.{◌/◌, ◌<◌}
use native.Mathlib.Omega.{arith}
use lib.ListN.{length}
use Rattle.rules.specs.Limits.{share_bytes}
use Rattle.blocks.proofs.by_file.Laws.{chunk-at}
use Rattle.blocks.proofs.by_file.share.Goals as goal

pub returns : goal.returns
returns c =
    let few : c.args.file < length c.args.blocks.now / share_bytes = omega (arith, c.told-blocks) in
    rw c.as_chunks.ensures.front (chunk-at share_bytes _ _ c.args.blocks.now few)

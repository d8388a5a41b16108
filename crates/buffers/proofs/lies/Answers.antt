use Prim.Native.Nat.{◌-◌, ◌*◌, ◌≤◌}
use mathlib.Core.Path.{sym, ◌∙◌}
use native.Mathlib.Omega.{arith}
use lib.Seq.{take-take}
use Rattle.rules.specs.Limits.{buffer_bytes}
use Rattle.buffers.specs.Buffer.{buffers_bytes}
use Rattle.buffers.proofs.lies.Goals as goal

pub returns : goal.returns
returns c =
    let room : c.args.size ≤ buffers_bytes - buffer_bytes * c.args.place = omega arith in
    take-take _ _ _ room ∙ sym (take-take _ buffer_bytes _ c.requires.1)

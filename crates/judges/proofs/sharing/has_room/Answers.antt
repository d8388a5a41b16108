use lib.Dec.{leb}
use Prim.Native.Nat.{◌+◌, ◌*◌}
use mathlib.Core.Path.{ap, ◌∙◌}
use Rattle.judges.proofs.Together as together
use Rattle.judges.proofs.sharing.has_room.Goals as goal

pub returns : goal.returns
returns c =
    λ b S access k.
    ap
    (λ r. leb (c.used_after-used.result + c.args.writers + 2) (r.factor * r.blocks))
    c.read_file-row.ensures
    ∙ together.has_room _ _ b S access _ _ (c.used_after-used.ensures.value b S access k) c.requires.f_lt_files.1

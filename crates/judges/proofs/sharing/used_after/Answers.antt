use Prim.Native.Nat.{◌+◌}
use mathlib.Core.Path.{sym, ◌∙◌, ap}
use Rattle.judges.proofs.Together as together
use Rattle.judges.proofs.sharing.used_after.Goals as goal

pub returns-then-purges-clause-value : goal.returns-then-purges-clause-value
returns-then-purges-clause-value c =
    λ b S access k. sym (together.used-purged _ _ b S access (sym k ∙ c.if-purges.true))

pub returns-clause-value : goal.returns-clause-value
returns-clause-value c =
    λ b S access k.
    ap (λ r. r.spent + r.held) c.read_file-row.ensures
    ∙ together.used-kept _ _ b S access (sym k ∙ c.if-purges.false)

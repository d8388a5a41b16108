use mathlib.Core.Path.{sym, ◌∙◌}
use Rattle.sound.proofs.quick.Nils.{lists-free}
use Rattle.sound.proofs.quick.heads.no_requests.Goals as goal

pub returns : goal.returns
returns c = λ h. lists-free _ (sym c.ones.ensures ∙ h)

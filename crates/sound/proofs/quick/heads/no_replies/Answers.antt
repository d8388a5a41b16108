use mathlib.Core.Path.{sym, ◌∙◌}
use Rattle.segment.specs.Layout.{desk_places}
use Rattle.sound.proofs.quick.Nils.{ports-none}
use Rattle.sound.proofs.quick.heads.no_replies.Goals as goal

pub returns : goal.returns
returns c = λ h seen busy. ports-none _ seen busy desk_places 0 (sym c.ones.ensures ∙ h)

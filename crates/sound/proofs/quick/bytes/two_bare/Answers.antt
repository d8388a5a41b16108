use mathlib.Core.Path.{◌∙◌}
use Rattle.sound.proofs.Bytes.{zero-bytes}
use Rattle.sound.proofs.quick.bytes.two_bare.Goals as goal

pub returns : goal.returns
returns c = c.four.ensures.0 ∙ zero-bytes _ 2 _

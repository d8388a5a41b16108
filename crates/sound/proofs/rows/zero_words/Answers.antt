use mathlib.Core.Path.{◌∙◌}
use Rattle.sound.proofs.Bytes.{zero-bytes}
use Rattle.sound.proofs.rows.zero_words.Goals as goal

pub returns : goal.returns
returns c = c.quiet.ensures ∙ zero-bytes _ _ _

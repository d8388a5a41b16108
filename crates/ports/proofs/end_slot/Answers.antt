use mathlib.Core.Path.{◌∙◌, sym}
use mathlib.Core.Bool.{false}
use borrow.Author.Rules.{rules}
use Rattle.rules.specs.Limits.{entries}
use Rattle.ports.proofs.Steps.{end_slot-seek}
use Rattle.ports.proofs.end_slot.Goals as goal

pub returns : goal.returns
returns c = (c.seek.ensures.found (λ _. false) (λ e b h p. search rules) ∙ sym (end_slot-seek _ _ entries), c.seek.ensures.slot)

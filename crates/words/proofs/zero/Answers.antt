use Rattle.words.proofs.Parts.{part-zero, span}
use borrow.Author.Rules.{rules}
use Rattle.words.proofs.zero.Goals as goal

pub returns : goal.returns
returns c = part-zero _ _ _ _ _ (span _ _) c.requires (c.fill.ensures.after (search rules))

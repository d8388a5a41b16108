use Rattle.fresh.proofs.Words.{link-next, link-last}
use Rattle.fresh.proofs.fresh_link.Goals as goal

pub returns-then-e-lt-ENTRIES : goal.returns-then-e-lt-ENTRIES
returns-then-e-lt-ENTRIES c = link-next _ c.if-e-lt-ENTRIES.true

pub returns : goal.returns
returns c = link-last _ c.if-e-lt-ENTRIES.false

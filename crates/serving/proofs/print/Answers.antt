use Rattle.serving.proofs.Told.{said-silent, said-aloud}
use Rattle.serving.proofs.print.Goals as goal

pub returns-then-not-aloud : goal.returns-then-not-aloud
returns-then-not-aloud g c = said-silent _ _ _ c.if-not-aloud.true

pub returns-in-Ok : goal.returns-in-Ok
returns-in-Ok g c = said-aloud _ _ _ _ c.if-not-aloud.false c.in-Ok.ensures

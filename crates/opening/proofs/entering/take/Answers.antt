use Rattle.opening.proofs.Purges.{taken-plain, taken-purged}
use Rattle.opening.proofs.entering.take.Goals as goal

pub returns-then-not-purges : goal.returns-then-not-purges
returns-then-not-purges c = λ access k. taken-plain _ _ access _ k _ c.take_file-file.ensures c.if-not-purges.true

pub returns : goal.returns
returns c =
    λ access k.
    taken-purged _ _ access _ k _ c.take_file-file.ensures c.if-not-purges.false _ c.purge.ensures.keeps

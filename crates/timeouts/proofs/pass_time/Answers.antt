use Rattle.words.specs.Word.{Bytes}
use Rattle.timeouts.proofs.Begins.{stage-begin}
use Rattle.timeouts.proofs.Ends.{time-stands}
use Rattle.timeouts.proofs.pass_time.Goals as goal

pub run_due-requires : goal.run_due-requires
run_due-requires c =
    (c.requires.0, c.requires.1, stage-begin c.requires.3)

pub returns-clause-stands : goal.returns-clause-stands
unfolding Bytes
returns-clause-stands c =
    λ d s blocks S.
    time-stands S (c.run_due.ensures d s (stage-begin S)) _ c.lessen.ensures
    c.known.ensures c.known-2.ensures

pub returns-clause-others : goal.returns-clause-others
unfolding Bytes
returns-clause-others c =
    λ d s blocks S g h e. (c.run_due.ensures d s (stage-begin S)).apart g h e

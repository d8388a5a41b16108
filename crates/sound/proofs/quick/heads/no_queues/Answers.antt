use mathlib.Core.Path.{sym, ◌∙◌}
use borrow.Author.Tests.{eq-eqb, ne_eqb}
use Rattle.rules.specs.Limits.{files}
use Rattle.segment.specs.Layout.{read_queues, write_queues}
use Rattle.sound.proofs.quick.Nils.{queues-none}
use Rattle.sound.proofs.quick.heads.no_queues.Goals as goal

pub returns-then-side-eq-WRITER : goal.returns-then-side-eq-WRITER
returns-then-side-eq-WRITER c =
    λ h seen busy.
    queues-none _ seen busy c.args.side files 0 write_queues
    (λ g. rw (eq-eqb c.args.side 2 c.if-side-eq-WRITER.true))
    (sym c.ones.ensures ∙ h)

pub returns : goal.returns
returns c =
    λ h seen busy.
    queues-none _ seen busy c.args.side files 0 read_queues
    (λ g. rw (ne_eqb c.args.side 2 c.if-side-eq-WRITER.false))
    (sym c.ones-2.ensures ∙ h)

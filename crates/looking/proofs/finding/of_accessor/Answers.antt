use mathlib.Core.Bool.{false≢true}
use mathlib.Core.Path.{sym, ◌∙◌}
use Rattle.looking.proofs.Readers.{writer-finds, reader-file, waiting-finds}
use Rattle.looking.proofs.finding.of_accessor.Goals as goal

pub returns-then-side-eq-WRITER : goal.returns-then-side-eq-WRITER
returns-then-side-eq-WRITER c = writer-finds c.requires c.if-side-eq-WRITER.true

pub of_file-requires : goal.of_file-requires
of_file-requires c =
    reader-file c.requires c.if-side-eq-WRITER.false

pub of_file-requires-in-Waiting : goal.of_file-requires-in-Waiting
of_file-requires-in-Waiting c =
    reader-file c.requires c.if-side-eq-WRITER.false

pub returns-in-Nothing : goal.returns-in-Nothing
returns-in-Nothing c =
    waiting-finds c.requires c.if-side-eq-WRITER.false
    (λ e. let k = sym c.in-Nothing.is ∙ e in absurd (false≢true cc)) _ c.of_file.ensures

pub returns-in-Waiting : goal.returns-in-Waiting
returns-in-Waiting c =
    waiting-finds c.requires c.if-side-eq-WRITER.false
    (λ e. let k = sym c.in-Waiting.is ∙ e in absurd (false≢true cc)) _ c.of_file-in-Waiting.ensures

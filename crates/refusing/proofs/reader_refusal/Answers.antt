use borrow.Author.Tests.{eq-eqb, ne_eqb}
use Rattle.refusing.specs.Verdicts.{reader_refusal}
use Rattle.refusing.proofs.reader_refusal.Goals as goal

pub returns-then-side-eq-WRITER : goal.returns-then-side-eq-WRITER
unfolding reader_refusal
returns-then-side-eq-WRITER c = rw (eq-eqb _ _ c.if-side-eq-WRITER.true)

pub returns : goal.returns
unfolding reader_refusal
returns c = rw (ne_eqb _ _ c.if-side-eq-WRITER.false) c.switch_refusal.ensures

use Rattle.refusing.proofs.Tests.{held, failed}
use borrow.Author.Tests.{eq-eqb, ne_eqb}
use Rattle.refusing.specs.Verdicts.{read_refusal, while_free}
use Rattle.refusing.proofs.read_refusal.Goals as goal

pub returns-then-not-is_free : goal.returns-then-not-is_free
unfolding read_refusal while_free
returns-then-not-is_free c = rw (failed c.is_free.ensures c.if-not-is_free.true)

pub returns-then-side-eq-WRITER : goal.returns-then-side-eq-WRITER
unfolding read_refusal while_free
returns-then-side-eq-WRITER c = rw (held c.is_free.ensures c.if-not-is_free.false, eq-eqb _ _ c.if-side-eq-WRITER.true)

pub returns-then-not-readable : goal.returns-then-not-readable
unfolding read_refusal while_free
returns-then-not-readable c =
    rw (
      held c.is_free.ensures c.if-not-is_free.false,
      ne_eqb _ _ c.if-side-eq-WRITER.false,
      failed c.readable.ensures c.if-not-readable.true,
    )

pub returns : goal.returns
unfolding read_refusal while_free
returns c =
    rw (
      held c.is_free.ensures c.if-not-is_free.false,
      ne_eqb _ _ c.if-side-eq-WRITER.false,
      held c.readable.ensures c.if-not-readable.false,
    )

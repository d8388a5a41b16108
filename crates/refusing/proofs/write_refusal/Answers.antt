use Rattle.refusing.proofs.Tests.{held, failed}
use borrow.Author.Tests.{eq-eqb, ne_eqb, le-leb, lt-leb}
use Rattle.refusing.specs.Verdicts.{write_refusal, while_free}
use Rattle.refusing.proofs.write_refusal.Goals as goal

pub returns-then-not-is_free : goal.returns-then-not-is_free
unfolding write_refusal while_free
returns-then-not-is_free c = rw (failed c.is_free.ensures c.if-not-is_free.true)

pub returns-then-side-ne-WRITER : goal.returns-then-side-ne-WRITER
unfolding write_refusal while_free
returns-then-side-ne-WRITER c = rw (held c.is_free.ensures c.if-not-is_free.false, ne_eqb _ _ c.if-side-ne-WRITER.true)

pub returns-then-words-count_bytes : goal.returns-then-words-count_bytes
unfolding write_refusal while_free
returns-then-words-count_bytes c =
    rw (
      held c.is_free.ensures c.if-not-is_free.false,
      eq-eqb _ _ c.if-side-ne-WRITER.false,
      ← c.count_bytes.ensures.value,
      lt-leb _ _ c.if-words-count_bytes.true,
    )

pub returns : goal.returns
unfolding write_refusal while_free
returns c =
    rw (
      held c.is_free.ensures c.if-not-is_free.false,
      eq-eqb _ _ c.if-side-ne-WRITER.false,
      ← c.count_bytes.ensures.value,
      le-leb _ _ c.if-words-count_bytes.false,
    )

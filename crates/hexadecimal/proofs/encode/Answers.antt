use mathlib.Core.Path.{sym, ◌∙◌}
use borrow.Author.Rules.{rules}
use Rattle.hexadecimal.proofs.Lines.{encode-step, encode-end}
use Rattle.hexadecimal.proofs.encode.Goals as goal

pub loop-i-preserved : goal.loop-i-preserved
loop-i-preserved c = (
  search rules,
  rw (c.digit.ensures, c.digit-in-loop-i.ensures)
      (sym (encode-step _ c.loop-i.out c.loop-i.i c.loop-i-test.true) ∙ c.loop-i.invariant.1),
)

pub returns-clause-bytes : goal.returns-clause-bytes
returns-clause-bytes c =
    sym (encode-end _ c.loop-i.out c.loop-i.i c.loop-i-test.false) ∙ c.loop-i.invariant.1

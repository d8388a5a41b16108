use mathlib.Core.Path.{◌≡◌, ap, sym, ◌∙◌}
use lib.ListN.{length}
use native.Mathlib.Omega.{arith}
use borrow.Author.Rules.{rules}
use Rattle.faults.specs.Faults.{digits_alone, fault_of}
use Rattle.faults.proofs.Steps.{at-digit, at_long, at-strange, at-end}
use Rattle.faults.proofs.reading.fault_of.Goals as goal

pub loop-i-init : goal.loop-i-init
unfolding fault_of
loop-i-init c = search rules

pub returns-then-not-is_digit : goal.returns-then-not-is_digit
returns-then-not-is_digit c =
    c.strange_byte.ensures ∙ sym (c.loop-i.invariant.1 ∙ at-strange _ _ c.loop-i-test.true (sym c.is_digit.ensures ∙ c.if-not-is_digit.true))

pub returns-then-i-ge-MOST_DIGITS : goal.returns-then-i-ge-MOST_DIGITS
returns-then-i-ge-MOST_DIGITS c =
    sym (c.loop-i.invariant.1 ∙ at_long _ _ c.loop-i-test.true (sym c.is_digit.ensures ∙ c.if-not-is_digit.false) c.if-i-ge-MOST_DIGITS.true)

pub loop-i-preserved : goal.loop-i-preserved
loop-i-preserved c =
    (omega arith, c.loop-i.invariant.1 ∙ at-digit _ _ c.loop-i-test.true (sym c.is_digit.ensures ∙ c.if-not-is_digit.false) c.if-i-ge-MOST_DIGITS.false)

pub returns : goal.returns
returns c =
    let e : length c.args.line.now ≡ c.loop-i.i = omega arith in
    c.of_digits.ensures ∙ ap digits_alone e ∙ sym (c.loop-i.invariant.1 ∙ at-end _ _ c.loop-i-test.false)

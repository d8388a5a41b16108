use mathlib.Core.Path.{sym, ◌∙◌}
use native.Mathlib.Omega.{arith}
use Rattle.shares.specs.Tails.{tails_zero}
use Rattle.board.proofs.Swept.{end-inside}
use Rattle.board.proofs.unread.tails_zero.Goals as goal

pub returns-then-not-blocks_zero : goal.returns-then-not-blocks_zero
unfolding tails_zero
returns-then-not-blocks_zero c =
    rw (sym c.blocks_zero.ensures ∙ c.if-not-blocks_zero.true)

pub overflow_sub-end : goal.overflow_sub-end
overflow_sub-end c =
    rw c.block_span-first.ensures.value (omega (arith, end-inside _ c.requires.sized))

pub quiet-requires : goal.quiet-requires
quiet-requires c =
    rw c.block_span-first.ensures.value (omega (arith, end-inside _ c.requires.sized))

pub returns : goal.returns
unfolding tails_zero
returns c =
    rw (sym c.blocks_zero.ensures ∙ c.if-not-blocks_zero.false) (rw c.block_span-first.ensures.value at c.quiet.ensures)

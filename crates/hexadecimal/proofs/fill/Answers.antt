use Prim.Native.Nat.{◌+◌, ◌*◌}
use mathlib.Core.Path.{sym, ◌∙◌}
use native.Mathlib.Omega.{arith}
use borrow.Author.Rules.{rules}
use Rattle.hexadecimal.proofs.Lines.{digits-at, fill_step, fill_end}
use Rattle.hexadecimal.proofs.fill.Goals as goal

pub pair-requires : goal.pair-requires
pair-requires c =
    let i = c.loop-i.i in (
      digits-at c.args.s.now (2 * i) c.requires.s_value (omega arith),
      digits-at c.args.s.now (2 * i + 1) c.requires.s_value (omega arith),
    )

pub loop-i-preserved : goal.loop-i-preserved
loop-i-preserved c =
    let l = c.loop-i in
    (search rules, rw c.pair.ensures (sym (fill_step c.args.s.now l.out l.i (omega arith)) ∙ l.invariant.1))

pub returns : goal.returns
returns c = sym (fill_end c.args.s.now c.loop-i.out c.loop-i.i (omega arith)) ∙ c.loop-i.invariant.1

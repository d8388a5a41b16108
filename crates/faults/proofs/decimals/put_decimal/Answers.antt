use Prim.Native.Nat.{◌-◌}
use mathlib.Core.Path.{refl}
use native.Mathlib.Omega.{arith}
use borrow.Author.Rules.{rules}
use Rattle.faults.proofs.Powers.{digits-start, digit-put, digits-end}
use Rattle.faults.proofs.decimals.put_decimal.Goals as goal

pub loop-k-init : goal.loop-k-init
loop-k-init c =
    let d = digits-start c.args.n c.after_first-places.result c.after_first-places.ensures c.args.out.now c.args.at in
    (refl, d.0, d.1)

pub loop-k-preserved : goal.loop-k-preserved
loop-k-preserved c =
    let l = c.loop-k in
    let d = digit-put c.args.n c.after_first-places.result c.after_first-places.ensures c.args.out.now l.out c.args.at l.k (l.k - 1) l.rest (omega arith) (omega arith) l.invariant.1 l.invariant.2 in
    (search rules, d.0, d.1)

pub returns : goal.returns
returns c = digits-end c.args.n c.after_first-places.result c.after_first-places.ensures c.loop-k.k c.loop-k-test.false c.loop-k.invariant.2

use Prim.Native.Nat.{◌-◌}
use mathlib.Core.Path.{◌∙◌}
use native.Mathlib.Omega.{arith}
use lib.ListN.{length, drop, length-drop}
use lib.Seq.{take_all}
use Rattle.words.proofs.Parts.{sets_over}
use Rattle.words.proofs.store_ends.Goals as goal

pub returns : goal.returns
returns g c =
    let from = c.args.from.now in
    let last = length from - g.row.N in
    c.store_run-2.ensures
    ∙ rw (c.store_run.ensures, take_all (length from - last) (drop last from) (omega (arith, length-drop last from))) (sets_over c.args.s.now from c.args.at g.row.N last (omega arith) (omega arith) (omega arith))

use Prim.Native.Nat.{ℕ, ◌+◌, ◌-◌, ◌≤◌}
use mathlib.Core.Path.{◌≡◌, ◌∙◌}
use native.Mathlib.Omega.{arith}
use lib.ListN.{length, take, drop, length-drop}
use lib.Seq.{sets, take_all}
use borrow.Author.Rules.{rules}
use Rattle.words.proofs.Parts.{sets_over}
use Rattle.words.proofs.Runs.{sets-run}
use Rattle.words.proofs.copy.Goals as goal
use Rattle.words.proofs.copy.Goals.{else-loop-i-test, then-loop-i-test+else-last-i-gt16}

pub loop-i-preserved : goal.loop-i-preserved
loop-i-preserved c = (
  c.store_run.ensures ∙ rw c.loop-i.invariant.0 (sets-run c.args.s.now c.args.from.now c.args.at c.loop-i.i 16 _ (omega arith) (omega arith)),
  search rules,
  omega arith,
)

pub returns : goal.returns
returns c =
    let s = c.args.s.now in
    let from = c.args.from.now in
    let at = c.args.at in
    let i = c.loop-i.i in
    let last = length from - 16 in
    let met : (k : ℕ) × ((c.loop-i-test.s ≡ sets s at (take k from)) × (last ≤ k) × (k ≤ length from)) =
    elim c.loop-i-test.branch [
      | else-loop-i-test w ↦ (i, (w.s-is ∙ c.loop-i.invariant.0, omega arith, omega arith))
      | then-loop-i-test+else-last-i-gt16 w ↦ (i + 16, (w.s-is ∙ w.store_run.ensures ∙ rw c.loop-i.invariant.0 (sets-run s from at i 16 _ (omega arith) (omega arith)), omega arith, omega arith))
    ] in
    c.store_run-2.ensures
    ∙ rw (met.1.0, take_all (length from - last) (drop last from) (omega (arith, length-drop last from))) (sets_over s from at met.0 last met.1.1 met.1.2 (omega arith))

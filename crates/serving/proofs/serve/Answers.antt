use borrow.Author.Rules.{rules}
use mathlib.Core.Path.{refl}
use lib.ListN.{take}
use Rattle.std.proofs.lemmas.Result.{on_ok_weaker}
use Rattle.serving.specs.Going.{begun, goes}
use Rattle.serving.proofs.Keeps.{kept_on}
use Rattle.serving.proofs.Told.{begun-heard, heard_on, none-read, told-end, told_on}
use Rattle.serving.proofs.Turns.{at-behind, behind_on, ends-behind}
use Rattle.serving.proofs.serve.Goals as goal

pub loop-init : goal.loop-init
loop-init gi c = record { heard = λ d s h. begun-heard _ _ _ d s _ _ _ _ c.new-line.ensures.len h; kept = λ _. refl }

pub returns-in_default-clause-served : goal.returns-in_default-clause-served
returns-in_default-clause-served gi c = λ d s h. at-behind (begun d s) _ _ _ _ _ _ (c.loop.invariant.heard d s h).on

pub returns-then-n-eq0-clause-served : goal.returns-then-n-eq0-clause-served
returns-then-n-eq0-clause-served gi c = λ d s h.
    let k = c.loop.invariant.heard d s h in
    behind_on (begun d s) k.text _ (ends-behind (goes (begun d s) k.text) _ _ _ (c.finish.ensures.printed _ k.on))

pub returns-then-n-eq0-clause-told : goal.returns-then-n-eq0-clause-told
returns-then-n-eq0-clause-told gi c =
    on_ok_weaker c.print.result
    (λ said d s h.
    let k = c.loop.invariant.heard d s h in
    let (read, end) = none-read _ _ _ _ c.if-n-eq0.true (search rules) c.in-Ok.ensures.bytes in
    told_on _ _ _ _ _ _ _ (begun d s) _ _ _ _ _ k
    (told-end _ _ _ _ _ (goes (begun d s) k.text) _ _ _ _ read end (c.finish.ensures.printed _ k.on) c.as_slice.ensures said))
    c.print.ensures

pub returns-in_err-answer_chunk-clause-served : goal.returns-in_err-answer_chunk-clause-served
returns-in_err-answer_chunk-clause-served gi c = λ d s h.
    let k = c.loop.invariant.heard d s h in
    behind_on (begun d s) k.text _ (c.answer_chunk.ensures.stands _ k.on)

pub loop-preserved : goal.loop-preserved
loop-preserved gi c = record {
  heard = λ d s h.
      let k = c.loop.invariant.heard d s h in
      heard_on _ _ _ _ _ _ _ (begun d s) _ _ _ _ _ _ _ _ k
      (record {
        text = take c.in-Ok.n c.read.new.buf;
        read = c.in-Ok.ensures.bytes.0;
        printed = c.in_ok-answer_chunk.ensures.printed _ k.on;
        on = c.in_ok-answer_chunk.ensures.at _ k.on;
      });
  kept = kept_on _ _ _ c.loop.invariant.kept c.answer_chunk.ensures.kept;
}

pub returns-clause-served : goal.returns-clause-served
returns-clause-served gi c = λ d s h. at-behind (begun d s) _ _ _ _ _ _ (c.loop.invariant.heard d s h).on

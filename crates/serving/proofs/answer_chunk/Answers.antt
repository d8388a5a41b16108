use native.Mathlib.Omega.{arith}
use borrow.Author.Rules.{rules}
use mathlib.Core.Path.{refl}
use Rattle.serving.specs.Going.{goes}
use Rattle.serving.proofs.Keeps.{kept_on}
use Rattle.serving.proofs.Parts.{rest-length}
use Rattle.serving.proofs.Steps.{piece-at}
use Rattle.serving.proofs.Told.{said-none, piece-said}
use Rattle.serving.proofs.Turns.{at-behind}
use Rattle.serving.proofs.answer_chunk.Goals as goal

pub loop-at-init : goal.loop-at-init
unfolding goes
loop-at-init gi c = record { in_range = search rules; at = λ g a. a; printed = λ g a. said-none _ _ g; kept = λ _. refl }

pub loop-at-preserved : goal.loop-at-preserved
loop-at-preserved gi c = record {
  in_range = omega (arith, c.feed-at.ensures.bound, rest-length c.args.chunk.now c.loop-at.at, c.loop-at-test.true);
  at = λ g a.
      piece-at g c.args.chunk.now _ _ _ c.loop-at.at c.feed-at.result _ _ (c.feed-at.ensures.at _ (c.loop-at.invariant.at g a));
  printed = λ g a.
      piece-said _ _ _ _ g c.args.chunk.now _ _ _ _ c.loop-at.at c.feed-at.result _ _ (c.feed-at.ensures.at _ (c.loop-at.invariant.at g a)) c.as_slice.ensures
      (c.loop-at.invariant.printed g a) c.in_ok-print.ensures;
  kept = kept_on _ _ _ c.loop-at.invariant.kept c.feed-at.ensures.kept;
}

pub returns-in_err-print-clause-stands : goal.returns-in_err-print-clause-stands
returns-in_err-print-clause-stands gi c = λ g a.
    at-behind g _ _ _ _ _ _ (piece-at g c.args.chunk.now _ _ _ c.loop-at.at c.feed-at.result _ _ (c.feed-at.ensures.at _ (c.loop-at.invariant.at g a)))

pub returns-clause-stands : goal.returns-clause-stands
returns-clause-stands gi c = λ g a. at-behind g _ _ _ _ _ _ (c.loop-at.invariant.at g a)

use mathlib.Core.Path.{refl}
use native.Mathlib.Omega.{arith}
use Rattle.serving.specs.Going.{goes}
use Rattle.serving.proofs.Keeps.{kept_on}
use Rattle.serving.proofs.Steps.{goes_at}
use Rattle.serving.proofs.feeding.feed.Goals as goal

pub loop-i-init : goal.loop-i-init
unfolding goes
loop-i-init c = record { first = λ _. refl; at = λ g a. a; kept = λ _. refl }

pub loop-i-preserved : goal.loop-i-preserved
loop-i-preserved c = record {
  first = λ e. absurd (omega (arith, e));
  at = λ g a. goes_at g _ _ _ _ _ _ _ c.loop-i-test.true (c.feed_byte.ensures.at _ (c.loop-i.invariant.at g a));
  kept = kept_on _ _ _ c.loop-i.invariant.kept c.feed_byte.ensures.kept;
}

use Prim.Native.Nat.{◌+◌, ◌*◌}
use mathlib.Core.Path.{refl, ◌∙◌}
use native.Mathlib.Omega.{arith}
use borrow.Author.Rules.{rules}
use borrow.Author.Tests.{tests}
use Rattle.std.proofs.lemmas.Iterator.{YieldsList-from_range}
use Rattle.std.proofs.lemmas.Iterator.Search.{any_from_yields_List}
use Rattle.rules.specs.Limits.{places}
use Rattle.judges.specs.Sharing.{differs}
use Rattle.judges.proofs.Turns.{others-any}
use Rattle.judges.proofs.sharing.others.Goals as goal

pub returns : goal.returns
returns c =
    any_from_yields_List (λ p. differs c.args.segment.now c.args.share (places * c.args.f + p)) _ _ c.any.result c.any.ensures.ran (YieldsList-from_range 0 places places refl refl) (λ x b q k. search (rules, tests))
    ∙ others-any c.args.segment.now c.args.share (places * c.args.f) 0 (places * c.args.f) places (omega arith)

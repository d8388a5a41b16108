use Prim.Native.Nat.{◌+◌, ◌*◌}
use mathlib.Core.Path.{refl, ◌∙◌}
use native.Mathlib.Omega.{arith}
use borrow.Author.Rules.{rules}
use borrow.Author.Tests.{tests}
use Rattle.std.proofs.lemmas.Iterator.{YieldsList-from_range}
use Rattle.std.proofs.lemmas.Iterator.Search.{any_from_yields_List}
use Rattle.rules.specs.Limits.{places}
use Rattle.segment.specs.Fields.{place_at}
use Rattle.opening.specs.Finding.{row_holds}
use Rattle.opening.proofs.Turns.{held-any}
use Rattle.opening.proofs.finding.id_held.Goals as goal

pub returns : goal.returns
returns c =
    any_from_yields_List (λ p. row_holds c.args.id (place_at c.args.segment.now (places * c.args.f + p))) _ _ c.any.result c.any.ensures.ran (YieldsList-from_range 0 places places refl refl) (λ x b q k. search (rules, tests))
    ∙ held-any c.args.segment.now c.args.id (places * c.args.f) 0 (places * c.args.f) places (omega arith)

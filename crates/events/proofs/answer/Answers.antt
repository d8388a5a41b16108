use borrow.Author.Rules.{rules}
use Rattle.std.proofs.lemmas.Result.{on_ok_weaker}
use Rattle.rules.specs.Desk.{fresh_desk}
use Rattle.rules.specs.Allocation.{fresh_alloc}
use Rattle.events.proofs.Whole.{stands-fresh, program-told}
use Rattle.events.proofs.answer.Goals as goal

pub returns : goal.returns
returns g c =
    on_ok_weaker c.serve.result
    (λ told. program-told _ _ _ _ _ (told fresh_desk fresh_alloc (stands-fresh _ _ _ (search rules) (search rules) (search rules) c.fresh.ensures)))
    c.serve.ensures.told

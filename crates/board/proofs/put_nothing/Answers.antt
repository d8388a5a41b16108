use Rattle.texts.specs.Spell.{spell}
use Rattle.board.proofs.Turns.{ends-none, ends_some}
use Rattle.board.proofs.put_nothing.Goals as goal

pub returns-then-at-eq0 : goal.returns-then-at-eq0
unfolding spell
returns-then-at-eq0 c =
    ends-none _ _ _ _ c.if-at-eq0.true c.put_text.ensures

pub returns : goal.returns
returns c = ends_some _ _ c.if-at-eq0.false

use native.Mathlib.Omega.{arith}
use borrow.Author.Tests.{eq-eqb, ne_eqb}
use Rattle.texts.specs.Spell.{spell}
use Rattle.texts.proofs.Runs.{put-within}
use Rattle.notices.specs.Lines.{nobody_line}
use Rattle.board.specs.Found.{accessors_at}
use Rattle.board.proofs.put_accessors.Goals as goal

pub returns-then-count_side-eq-ALL_PLACES : goal.returns-then-count_side-eq-ALL_PLACES
unfolding accessors_at nobody_line spell
returns-then-count_side-eq-ALL_PLACES c =
    rw (← c.count_side.ensures.0, eq-eqb _ _ c.if-count_side-eq-ALL_PLACES.true) (put-within _ (omega arith) c.put_text.ensures)

pub returns : goal.returns
unfolding accessors_at
returns c =
    rw (← c.count_side.ensures.0, ne_eqb _ _ c.if-count_side-eq-ALL_PLACES.false) c.put_places.ensures

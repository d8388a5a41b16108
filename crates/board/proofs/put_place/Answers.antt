use Rattle.texts.proofs.Runs.{◌then◌, put-none}
use Rattle.board.specs.Found.{row_text}
use borrow.Author.Tests.{eq-eqb, ne_eqb}
use Rattle.board.proofs.put_place.Goals as goal

pub returns-then-side-eq-CLOSED : goal.returns-then-side-eq-CLOSED
unfolding row_text
returns-then-side-eq-CLOSED c =
    rw (← c.read_place-row.ensures, eq-eqb _ _ c.if-side-eq-CLOSED.true) (put-none _)

pub returns : goal.returns
unfolding row_text
returns c =
    rw (← c.read_place-row.ensures, ne_eqb _ _ c.if-side-eq-CLOSED.false, ← c.request_at-request.ensures) (c.put_accessor-a.ensures then c.put_request.ensures)

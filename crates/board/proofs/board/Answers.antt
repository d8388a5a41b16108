use Rattle.decision.proofs.desk.Both.{sound-stands}
use Rattle.board.proofs.Boards.{board-unsound, board-short, board-shown, board-low}
use Rattle.words.specs.Word.{Bytes}
use mathlib.Core.Path.{sym}
use Rattle.board.proofs.board.Goals as goal

pub returns-in_default-clause-board : goal.returns-in_default-clause-board
returns-in_default-clause-board c = board-unsound _ _ (sym c.in_default.ensures.sound)

pub returns-then-out-lt-BOARD_ROOM-clause-board : goal.returns-then-out-lt-BOARD_ROOM-clause-board
returns-then-out-lt-BOARD_ROOM-clause-board c = board-short _ _ (sym c.in-Some.ensures.sound) c.if-out-lt-BOARD_ROOM.true

pub put_board-requires : goal.put_board-requires
unfolding Bytes
put_board-requires c =
    rw (c.in-Some.ensures.same.0, c.in-Some.ensures.same.1, c.in-Some.ensures.same.2) (
      sound-stands _ (λ i. (c.type_inv.segment i).fits) (λ i. (c.type_inv.blocks i).fits) (λ i. (c.type_inv.buffers i).fits)
          (sym c.in-Some.ensures.sound),
      c.if-out-lt-BOARD_ROOM.false,
    )

pub returns-clause-board : goal.returns-clause-board
returns-clause-board c =
    board-shown _ _ (sym c.in-Some.ensures.sound) c.if-out-lt-BOARD_ROOM.false _ _
    (rw (c.in-Some.ensures.same.0, c.in-Some.ensures.same.1, c.in-Some.ensures.same.2) at c.put_board.ensures)

pub returns-clause-fits : goal.returns-clause-fits
unfolding Bytes
returns-clause-fits c =
    let t = sym c.in-Some.ensures.sound in
    let s = sound-stands _ (λ i. (c.type_inv.segment i).fits) (λ i. (c.type_inv.blocks i).fits) (λ i. (c.type_inv.buffers i).fits) t in
    board-low _ _ t c.if-out-lt-BOARD_ROOM.false _ _
    (rw (c.in-Some.ensures.same.0, c.in-Some.ensures.same.1, c.in-Some.ensures.same.2) at c.put_board.ensures) s

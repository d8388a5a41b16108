use Rattle.board.proofs.Boards.{line-fits, whole-put}
use Rattle.board.proofs.put_board.Goals as goal

pub put_swept-requires : goal.put_swept-requires
put_swept-requires c =
    (c.requires.0, line-fits _ _ _ _ _ c.put_files-n.ensures c.put_nothing-end.ensures _ _ c.requires.0.2 c.requires.1)

pub returns : goal.returns
returns c =
    λ d s S. whole-put _ _ _ _ _ c.put_files-n.ensures c.put_nothing-end.ensures d s S (c.put_swept.ensures d s S)

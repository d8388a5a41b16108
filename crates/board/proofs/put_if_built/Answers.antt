use mathlib.Core.Path.{refl}
use Rattle.board.proofs.Boards.{stood-file, unbuilt-put, built-put}
use Rattle.board.proofs.put_if_built.Goals as goal

pub returns-in_default-clause-text : goal.returns-in_default-clause-text
returns-in_default-clause-text c =
    λ buffers d s S. unbuilt-put _ _ c.requires.1 c.in_default.ensures.value refl S _ _

pub put_file-requires : goal.put_file-requires
put_file-requires c =
    (stood-file _ _ c.requires.1 c.in-Some.ensures.value c.in-Some.ensures.built c.requires.0, c.requires.2)

pub returns-clause-bound : goal.returns-clause-bound
returns-clause-bound c =
    let text = built-put _ _ c.requires.1 c.in-Some.ensures.value c.in-Some.ensures.built _ _ _ _ c.put_file.ensures in
    (text _ _ _ c.requires.0.1.2).low

pub returns-clause-text : goal.returns-clause-text
returns-clause-text c = built-put _ _ c.requires.1 c.in-Some.ensures.value c.in-Some.ensures.built _ _ _ _ c.put_file.ensures

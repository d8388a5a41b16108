use borrow.Author.Tests.{ne_eqb}
use Rattle.accessors.proofs.Names.{is-built}
use Rattle.board.specs.Swept.{parts_zero, file_zero}
use Rattle.board.proofs.Swept.{built-fitted}
use Rattle.board.proofs.unread.file_zero.Goals as goal

pub returns-in_default : goal.returns-in_default
unfolding file_zero parts_zero
returns-in_default c =
    rw (← c.share-own_share.ensures, ← c.file_buffers-own_buffers.ensures, ← c.in_default.ensures.value) c.blank_zero.ensures

pub built_zero-requires : goal.built_zero-requires
built_zero-requires c =
    let S = c.requires.0.2 in
    let k = is-built S _ _ c.in-Some.ensures.value c.in-Some.ensures.built in (
      c.requires.1,
      built-fitted S _ c.requires.1 k.0 k.1,
    )

pub returns : goal.returns
unfolding file_zero parts_zero
returns c =
    rw (← c.share-own_share.ensures, ← c.file_buffers-own_buffers.ensures, ← c.in-Some.ensures.value, ne_eqb _ _ c.in-Some.ensures.built) c.built_zero.ensures

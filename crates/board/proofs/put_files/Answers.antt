use native.Mathlib.Omega.{arith}
use Rattle.board.proofs.Turns.{filed-none, filed-on, filed-all}
use Rattle.board.proofs.put_files.Goals as goal

pub loop-f-init : goal.loop-f-init
loop-f-init c = λ buffers d s S. filed-none _ _

pub put_if_built-end-requires : goal.put_if_built-end-requires
put_if_built-end-requires c =
    let i = c.loop-f.invariant _ _ _ c.requires.0.1.2 in
    (c.requires.0, c.loop-f-test.true, omega (arith, i.low, i.long, c.requires.1, c.loop-f-test.true))

pub loop-f-preserved : goal.loop-f-preserved
loop-f-preserved c =
    λ buffers d s S. filed-on _ _ _ _ _ _ _ (c.loop-f.invariant buffers d s S) (c.put_if_built-end.ensures.text buffers d s S)

pub returns : goal.returns
returns c = λ buffers d s S. filed-all _ _ _ _ _ (omega arith) c.loop-f-test.false (c.loop-f.invariant buffers d s S)

use Rattle.words.specs.Word.{Bytes}
use mathlib.Core.Path.{sym, ◌∙◌}
use Rattle.controls.proofs.Aborts.{taken-sized, abort-waits, abort-completed}
use native.Mathlib.Omega.{arith}
use Rattle.controls.proofs.abort.Goals as goal

pub overflow_mul-f : goal.overflow_mul-f
overflow_mul-f c = record { fits = omega (arith, (taken-sized _ _ _ _ _ c.requires.1).file) }

pub overflow_add-f : goal.overflow_add-f
overflow_add-f c =
    let sized = taken-sized _ _ _ _ _ c.requires.1 in
    record { fits = omega (arith, sized.file, sized.place) }

pub place_side-side-requires : goal.place_side-side-requires
place_side-side-requires c =
    let sized = taken-sized _ _ _ _ _ c.requires.1 in
    omega (arith, sized.file, sized.place)

pub remove-requires : goal.remove-requires
remove-requires c =
    let z = taken-sized _ _ _ _ _ c.requires.1 in
    (z.file, z.place)

pub returns-then-remove : goal.returns-then-remove
unfolding Bytes
returns-then-remove c =
    λ v blocks d s S r.
    abort-waits S _ _ v r _ c.place_side-side.ensures _ _ c.remove.ensures.segment c.remove.ensures.buffers (sym c.remove.ensures.waits ∙ c.if-remove.true)
    c.known.ensures c.known-then-remove.ensures

pub returns : goal.returns
returns c =
    λ v blocks d s S r.
    abort-completed S _ _ v r _ c.place_side-side.ensures _ _ c.remove.ensures.segment c.remove.ensures.buffers (sym c.remove.ensures.waits ∙ c.if-remove.false)

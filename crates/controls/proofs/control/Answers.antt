use Rattle.words.specs.Word.{Bytes}
use Rattle.controls.proofs.Settings.{set-done}
use Rattle.controls.proofs.Aborts.{taken-sized}
use native.Mathlib.Omega.{arith}
use Rattle.controls.proofs.control.Goals as goal

pub overflow_mul-f : goal.overflow_mul-f
overflow_mul-f c =
    record { fits = omega (arith, (taken-sized _ _ _ _ _ c.requires).file) }

pub overflow_add-f : goal.overflow_add-f
overflow_add-f c =
    let sized = taken-sized _ _ _ _ _ c.requires in
    record { fits = omega (arith, sized.file, sized.place) }

pub set-requires : goal.set-requires
set-requires c =
    let sized = taken-sized _ _ _ _ _ c.requires in
    omega (arith, sized.file, sized.place)

pub returns : goal.returns
unfolding Bytes
returns c =
    λ blocks d s S r.
    set-done S _ _ S.stands.bodies.buffers-bytes _ c.in_default.not-Abort r _ c.set.ensures
    c.known.ensures

use Rattle.words.specs.Word.{Bytes}
use Rattle.decision.proofs.desk.Both.{sound-stands}
use Rattle.saving.proofs.Saves.{save-unsound, save-unbuilt, save-stands, save-built, saves}
use mathlib.Core.Path.{refl, sym}
use Rattle.saving.proofs.save.Goals as goal

pub returns-in_default-clause-saved : goal.returns-in_default-clause-saved
returns-in_default-clause-saved c = saves _ _ _ _ (save-unsound _ _ (sym c.in_default.ensures.sound))

pub returns-in_default-words_of-clause-saved : goal.returns-in_default-words_of-clause-saved
returns-in_default-words_of-clause-saved c =
    saves _ _ _ _
    (save-unbuilt _ _ (sym c.in-Some.ensures.sound) _
    (rw c.in-Some.ensures.same.0 at c.in_default-words_of.ensures.value) refl)

pub save_file-requires : goal.save_file-requires
unfolding Bytes
save_file-requires c =
    let (d, s, S) = sound-stands _ (λ i. (c.type_inv.segment i).fits)
    (λ i. (c.type_inv.blocks i).fits) (λ i. (c.type_inv.buffers i).fits)
    (sym c.in-Some.ensures.sound) in
    rw (c.in-Some.ensures.same.0, c.in-Some.ensures.same.1)
    (save-stands _ _ (rw c.in-Some.ensures.same.0 at c.in-Some-words_of.ensures.value) c.in-Some-words_of.ensures.built S)

pub returns-clause-saved : goal.returns-clause-saved
returns-clause-saved c =
    saves _ _ _ _
    (save-built _ c.args.output.now (sym c.in-Some.ensures.sound) _
    (rw c.in-Some.ensures.same.0 at c.in-Some-words_of.ensures.value) c.in-Some-words_of.ensures.built _ _ _
    (rw (c.in-Some.ensures.same.0, c.in-Some.ensures.same.1) at c.save_file.ensures.saved))

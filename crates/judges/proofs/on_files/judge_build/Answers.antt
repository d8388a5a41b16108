use mathlib.Core.Path.{refl}
use Rattle.judges.proofs.Files.{high-refused, build-built, build-said}
use Rattle.judges.proofs.on_files.judge_build.Goals as goal

pub returns-then-file-ge-FILES : goal.returns-then-file-ge-FILES
returns-then-file-ge-FILES c = high-refused _ _ _ c.if-file-ge-FILES.true

pub returns-in-Some : goal.returns-in-Some
returns-in-Some c = build-built _ _ _ c.in-Some.ensures.value c.in-Some.ensures.built _ _ _ _

pub returns : goal.returns
returns c =
    build-said _ _ c.in_default.ensures.value c.if-file-ge-FILES.false
    refl _ _ _ _ c.build_refusal.ensures

use mathlib.Core.Path.{refl}
use Rattle.accessors.proofs.Names.{words-low}
use Rattle.judges.proofs.Files.{open-unbuilt, open-built}
use Rattle.judges.proofs.on_files.judge_open.Goals as goal

pub returns-in_default-clause-refuses : goal.returns-in_default-clause-refuses
returns-in_default-clause-refuses c =
    open-unbuilt _ _ _ c.in_default.ensures.value _ _ _ refl

pub open_refusal-requires : goal.open_refusal-requires
open_refusal-requires c =
    words-low _ _ _ c.in-Some.ensures.value c.in-Some.ensures.built

pub returns-clause-refuses : goal.returns-clause-refuses
returns-clause-refuses c =
    open-built _ _ _ c.in-Some.ensures.value c.in-Some.ensures.built _ _ _ _ c.open_refusal.ensures.refusal_value

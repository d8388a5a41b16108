use mathlib.Core.Path.{refl}
use Rattle.judges.proofs.Files.{counts-unbuilt, counts-built}
use Rattle.judges.proofs.on_files.judge_counts.Goals as goal

pub returns-in_default : goal.returns-in_default
returns-in_default c = counts-unbuilt _ _ _ c.in_default.ensures.value refl

pub returns : goal.returns
returns c = counts-built _ _ _ c.in-Some.ensures.value c.in-Some.ensures.built

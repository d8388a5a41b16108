use Rattle.std.proofs.Common.{arith, sym, ◌∙◌}
use Rattle.loading.proofs.Judged.{judges-unsound, judges-high, judges-built, judges-text, judges-done}
use Rattle.loading.proofs.judge_load.Goals as goal

pub returns-in_default : goal.returns-in_default
returns-in_default c = judges-unsound _ _ _ (sym c.in_default.ensures.sound)

pub returns-then-file-ge-FILES : goal.returns-then-file-ge-FILES
returns-then-file-ge-FILES c = judges-high _ _ _ (sym c.in-Some.ensures.sound) c.if-file-ge-FILES.true

pub returns-then-is_some : goal.returns-then-is_some
returns-then-is_some c =
    judges-built _ _ _ (sym c.in-Some.ensures.sound) (omega (arith, c.if-file-ge-FILES.false)) _ (rw c.in-Some.ensures.same.0 at c.words_of.ensures.value)
    c.words_of.ensures.built
    (sym c.is_some.ensures ∙ c.if-is_some.true)

pub returns-then-not-is_sheet : goal.returns-then-not-is_sheet
returns-then-not-is_sheet c =
    judges-text _ _ _ (sym c.in-Some.ensures.sound) (omega (arith, c.if-file-ge-FILES.false)) _ (rw c.in-Some.ensures.same.0 at c.words_of.ensures.value)
    c.words_of.ensures.built
    (sym c.is_some.ensures ∙ c.if-is_some.false) _ c.is_sheet.ensures c.if-not-is_sheet.true

pub returns : goal.returns
returns c =
    judges-done _ _ _ (sym c.in-Some.ensures.sound) (omega (arith, c.if-file-ge-FILES.false)) _ (rw c.in-Some.ensures.same.0 at c.words_of.ensures.value)
    c.words_of.ensures.built
    (sym c.is_some.ensures ∙ c.if-is_some.false) _ c.is_sheet.ensures c.if-not-is_sheet.false

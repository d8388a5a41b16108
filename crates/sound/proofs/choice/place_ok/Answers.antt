use mathlib.Core.Path.{◌∙◌}
use mathlib.Core.Logic.{⊎_elim}
use native.Mathlib.Omega.{arith}
use Rattle.segment.specs.Layout.{place_row_at}
use Rattle.sound.specs.Rows.{place_word}
use Rattle.sound.proofs.Steps.{held}
use Rattle.sound.proofs.quick.Settings.{good_side, closed-row, open_row, switches-off, switches-first, a-reader}
use Rattle.sound.proofs.choice.place_ok.Goals as goal
use mathlib.Core.Path.{ap}
use mathlib.Core.Bool.{not}

pub returns-then-eight-eq0 : goal.returns-then-eight-eq0
returns-then-eight-eq0 c =
    closed-row _ _ _ c.eight-then-eight-eq0.result (held c.zero_words.ensures (ap not c.if-not-zero_words.false)) c.eight.ensures.0 c.if-eight-eq0.true c.eight-then-eight-eq0.ensures.0

pub returns-then-four-eq-A_READER : goal.returns-then-four-eq-A_READER
unfolding place_word
returns-then-four-eq-A_READER c =
    let r = a-reader c.args.s.now (place_row_at c.args.i) _ (c.four.ensures.2 1 (omega arith) c.if-four-eq-A_READER.true) (omega arith) in
    (open_row _ _ _ (held c.zero_words.ensures (ap not c.if-not-zero_words.false)) c.eight.ensures.0 c.if-eight-eq0.false
    (⊎_elim (λ w. switches-first _ _ _ (omega arith) (c.eight-settings.ensures.3 1 w.1)) (λ w. switches-off _ _ _ c.eight-settings.result (omega arith) c.eight-settings.ensures.0 w) c.else-settings-ne0.either)) 1 0 r.0 r.1

pub returns : goal.returns
returns c =
    c.good_side.ensures ∙ (open_row _ _ _ (held c.zero_words.ensures (ap not c.if-not-zero_words.false)) c.eight.ensures.0 c.if-eight-eq0.false
    (⊎_elim (λ w. switches-first _ _ _ (omega arith) (c.eight-settings.ensures.3 1 w.1)) (λ w. switches-off _ _ _ c.eight-settings.result (omega arith) c.eight-settings.ensures.0 w) c.else-settings-ne0.either)) _ _ c.place_word-side.ensures c.place_word-id.ensures

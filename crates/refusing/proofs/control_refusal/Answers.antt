use mathlib.Core.Path.{ap, ◌∙◌}
use Rattle.refusing.specs.Verdicts.{control_refusal, while_free}
use Rattle.refusing.proofs.control_refusal.Goals as goal

pub returns-in-Timeout : goal.returns-in-Timeout
unfolding control_refusal
returns-in-Timeout c = rw c.in-Timeout.is c.while_free.ensures

pub returns-in-Verify : goal.returns-in-Verify
unfolding control_refusal
returns-in-Verify c = rw c.in-Verify.is c.while_free-in-Verify.ensures

pub returns-in-Abort : goal.returns-in-Abort
unfolding control_refusal
returns-in-Abort c = rw c.in-Abort.is c.nothing_refusal.ensures

pub returns-in-Extended : goal.returns-in-Extended
unfolding control_refusal
returns-in-Extended c =
    rw c.in-Extended.is
    (c.while_free-in-Extended.ensures ∙ ap (while_free _) c.switch_refusal.ensures)

pub returns-in-Typed : goal.returns-in-Typed
unfolding control_refusal
returns-in-Typed c =
    rw c.in-Typed.is
    (c.while_free-in-Typed.ensures ∙ ap (while_free _) c.reader_refusal.ensures)

pub returns-in-Keep : goal.returns-in-Keep
unfolding control_refusal
returns-in-Keep c =
    rw c.in-Keep.is
    (c.while_free-in-Keep.ensures ∙ ap (while_free _) c.reader_refusal-in-Keep.ensures)

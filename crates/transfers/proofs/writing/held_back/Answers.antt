use mathlib.Core.Path.{sym, ◌∙◌}
use Rattle.transfers.proofs.Tests.{admits-not, admits-any, admits-so}
use Rattle.settling.proofs.Beside.{count_most}
use Rattle.transfers.proofs.writing.held_back.Goals as goal

pub returns-then-get-lt-ENTRIES : goal.returns-then-get-lt-ENTRIES
returns-then-get-lt-ENTRIES c =
    (sym (admits-not _ c.args.f _ c.get.ensures c.if-get-lt-ENTRIES.true), c.count_side.ensures.0)

pub returns-then-fits : goal.returns-then-fits
returns-then-fits c =
    sym (admits-any _ c.args.f _ c.get.ensures _ c.if-get-lt-ENTRIES.false c.fits.ensures c.if-fits.true (count_most _ _ _))

pub returns-then-fits-2 : goal.returns-then-fits-2
returns-then-fits-2 c =
    sym (admits-so _ c.args.f _ c.get.ensures c.if-get-lt-ENTRIES.false c.fits-2.ensures c.count_side-writers.ensures.0) ∙ c.if-fits-2.true

pub returns : goal.returns
returns c =
    (sym (admits-so _ c.args.f _ c.get.ensures c.if-get-lt-ENTRIES.false c.fits-2.ensures c.count_side-writers.ensures.0) ∙ c.if-fits-2.false, c.count_side-writers.ensures.0)

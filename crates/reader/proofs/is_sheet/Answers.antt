use Rattle.std.proofs.Common.{◌≡◌, false, rules}
use Rattle.std.specs.Option.{MatchOption}
use Rattle.reader.specs.Sheets.{good_from}
use Rattle.reader.proofs.Sheets.{sheet-is}
use Rattle.reader.proofs.is_sheet.Goals as goal

pub returns : goal.returns
returns c =
    let good : MatchOption c.read_head.result (c.is_some_and.result ≡ false) (λ h. c.is_some_and.result ≡ good_from h.words c.args.text.now h.at h.held) = search rules in
    sheet-is _ c.read_head.result _ c.read_head.ensures.value good

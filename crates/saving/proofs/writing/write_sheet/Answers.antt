use Rattle.saving.proofs.writing.Records.{first-room, rest-room, sheet-written}
use Rattle.saving.proofs.writing.write_sheet.Goals as goal

pub line-used-requires : goal.line-used-requires
line-used-requires c =
    first-room _ _ _ c.requires.held _ c.head_frame-head.ensures c.args.output.now
    c.requires.share_in_bounds

pub write_records-requires-clause-share_in_bounds : goal.write_records-requires-clause-share_in_bounds
write_records-requires-clause-share_in_bounds c =
    rest-room _ _ _ c.requires.held _ c.head_frame-head.ensures _ c.requires.share_in_bounds _ _
    c.line-used.ensures.end c.line-used.ensures.printed

pub returns : goal.returns
returns c =
    sheet-written _ _ _ c.requires.held _ c.head_frame-head.ensures _ c.requires.share_in_bounds _ _ c.line-used.ensures.end
    c.line-used.ensures.printed _ c.write_records.ensures

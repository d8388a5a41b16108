use Rattle.midst.proofs.FileStands.{held-file}
use Rattle.saving.proofs.Saves.{short-as, sheet-as}
use Rattle.saving.proofs.save_file.Goals as goal

pub sheet_length-length-requires : goal.sheet_length-length-requires
sheet_length-length-requires c =
    held-file c.requires.stands _ c.requires.file c.requires.b c.requires.is _ _
    c.take_file-taken.ensures c.share-share.ensures

pub returns-then-output-length-clause-saved : goal.returns-then-output-length-clause-saved
returns-then-output-length-clause-saved c =
    λ buffers d s b S e.
    (short-as S _ c.requires.file b e _ _ c.take_file-taken.ensures c.share-share.ensures _
    c.sheet_length-length.ensures _ c.if-output-length.true)

pub write_sheet-requires-clause-held : goal.write_sheet-requires-clause-held
write_sheet-requires-clause-held c =
    held-file c.requires.stands _ c.requires.file c.requires.b c.requires.is _ _
    c.take_file-taken.ensures c.share-share.ensures

pub returns-clause-saved : goal.returns-clause-saved
returns-clause-saved c =
    λ buffers d s b S e.
    sheet-as S _ c.requires.file b e _ _ c.take_file-taken.ensures c.share-share.ensures _ c.sheet_length-length.ensures _
    c.if-output-length.false _ c.write_sheet.ensures

use Rattle.midst.proofs.FileStands.{held-file}
use Rattle.file_counts.proofs.Counted.{counts-file}
use Rattle.file_counts.proofs.counts.Goals as goal

pub data_records-records-requires : goal.data_records-records-requires
data_records-records-requires c =
    held-file c.requires.stands _ c.requires.file c.requires.b c.requires.is _ _ c.take_file-file.ensures
    c.share-share.ensures

pub returns : goal.returns
returns c =
    λ buffers d s b S e.
    counts-file S _ c.requires.file b e _ _ _ _ _ c.take_file-file.ensures
    c.share-share.ensures c.data_records-records.ensures
    c.count_side-writers.ensures.0 c.count_side-readers.ensures.0

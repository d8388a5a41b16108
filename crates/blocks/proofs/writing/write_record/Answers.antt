use Rattle.blocks.proofs.writing.Laws.{record-written}
use Rattle.blocks.proofs.writing.write_record.Goals as goal

pub returns : goal.returns
returns c =
    record-written _ _ _ _ _ _ _ _ _ c.put.ensures c.put-2.ensures c.put-3.ensures c.copy.ensures
    c.pad_record.ensures

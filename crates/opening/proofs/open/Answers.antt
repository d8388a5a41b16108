use Rattle.opening.proofs.Judged.{asks-reader, each-writer, reader-brings, writer-brings}
use Rattle.opening.proofs.open.Goals as goal

pub open_reader-requires : goal.open_reader-requires
open_reader-requires c =
    asks-reader _ _ _ _ c.requires.sound

pub returns-then-access-eq-READS : goal.returns-then-access-eq-READS
returns-then-access-eq-READS c =
    reader-brings _ _ _ _ c.requires.sound _ c.sharing_of-given.ensures _ _ c.if-access-eq-READS.true c.open_reader.ensures

pub open_writer-requires : goal.open_writer-requires
open_writer-requires c =
    (c.requires.sound.0, (_, (c.requires.purges_value, each-writer _ _ _ _ c.if-access-eq-READS.false c.requires.sound.1)))

pub returns : goal.returns
returns c =
    writer-brings _ _ _ _ c.requires.sound _ c.sharing_of-given.ensures _ _ c.if-access-eq-READS.false
    (c.open_writer.ensures _ (c.requires.purges_value, each-writer _ _ _ _ c.if-access-eq-READS.false c.requires.sound.1))

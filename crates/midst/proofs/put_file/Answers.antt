use Rattle.segment.specs.Fields.{file_words}
use Rattle.midst.specs.File.{file_row_words}
use Rattle.midst.proofs.put_file.Goals as goal

pub returns : goal.returns
unfolding file_row_words file_words
returns c = rw c.write_file.ensures

use Rattle.sound.specs.Rows.{geo_at}
use Rattle.sound.proofs.Geometries.{fitted}
use Rattle.sound.proofs.files.held_ok.Goals as goal

pub sound-requires : goal.sound-requires
unfolding geo_at
sound-requires c =
    fitted _ _ (rw (c.file_word-words.ensures, c.file_word.ensures, c.file_word-2.ensures) c.requires.1)

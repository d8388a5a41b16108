use Rattle.words.specs.Word.{Bytes}
use Rattle.words.proofs.bytes.known.Goals as goal

pub returns : goal.returns
unfolding Bytes
returns c = λ i. (c.type_inv.s i).fits

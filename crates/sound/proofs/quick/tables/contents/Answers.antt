use Rattle.sound.proofs.quick.Strides.{eighteen}
use Prim.Native.Nat.{◌/◌}
use Rattle.sound.proofs.quick.tables.contents.Goals as goal

pub returns : goal.returns
returns c = eighteen _ _ (c.eight.result / 65536) c.eight-2.result c.four.result c.eight.ensures.4 c.eight-2.ensures.0 c.four.ensures.0

-- "Build and load zero the share, and a block is zeroed again when its first record is put": a file's share is zero after the last record of each of its
-- blocks, and after its last block.
use Rattle.std.specs.Prelude.{◌≡◌, true}
use Rattle.rules.specs.State.{Built}
use Rattle.shares.specs.Tails.{tails_zero}

abbrev pub TailsZero : Built → Type 0
TailsZero b = tails_zero b.geo b.store.share ≡ true

-- Examples of the test whether a share is zero after its records: each is computed. R 2, B 2, two blocks of 24 bytes; an open record stands in bytes 4 to 9.
use Prim.Native.Nat.{ℕ}
use mathlib.Core.Bool.{Bool, true, false}
use mathlib.Core.Path.{◌≡◌, refl}
use mathlib.Core.List.{List, []}
use lib.ListN.{set}
use Rattle.words.specs.Word.{zeros, quiet}
use Rattle.rules.specs.State.{Geo}
use Rattle.rules.specs.Geometry.{block_size}
use Rattle.rules.specs.Store.{used, pad, record_bytes, record_words, block_bytes, zeroed, added, tail, readied, inscribed, empty_store, put}
use Rattle.shares.specs.Tails.{tail_zero, blocks_zero, tails_zero}

abbrev small : Geo
small = record { words = 2; factor = 2; blocks = 2 }

-- the share with 1 in its byte i
unfoldable damaged : ℕ → List ℕ
damaged i = set (put small (record { typ = 1; wid = 1; body = [] }) empty_store).share i 1

unfoldable blocks_ok : ℕ → Bool
blocks_ok i = blocks_zero small (damaged i) 0 2

-- damage in the record is not looked at; after it, and in the block that no record was put into, it is found, up to the last byte
in_blocks : (blocks_ok 9 ≡ true) × (blocks_ok 10 ≡ false) × (blocks_ok 23 ≡ false) × (blocks_ok 24 ≡ false) × (blocks_ok 47 ≡ false)
unfolding blocks_ok damaged blocks_zero tail_zero quiet zeros empty_store put inscribed readied added tail used zeroed block_bytes block_size record_bytes record_words pad
in_blocks = (refl, refl, refl, refl, refl)

-- damage after the last block is found
after-blocks : tails_zero small (damaged 48) ≡ false
unfolding damaged tails_zero blocks_zero tail_zero quiet zeros empty_store put inscribed readied added tail used zeroed block_bytes block_size record_bytes record_words pad
after-blocks = refl

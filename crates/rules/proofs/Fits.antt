-- What calls are judged by fits the memories. And a sheet can say all that the memories hold: it is judged by no less.
use Prim.Native.Nat.{◌≤◌}
use native.Mathlib.Omega.{arith}
use Rattle.rules.specs.Limits.{most_words, most_share, most_read_bytes, room_words, share_words, buffer_bytes}

pub words-fit : most_words ≤ room_words
words-fit = omega arith

pub share-fits : most_share ≤ share_words
share-fits = omega arith

pub read_fits : most_read_bytes ≤ buffer_bytes
read_fits = omega arith

pub words-said : room_words ≤ most_words
words-said = omega arith

pub share-said : share_words ≤ most_share
share-said = omega arith

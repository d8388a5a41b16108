-- The digits that are put say the number.
use Prim.Native.Nat.{ℕ, ◌+◌, ◌*◌, ◌/◌, ◌%◌, ◌<◌}
use mathlib.Core.Path.{◌≡◌}
use mathlib.Core.List.{[], ◌∷◌}
use native.Mathlib.Omega.{arith}
use native.Mathlib.Decide.{dec_lt}
use borrow.Author.Tests.{lt-ltb, le-ltb}
use Rattle.texts.specs.Numbers.{five_digits, leading, decimal, said}

-- with the tens, hundreds and so on of a number, and its digits
module _ (n t h k m a b c d : ℕ) (et : n ≡ 10 * t + a) (eh : t ≡ 10 * h + b) (ek : h ≡ 10 * k + c) (em : k ≡ 10 * m + d) where
  two-say : h ≡ 0 → said 0 ((48 + b) ∷ (48 + a) ∷ []) ≡ n
  unfolding said
  two-say e = omega arith

  three-say : k ≡ 0 → said 0 ((48 + c) ∷ (48 + b) ∷ (48 + a) ∷ []) ≡ n
  unfolding said
  three-say e = omega arith

  four-say : m ≡ 0 → said 0 ((48 + d) ∷ (48 + c) ∷ (48 + b) ∷ (48 + a) ∷ []) ≡ n
  unfolding said
  four-say e = omega arith

  five-say : said 0 ((48 + m) ∷ (48 + d) ∷ (48 + c) ∷ (48 + b) ∷ (48 + a) ∷ []) ≡ n
  unfolding said
  five-say = omega arith

pub decimal-says : (n : ℕ) → n < 100000 → said 0 (decimal n) ≡ n
unfolding decimal leading five_digits said
decimal-says n h = go (dec_lt n 10) (dec_lt n 100) (dec_lt n 1000) (dec_lt n 10000)
  where
    tens : n ≡ 10 * (n / 10) + n % 10
    tens = omega arith

    hundreds : n / 10 ≡ 10 * (n / 100) + n / 10 % 10
    hundreds = omega arith

    thousands : n / 100 ≡ 10 * (n / 1000) + n / 100 % 10
    thousands = omega arith

    last : n / 1000 ≡ 10 * (n / 10000) + n / 1000 % 10
    last = omega arith

    most : n / 10000 % 10 ≡ n / 10000
    most = omega arith

    go : Dec (n < 10) → Dec (n < 100) → Dec (n < 1000) → Dec (n < 10000) → said 0 (decimal n) ≡ n
    go (yes a) b c d = rw (lt-ltb n 10 a) (omega arith)
    go (no a) (yes b) c d = rw (le-ltb n 10 (omega arith), lt-ltb n 100 b) (two-say n _ _ _ _ _ _ _ _ tens hundreds thousands last (omega arith))
    go (no a) (no b) (yes c) d =
        rw (le-ltb n 10 (omega arith), le-ltb n 100 (omega arith), lt-ltb n 1000 c) (three-say n _ _ _ _ _ _ _ _ tens hundreds thousands last (omega arith))
    go (no a) (no b) (no c) (yes d) =
        rw (le-ltb n 10 (omega arith), le-ltb n 100 (omega arith), le-ltb n 1000 (omega arith), lt-ltb n 10000 d)
        (four-say n _ _ _ _ _ _ _ _ tens hundreds thousands last (omega arith))
    go (no a) (no b) (no c) (no d) =
        rw (le-ltb n 10 (omega arith), le-ltb n 100 (omega arith), le-ltb n 1000 (omega arith), le-ltb n 10000 (omega arith), most)
        (five-say n _ _ _ _ _ _ _ _ tens hundreds thousands last)

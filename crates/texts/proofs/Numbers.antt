-- A number's digits, as they are put; how long a number and a counted noun are.
use Prim.Native.Nat.{ℕ, ◌+◌, ◌-◌, ◌/◌, ◌%◌, ◌≤◌}
use mathlib.Core.Path.{◌≡◌, ◌∙◌}
use mathlib.Core.List.{List, [], ◌∷◌}
use native.Mathlib.Omega.{arith}
use lib.ListN.{length, take, drop, length-drop}
use lib.Seq.{take_all}
use Rattle.texts.specs.Numbers.{most_digits, five_digits, leading, decimal}
use Rattle.texts.specs.Put.{Put}
use Rattle.texts.proofs.Runs.{put_as}

pub decimal-short : (n : ℕ) → length (decimal n) ≤ most_digits
unfolding decimal five_digits
decimal-short n = omega (arith, length-drop (leading n) (five_digits n))

-- the digits a to e after the leading zeros
module _ (n a b c d e z : ℕ) (ea : a ≡ 48 + n / 10000 % 10) (eb : b ≡ 48 + n / 1000 % 10) (ec : c ≡ 48 + n / 100 % 10) (ed : d ≡ 48 + n / 10 % 10) (ee : e ≡ 48 + n % 10)
    (ez : z ≡ leading n) where
  digits_are : take (most_digits - z) (drop z (a ∷ b ∷ c ∷ d ∷ e ∷ [])) ≡ decimal n
  unfolding decimal five_digits
  digits_are =
      take_all (5 - z) (drop z (a ∷ b ∷ c ∷ d ∷ e ∷ [])) (omega (arith, length-drop z (a ∷ b ∷ c ∷ d ∷ e ∷ [])))
      ∙ rw (ez, ea, eb, ec, ed, ee)

  pub number_put : {before out : List ℕ} {at end m : ℕ} → Put m before at (take (most_digits - z) (drop z (a ∷ b ∷ c ∷ d ∷ e ∷ []))) out end → Put most_digits before at (decimal n) out end
  number_put {before} {out} {at} {end} {m} p =
      let q : Put m before at (decimal n) out end = put_as digits_are p in
      record { bytes = q.bytes; size = q.size; low = omega (arith, q.size, decimal-short n); long = q.long }

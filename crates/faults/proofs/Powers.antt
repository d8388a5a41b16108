-- A number's digits are put from the last to the first, and they say the number.
use Prim.Native.Nat.{ℕ, zero, suc, ◌+◌, ◌-◌, ◌*◌, ◌/◌, ◌%◌, ◌^◌, ◌<◌, ◌≤◌}
use mathlib.Core.Path.{◌≡◌, refl, sym, ap, ◌∙◌}
use mathlib.Core.List.{List, [], ◌∷◌, ◌++◌}
use native.Mathlib.Omega.{arith}
use native.Mathlib.Numerals.{add-one}
use native.Mathlib.Nat.{add-zero, add-suc}
use lib.ListN.{length, get_or, set, take, drop, length-append, drop_of_length-le}
use lib.Seq.{sets, take_all, take-suc, drop-cons}
use borrow.Author.Tests.{lt-ltb, le-ltb}
use Rattle.std.specs.Option.{IfNone, IfSome}
use Rattle.std.specs.Prelude.{Option, Some, None, unwrap_or}
use Rattle.std.proofs.Math.Nat.{pow-succ'}
use Rattle.std.proofs.lemmas.List.{same_from_push, set_comm}
use Rattle.hexadecimal.proofs.Digits.{below}
use Rattle.texts.specs.Numbers.{said}
use Rattle.texts.specs.Put.{Put}
use Rattle.texts.proofs.Runs.{put_all, put-within}
use Rattle.faults.specs.Decimals.{most_places, tens, decimal_in, decimal}

-- powers of ten

pub tens-some : (k : ℕ) → 0 < tens k
unfolding tens
tens-some zero = omega arith
tens-some (suc k) = omega (arith, tens-some k)

pub tens-power : (k : ℕ) → 10 ^ k ≡ tens k
unfolding tens
tens-power zero = refl
tens-power (suc k) = rw (pow-succ', tens-power k)

-- k digits follow the first one of n

abbrev pub Follow : ℕ → ℕ → Type 0
Follow n k = (k < most_places) × (0 < k → tens k ≤ n) × (n < 10 * tens k)

pub logarithm : (n : ℕ) (o : Option ℕ) → IfNone o (n ≡ 0) → IfSome o (λ k. 10 ^ k ≤ n) → IfSome o (λ k. n < 10 * 10 ^ k) → IfSome o (λ k. k < 20) → Follow n (unwrap_or o 0)
unfolding tens
logarithm n None e l h b = (omega arith, λ p. absurd (omega arith), omega arith)
logarithm n (Some k) e l h b = (b, λ p. rw tens-power at l, rw tens-power at h)

-- the last k digits of a number
unfoldable pub last_digits : ℕ → ℕ → List ℕ
last_digits zero n = []
last_digits (suc k) n = last_digits k (n / 10) ++ ((48 + n % 10) ∷ [])

pub length_last : (k n : ℕ) → length (last_digits k n) ≡ k
unfolding last_digits
length_last zero n = refl
length_last (suc k) n = omega (arith, length-append (last_digits k (n / 10)) ((48 + n % 10) ∷ []), length_last k (n / 10))

-- if no zero stands first, they are the number's digits
all_digits : (k m n : ℕ) → k ≤ m → (0 < k → tens k ≤ n) → n < 10 * tens k → last_digits (suc k) n ≡ decimal_in (suc m) n
unfolding last_digits decimal_in tens
all_digits zero m n e h l = let x : n % 10 ≡ n = omega arith in rw (lt-ltb n 10 (omega arith), x)
all_digits (suc k) zero n e h l = absurd (omega arith)
all_digits (suc k) (suc m) n e h l =
    let some = tens-some k in
    let low : 10 * tens k ≤ n = h (omega arith) in
    rw (le-ltb n 10 (omega arith))
    (ap (λ (x : List ℕ). x ++ ((48 + n % 10) ∷ [])) (all_digits k m (n / 10) (omega arith) (λ _. omega arith) (omega arith)))

-- a store right before a run

set-before : (vs xs : List ℕ) (i j v : ℕ) → j < i → set (sets xs i vs) j v ≡ sets (set xs j v) i vs
set-before [] xs i j v h = refl
set-before (w ∷ vs) xs i j v h =
    set-before vs (set xs i w) (suc i) j v (omega arith) ∙ ap (λ (l : List ℕ). sets l (suc i) vs) (set_comm xs i j w v (λ e. omega arith))

-- a number with k digits after the first: its digits before any is put, as one more is, and all

module _ (n k : ℕ) (f : Follow n k) where
  digits_are : decimal n ≡ last_digits (k + 1) n
  unfolding decimal
  digits_are = rw (add-one k, all_digits k 19 n (omega (arith, f.0)) f.1 f.2)

  length_digits : length (decimal n) ≡ k + 1
  length_digits = rw (digits_are, length_last)

  pub digits-start : (out : List ℕ) (at : ℕ) → (take (k + 1) (decimal n) ≡ last_digits (k + 1) n) × (out ≡ sets out (at + (k + 1)) (drop (k + 1) (decimal n)))
  digits-start out at =
      let e : drop (k + 1) (decimal n) ≡ [] = drop_of_length-le (decimal n) (omega (arith, length_digits)) in
      (take_all (k + 1) (decimal n) (omega (arith, length_digits)) ∙ digits_are, rw e)

  pub digit-put : (before out : List ℕ) (at i j r : ℕ) → i ≡ j + 1 → i ≤ k + 1 → take i (decimal n) ≡ last_digits i r → out ≡ sets before (at + i) (drop i (decimal n))
      → (take j (decimal n) ≡ last_digits j (r / 10)) × (set out (at + j) (48 + r % 10) ≡ sets before (at + j) (drop j (decimal n)))
  unfolding last_digits
  digit-put before out at i j r e l t o =
      let ds : List ℕ = decimal n in
      let more : i ≡ suc j = omega arith in
      let inside : j < length ds = omega (arith, length_digits) in
      let last = same_from_push (take j ds) (last_digits j (r / 10)) (get_or ds j 0) (48 + r % 10) (sym (take-suc ds j 0 inside) ∙ (rw more at t)) in
      let behind : out ≡ sets before (suc (at + j)) (drop (suc j) ds) = rw (more, add-suc) at o in
      (last.0, rw (drop-cons ds j 0 inside, last.1, behind) (set-before (drop (suc j) ds) before (suc (at + j)) (at + j) (48 + r % 10) (omega arith)))

  pub digits-end : {before out : List ℕ} {at : ℕ} (i : ℕ) → i ≤ 0 → out ≡ sets before (at + i) (drop i (decimal n)) → Put most_places before at (decimal n) out (at + (k + 1))
  digits-end {before} {out} {at} i h o =
      let zero : i ≡ 0 = omega arith in
      put-within most_places (omega (arith, length_digits, f.0)) (put_all (rw (zero, add-zero) at o) (omega (arith, length_digits)))

-- the digits say the number, and none is a zero before it

pub said_more : (t : List ℕ) (m d : ℕ) → said m (t ++ ((48 + d) ∷ [])) ≡ 10 * said m t + d
unfolding said
said_more [] m d = omega arith
said_more (x ∷ t) m d = said_more t (10 * m + (x - 48)) d

pub decimal-in-says : (k n : ℕ) → n < tens k → said 0 (decimal_in k n) ≡ n
unfolding tens decimal_in said
decimal-in-says zero n h = omega arith
decimal-in-says (suc k) n h =
    below n 10
    (λ y. rw (lt-ltb n 10 y) (omega arith))
    (λ y. rw (le-ltb n 10 y) (omega (arith, said_more (decimal_in k (n / 10)) 0 (n % 10), decimal-in-says k (n / 10) (omega arith))))

pub decimal-says : (n : ℕ) → n < tens most_places → said 0 (decimal n) ≡ n
unfolding decimal
decimal-says n h = decimal-in-says most_places n h

-- the first digit of a number from 1 up is not zero; a number has a digit

pub first-append : (t : List ℕ) (d : ℕ) → 48 < get_or t 0 0 → 48 < get_or (t ++ (d ∷ [])) 0 0
first-append [] d h = absurd (omega arith)
first-append (x ∷ t) d h = h

pub decimal-in-first : (k n : ℕ) → 0 < n → n < tens k → 48 < get_or (decimal_in k n) 0 0
unfolding tens decimal_in
decimal-in-first zero n h l = absurd (omega arith)
decimal-in-first (suc k) n h l =
    below n 10
    (λ y. rw (lt-ltb n 10 y) (omega arith))
    (λ y. rw (le-ltb n 10 y) (first-append (decimal_in k (n / 10)) (48 + n % 10) (decimal-in-first k (n / 10) (omega arith) (omega arith))))

pub decimal-first : (n : ℕ) → 0 < n → n < tens most_places → 48 < get_or (decimal n) 0 0
unfolding decimal
decimal-first n h l = decimal-in-first most_places n h l

-- Marks by counting: 1 for what waits, 2 more for what is completed, 2 more for a timer.
use Prim.Native.Nat.{ℕ, zero, suc, ◌+◌, ◌*◌, ◌≤◌, ◌<◌}
use mathlib.Core.Bool.{Bool, true, false}
use mathlib.Core.Path.{◌≡◌, refl, ap, ◌∙◌}
use mathlib.Core.List.{List}
use mathlib.Core.Logic.{inl, inr}
use native.Mathlib.Omega.{arith}
use native.Mathlib.Decide.{ℕ_discrete, dec_lt}
use borrow.Author.Tests.{eqb-true, eq-eqb, lt-ltb, le-ltb}
use lib.Dec.{ltb, eqb}
use lib.ListN.{length, get_or}
use Rattle.rules.proofs.Split.{pick_true, pass-true}
use Rattle.occurrences.specs.Count.{bit, count}
use Rattle.sound.specs.Walks.{all_met}
use Rattle.occurrences.proofs.Pigeons.{Below}
use Rattle.decision.proofs.lists.Flat.{below-count}
use Rattle.decision.proofs.lists.Marks.{marks, Met, Changed, touched, untouched, blank, length-blank, blank-at}

-- the marks t are q, and ys are met: by the number q of those before
module _ (t ys : List ℕ) (b : Below (length t) ys) (q : ℕ → ℕ) where
  pub waiting-marks : ((i : ℕ) → (get_or t i 0 ≡ q i) × (q i ≤ 1)) → Met 0 1 t ys
      → (i : ℕ) → (get_or (marks 1 t ys) i 0 ≡ q i + count i ys) × (q i + count i ys ≤ 1)
  waiting-marks h m i = go (touched 0 1 (λ e. omega arith) t ys b m i)
    where
      go : Changed 0 1 (count i ys) (get_or t i 0) (get_or (marks 1 t ys) i 0) → (get_or (marks 1 t ys) i 0 ≡ q i + count i ys) × (q i + count i ys ≤ 1)
      go (inl a) = (omega (arith, a, h i), omega (arith, a, h i))
      go (inr a) = (omega (arith, a, h i), omega (arith, a, h i))

  pub marks-waiting : ((i : ℕ) → get_or t i 0 ≡ q i) → ((i : ℕ) → q i + count i ys ≤ 1) → Met 0 1 t ys
  marks-waiting h o = untouched 0 1 t ys b (λ i c. (omega (arith, o i), omega (arith, h i, o i)))

  pub completed-marks : ((i : ℕ) → (get_or t i 0 ≡ q i) × (q i ≤ 1)) → Met 0 2 t ys
      → (i : ℕ) → (get_or (marks 2 t ys) i 0 ≡ q i + 2 * count i ys) × (q i + count i ys ≤ 1)
  completed-marks h m i = go (touched 0 2 (λ e. omega arith) t ys b m i)
    where
      go : Changed 0 2 (count i ys) (get_or t i 0) (get_or (marks 2 t ys) i 0) → (get_or (marks 2 t ys) i 0 ≡ q i + 2 * count i ys) × (q i + count i ys ≤ 1)
      go (inl a) = (omega (arith, a, h i), omega (arith, a, h i))
      go (inr a) = (omega (arith, a, h i), omega (arith, a, h i))

  pub marks-completed : ((i : ℕ) → get_or t i 0 ≡ q i) → ((i : ℕ) → q i + count i ys ≤ 1) → Met 0 2 t ys
  marks-completed h o = untouched 0 2 t ys b (λ i c. (omega (arith, o i), omega (arith, h i, o i)))

  -- timers are met only where something waits; c counts the completed requests
  pub timer-marks : (c : ℕ → ℕ) → ((i : ℕ) → (get_or t i 0 ≡ q i + 2 * c i) × (q i + c i ≤ 1)) → Met 1 3 t ys → (i : ℕ) → count i ys ≤ q i
  timer-marks c h m i = go (touched 1 3 (λ e. omega arith) t ys b m i)
    where
      go : Changed 1 3 (count i ys) (get_or t i 0) (get_or (marks 3 t ys) i 0) → count i ys ≤ q i
      go (inl a) = omega (arith, a, h i)
      go (inr a) = omega (arith, a, h i)

  pub marks-timer : (c : ℕ → ℕ) → ((i : ℕ) → (get_or t i 0 ≡ q i + 2 * c i) × (q i + c i ≤ 1)) → ((i : ℕ) → count i ys ≤ q i) → Met 1 3 t ys
  marks-timer c h o = untouched 1 3 t ys b (λ i k. (omega (arith, h i, o i), omega (arith, h i, o i)))

-- every entry was met
pub met_all : (seen : List ℕ) (n : ℕ) → all_met seen n ≡ true → (x : ℕ) → x < n → get_or seen x 0 ≡ 1
unfolding all_met
met_all seen zero h x l = absurd (omega arith)
met_all seen (suc n) h x l = go (ℕ_discrete x n) (met_all seen n r.1 x)
  where
    r : (eqb (get_or seen n 0) 1 ≡ true) × (all_met seen n ≡ true)
    r = pass-true (eqb (get_or seen n 0) 1) (all_met seen n) h

    go : Dec (x ≡ n) → (x < n → get_or seen x 0 ≡ 1) → get_or seen x 0 ≡ 1
    go (yes e) f = rw e (eqb-true (get_or seen n 0) 1 r.0)
    go (no d) f = f (omega arith)

pub all-met : (seen : List ℕ) (n : ℕ) → ((x : ℕ) → x < n → get_or seen x 0 ≡ 1) → all_met seen n ≡ true
unfolding all_met
all-met seen zero h = refl
all-met seen (suc n) h =
    pick_true (eqb (get_or seen n 0) 1) (all_met seen n) _ (eq-eqb (get_or seen n 0) 1 (h n (omega arith))) ∙ all-met seen n (λ x l. h x (omega arith))

-- n things, each met once
module _ (n : ℕ) (xs : List ℕ) (b : Below n xs) where
  met-count : Met 0 1 (blank n) xs → (x : ℕ) → (get_or (marks 1 (blank n) xs) x 0 ≡ count x xs) × (count x xs ≤ 1)
  met-count m x =
      let r = waiting-marks (blank n) xs (rw (length-blank n) b) (λ i. 0) (λ i. (blank-at n i, omega arith)) m x in
      (omega (arith, r), omega (arith, r))

  pub met-once : Met 0 1 (blank n) xs → all_met (marks 1 (blank n) xs) n ≡ true → (x : ℕ) → count x xs ≡ bit (ltb x n)
  met-once m h x = go (dec_lt x n)
    where
      go : Dec (x < n) → count x xs ≡ bit (ltb x n)
      go (yes l) = rw (lt-ltb x n l) (omega (arith, met-count m x, met_all (marks 1 (blank n) xs) n h x l))
      go (no d) = rw (le-ltb x n (omega arith)) (below-count n x xs b (omega arith))

  pub once-met : ((x : ℕ) → count x xs ≡ bit (ltb x n)) → Met 0 1 (blank n) xs × (all_met (marks 1 (blank n) xs) n ≡ true)
  once-met h = (m, all-met (marks 1 (blank n) xs) n (λ x l. omega (arith, met-count m x, h x, ap bit (lt-ltb x n l))))
    where
      most : (t : Bool) → bit t ≤ 1
      most true = omega arith
      most false = omega arith

      m : Met 0 1 (blank n) xs
      m = marks-waiting (blank n) xs (rw (length-blank n) b) (λ i. 0) (blank-at n) (λ i. omega (arith, h i, most (ltb i n)))

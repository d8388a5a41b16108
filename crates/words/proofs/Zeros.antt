-- Laws of `quiet`: the steps of its loop, and the zeros that it finds.
use Prim.Native.Nat.{ℕ, zero, suc, ◌+◌, ◌-◌, ◌≤◌, ◌<◌}
use mathlib.Core.Bool.{Bool, true, false, true≢false}
use mathlib.Core.Path.{◌≡◌, refl, sym, ◌∙◌}
use mathlib.Core.List.{List, ◌∷◌}
use native.Mathlib.Omega.{arith}
use native.Mathlib.Numerals.{add-one}
use lib.Dec.{eqb}
use lib.ListN.{length, get_or, take, drop}
use lib.Seq.{drop-cons}
use borrow.Author.Tests.{eq-eqb, ne_eqb, eqb-true, eqb-false}
use Rattle.std.specs.List.{list_all}
use Rattle.words.specs.Word.{zeros, quiet}
use Rattle.words.proofs.Stands.{BytesAt}

quiet-on : (xs : List ℕ) (p n : ℕ) → get_or xs p 0 ≡ 0 → quiet xs p (suc n) ≡ quiet xs (suc p) n
unfolding quiet
quiet-on xs p n h = rw (eq-eqb (get_or xs p 0) 0 h, quiet)

pub quiet_step : (xs : List ℕ) (p n : ℕ) → 0 < n → get_or xs p 0 ≡ 0 → quiet xs p n ≡ quiet xs (p + 1) (n - 1)
quiet_step xs p zero o h = absurd (omega arith)
quiet_step xs p (suc n) o h = let z : suc n - 1 ≡ n = omega arith in rw (z, add-one p) (quiet-on xs p n h)

pub quiet-bad : (xs : List ℕ) (p n : ℕ) → 0 < n → (get_or xs p 0 ≡ 0 → ⊥) → quiet xs p n ≡ false
unfolding quiet
quiet-bad xs p zero o h = absurd (omega arith)
quiet-bad xs p (suc n) o h = rw (ne_eqb (get_or xs p 0) 0 h, quiet)

pub quiet-end : (xs : List ℕ) (p n : ℕ) → n ≤ 0 → quiet xs p n ≡ true
unfolding quiet
quiet-end xs p zero h = refl
quiet-end xs p (suc n) h = absurd (omega arith)

-- the n bytes at p as a list
quiet-list : (xs : List ℕ) (n p : ℕ) → p + n ≤ length xs → list_all (λ b. eqb b 0) (take n (drop p xs)) ≡ quiet xs p n
quiet-list xs zero p h = sym (quiet-end xs p 0 (omega arith))
quiet-list xs (suc n) p h = rw (drop-cons xs p 0 (omega arith)) (go (eqb (get_or xs p 0) 0) refl (quiet-list xs n (suc p) (omega arith)))
  where
    go : (t : Bool) → eqb (get_or xs p 0) 0 ≡ t → list_all (λ b. eqb b 0) (take n (drop (suc p) xs)) ≡ quiet xs (suc p) n
        → list_all (λ b. eqb b 0) (take (suc n) (get_or xs p 0 ∷ drop (suc p) xs)) ≡ quiet xs p (suc n)
    go true e k = rw (e, quiet-on xs p n (eqb-true (get_or xs p 0) 0 e)) k
    go false e k = rw (e, quiet-bad xs p (suc n) (omega arith) (eqb-false (get_or xs p 0) 0 e))

pub quiet-part : (xs : List ℕ) (m n p : ℕ) → m ≡ n → p + n ≤ length xs → list_all (λ b. eqb b 0) (take m (drop p xs)) ≡ quiet xs p n
quiet-part xs m n p e h = rw e (quiet-list xs n p h)

pub quiet-stands : (xs : List ℕ) (n p : ℕ) → quiet xs p n ≡ true → BytesAt xs p (zeros n)
unfolding BytesAt zeros
quiet-stands xs zero p h = tt
quiet-stands xs (suc n) p h = go (eqb (get_or xs p 0) 0) refl (quiet-stands xs n (suc p))
  where
    go : (t : Bool) → eqb (get_or xs p 0) 0 ≡ t → (quiet xs (suc p) n ≡ true → BytesAt xs (suc p) (zeros n)) → BytesAt xs p (zeros (suc n))
    go true e k = let z : get_or xs p 0 ≡ 0 = eqb-true (get_or xs p 0) 0 e in (z, k (sym (quiet-on xs p n z) ∙ h))
    go false e k = absurd (true≢false (sym h ∙ quiet-bad xs p (suc n) (omega arith) (eqb-false (get_or xs p 0) 0 e)))

pub quiet-true : (xs : List ℕ) (n p : ℕ) → BytesAt xs p (zeros n) → quiet xs p n ≡ true
unfolding BytesAt quiet zeros
quiet-true xs zero p h = refl
quiet-true xs (suc n) p h = quiet-on xs p n h.0 ∙ quiet-true xs n (suc p) h.1

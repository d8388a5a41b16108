-- Marks on numbered things: each element of a list is met with the mark `need` and left with the mark v. By counting: it stands there once.
use Prim.Native.Nat.{ℕ, ◌≤◌, ◌<◌}
use mathlib.Core.Path.{◌≡◌, refl, sym, ◌∙◌}
use mathlib.Core.List.{List, [], ◌∷◌, ◌++◌}
use mathlib.Core.Logic.{◌⊎◌, inl, inr}
use native.Mathlib.Omega.{arith}
use native.Mathlib.Decide.{ℕ_discrete, dec_lt}
use lib.ListN.{length, get_or, set, replicate, length-set, length-replicate, get_or-replicate, get_or-eq_default}
use lib.Seq.{get_or-set_same, get_or-set_other}
use Rattle.occurrences.specs.Count.{count}
use Rattle.occurrences.proofs.Counts.{bit-eq, bit-ne}
use Rattle.occurrences.proofs.Pigeons.{Below}

-- the marks t with v at each of xs
unfoldable pub marks : ℕ → List ℕ → List ℕ → List ℕ
marks v t [] = t
marks v t (x ∷ xs) = marks v (set t x v) xs

-- each of xs has the mark `need` when it is met
unfoldable pub Met : ℕ → ℕ → List ℕ → List ℕ → Type 0
Met need v t [] = Unit {0}
Met need v t (x ∷ xs) = (get_or t x 0 ≡ need) × Met need v (set t x v) xs

-- a mark of something that is met n times: not met, and the same; or met once, and changed
abbrev pub Changed : ℕ → ℕ → ℕ → ℕ → ℕ → Type 0
Changed need v n old new = ((n ≡ 0) × (new ≡ old)) ⊎ ((n ≡ 1) × (old ≡ need) × (new ≡ v))

module _ (need v : ℕ) where
  pub length-marks : (t xs : List ℕ) → length (marks v t xs) ≡ length t
  unfolding marks
  length-marks t [] = refl
  length-marks t (x ∷ xs) = length-marks (set t x v) xs ∙ length-set t x v

  pub marks-append : (t xs ys : List ℕ) → marks v t (xs ++ ys) ≡ marks v (marks v t xs) ys
  unfolding marks
  marks-append t [] ys = refl
  marks-append t (x ∷ xs) ys = marks-append (set t x v) xs ys

  pub met-append : (t xs ys : List ℕ) → Met need v t xs → Met need v (marks v t xs) ys → Met need v t (xs ++ ys)
  unfolding Met marks
  met-append t [] ys a b = b
  met-append t (x ∷ xs) ys a b = (a.0, met-append (set t x v) xs ys a.1 b)

  pub append-met : (t xs ys : List ℕ) → Met need v t (xs ++ ys) → Met need v t xs × Met need v (marks v t xs) ys
  unfolding Met marks
  append-met t [] ys a = (tt, a)
  append-met t (x ∷ xs) ys a = let r = append-met (set t x v) xs ys a.1 in ((a.0, r.0), r.1)

  -- what became of the mark of x: x is not among xs; or it is, once, and its mark was changed
  abbrev pub Touched : ℕ → List ℕ → ℕ → ℕ → Type 0
  Touched x xs old new = Changed need v (count x xs) old new

  pub touched : (need ≡ v → ⊥) → (t xs : List ℕ) → Below (length t) xs → Met need v t xs → (x : ℕ)
      → Touched x xs (get_or t x 0) (get_or (marks v t xs) x 0)
  unfolding Met marks count
  touched d t [] b m x = inl (refl, refl)
  touched d t (y ∷ xs) b m x = go (ℕ_discrete y x) (touched d (set t y v) xs (rw (length-set t y v) b.1) m.1 x)
    where
      same : y ≡ x → (get_or (set t y v) x 0 ≡ v) × (get_or t x 0 ≡ need)
      same e = (rw (← e) (get_or-set_same t y v 0 b.0), rw (← e) m.0)

      other : (y ≡ x → ⊥) → get_or (set t y v) x 0 ≡ get_or t x 0
      other e = get_or-set_other t y x v 0 (λ u. e (sym u))

      go : Dec (y ≡ x) → Touched x xs (get_or (set t y v) x 0) (get_or (marks v (set t y v) xs) x 0)
          → Touched x (y ∷ xs) (get_or t x 0) (get_or (marks v (set t y v) xs) x 0)
      go (yes e) (inl a) = inr (omega (arith, a.0, bit-eq y x e), (same e).1, a.1 ∙ (same e).0)
      go (yes e) (inr a) = absurd (d (sym a.1 ∙ (same e).0))
      go (no e) (inl a) = inl (omega (arith, a.0, bit-ne y x e), a.1 ∙ other e)
      go (no e) (inr a) = inr (omega (arith, a.0, bit-ne y x e), sym (other e) ∙ a.1, a.2)

  -- the numbers xs are met if none occurs twice and all have the mark `need`
  pub untouched : (t xs : List ℕ) → Below (length t) xs → ((x : ℕ) → 1 ≤ count x xs → (count x xs ≡ 1) × (get_or t x 0 ≡ need)) → Met need v t xs
  unfolding Met marks count
  untouched t [] b h = tt
  untouched t (y ∷ xs) b h = (
    (h y (omega (arith, bit-eq y y refl))).1,
    untouched (set t y v) xs (rw (length-set t y v) b.1) (λ x c. go x c (ℕ_discrete y x) (h x (omega arith))),
  )
    where
      go : (x : ℕ) → 1 ≤ count x xs → Dec (y ≡ x) → (count x (y ∷ xs) ≡ 1) × (get_or t x 0 ≡ need) → (count x xs ≡ 1) × (get_or (set t y v) x 0 ≡ need)
      go x c (yes e) k = absurd (omega (arith, k.0, bit-eq y x e))
      go x c (no e) k = (omega (arith, k.0, bit-ne y x e), get_or-set_other t y x v 0 (λ u. e (sym u)) ∙ k.1)

-- n things with no mark
unfoldable pub blank : ℕ → List ℕ
blank n = replicate n 0

pub length-blank : (n : ℕ) → length (blank n) ≡ n
unfolding blank
length-blank n = length-replicate {A = ℕ} n 0

pub blank-at : (n i : ℕ) → get_or (blank n) i 0 ≡ 0
unfolding blank
blank-at n i = go (dec_lt i n)
  where
    go : Dec (i < n) → get_or (blank n) i 0 ≡ 0
    go (yes h) = get_or-replicate {A = ℕ} n i 0 0 h
    go (no d) = get_or-eq_default (blank n) 0 {n = i} (rw (length-blank n) (omega arith))

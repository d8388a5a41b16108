-- A memory in parts of n bytes: it is its parts, one after another, and a store changes the one that it falls in.
use Prim.Native.Nat.{ℕ, zero, suc, ◌+◌, ◌*◌, ◌-◌, ◌≤◌, ◌<◌}
use mathlib.Core.Path.{◌≡◌, refl, sym, ap, ap₂, ◌∙◌}
use mathlib.Core.List.{List, [], ◌∷◌, ◌++◌}
use mathlib.Core.Logic.{◌⊎◌, inl, inr}
use native.Mathlib.Omega.{arith}
use native.Mathlib.Nat.{add-suc, mul-suc, mul-zero}
use lib.ListN.{length, set, take, drop, length-drop, take-append-drop}
use lib.Seq.{sets, drop-drop, take_at, drop_at, length-take-le, take-set-le, take-set-lt, drop-set-lt, drop-set-add}
use Rattle.words.proofs.Parts.{length-zero}
use Rattle.rules.specs.Memories.{parts}

-- a run of stores after the first k, before them, within them

drop-sets : (k a : ℕ) (vs xs : List ℕ) → drop k (sets xs (k + a) vs) ≡ sets (drop k xs) a vs
drop-sets k a [] xs = refl
drop-sets k a (v ∷ vs) xs = rw (← add-suc k a, drop-sets k (suc a) vs (set xs (k + a) v), drop-set-add k xs a v)

drop-sets-before : (k at : ℕ) (vs xs : List ℕ) → at + length vs ≤ k → drop k (sets xs at vs) ≡ drop k xs
drop-sets-before k at [] xs h = refl
drop-sets-before k at (v ∷ vs) xs h = drop-sets-before k (suc at) vs (set xs at v) (omega arith) ∙ drop-set-lt k xs at v (omega arith)

take-sets : (k a : ℕ) (vs xs : List ℕ) → a + length vs ≤ k → take k (sets xs a vs) ≡ sets (take k xs) a vs
take-sets k a [] xs h = refl
take-sets k a (v ∷ vs) xs h = take-sets k (suc a) vs (set xs a v) (omega arith) ∙ ap (λ l. sets l (suc a) vs) (take-set-lt k xs a v (omega arith))

take-sets-behind : (k at : ℕ) (vs xs : List ℕ) → k ≤ at → take k (sets xs at vs) ≡ take k xs
take-sets-behind k at [] xs h = refl
take-sets-behind k at (v ∷ vs) xs h = take-sets-behind k (suc at) vs (set xs at v) (omega arith) ∙ take-set-le k xs at v (omega arith)

module _ (n : ℕ) where
  -- part f
  unfoldable pub part : ℕ → List ℕ → List ℕ
  part f x = take n (drop (n * f) x)

  pub length_part : (f : ℕ) (x : List ℕ) → n * f + n ≤ length x → length (part f x) ≡ n
  unfolding part
  length_part f x h = length-take-le n (drop (n * f) x) (rw (length-drop (n * f) x) (omega arith))

  first : (x : List ℕ) → part 0 x ≡ take n x
  unfolding part
  first x = rw (mul-zero n)

  -- the parts after the first
  part-rest : (f : ℕ) (x : List ℕ) → part f (drop n x) ≡ part (suc f) x
  unfolding part
  part-rest f x = let e : n + n * f ≡ n * suc f = omega (arith, mul-suc n f) in rw (drop-drop (n * f) n x, e)

  rest-long : (m : ℕ) (x : List ℕ) → length x ≡ n * suc m → length (drop n x) ≡ n * m
  rest-long m x e = length-drop n x ∙ omega (arith, e, mul-suc n m)

  pub parts_all : (m : ℕ) (x : List ℕ) (g : ℕ → List ℕ) → length x ≡ n * m → ((f : ℕ) → f < m → part f x ≡ g f) → x ≡ parts m g
  unfolding parts
  parts_all zero x g e h = length-zero x (e ∙ mul-zero n)
  parts_all (suc m) x g e h =
      sym (take-append-drop n x)
      ∙ ap₂ {C = List ℕ} (λ a b. a ++ b) (sym (first x) ∙ h 0 (omega arith))
      (parts_all m (drop n x) (λ f. g (suc f)) (rest-long m x e) (λ f k. part-rest f x ∙ h (suc f) (omega arith)))

  pub parts_same : (m : ℕ) (x y : List ℕ) → length x ≡ n * m → length y ≡ n * m → ((f : ℕ) → f < m → part f x ≡ part f y) → x ≡ y
  parts_same m x y e k h = parts_all m x (λ f. part f y) e h ∙ sym (parts_all m y (λ f. part f y) k (λ f _. refl))

  -- part f of m parts put together is the f-th of them
  pub part-parts : (m : ℕ) (g : ℕ → List ℕ) → ((f : ℕ) → f < m → length (g f) ≡ n) → (f : ℕ) → f < m → part f (parts m g) ≡ g f
  unfolding parts
  part-parts zero g e f h = absurd (omega arith)
  part-parts (suc m) g e zero h = first (g 0 ++ parts m (λ f. g (suc f))) ∙ take_at (g 0) (parts m (λ f. g (suc f))) n (e 0 (omega arith))
  part-parts (suc m) g e (suc f) h =
      sym (part-rest f (g 0 ++ parts m (λ f. g (suc f))))
      ∙ ap (part f) (drop_at (g 0) (parts m (λ f. g (suc f))) n (e 0 (omega arith)))
      ∙ part-parts m (λ f. g (suc f)) (λ f k. e (suc f) (omega arith)) f (omega arith)

  -- a run of stores in part f, and outside
  pub part-sets : (f a : ℕ) (vs x : List ℕ) → a + length vs ≤ n → part f (sets x (n * f + a) vs) ≡ sets (part f x) a vs
  unfolding part
  part-sets f a vs x h = rw (drop-sets (n * f) a vs x) (take-sets n a vs (drop (n * f) x) h)

  pub part-sets-other : (f at : ℕ) (vs x : List ℕ) → (at + length vs ≤ n * f) ⊎ (n * f + n ≤ at) → part f (sets x at vs) ≡ part f x
  unfolding part
  part-sets-other f at vs x (inl h) = rw (drop-sets-before (n * f) at vs x h)
  part-sets-other f at vs x (inr h) =
      let a : ℕ = at - n * f in
      let e : at ≡ n * f + a = omega arith in
      rw (e, drop-sets (n * f) a vs x) (take-sets-behind n a vs (drop (n * f) x) (omega arith))

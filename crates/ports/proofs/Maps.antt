-- What a function makes of each element of a list, in a list that is cut, put into, or set.
use Prim.Native.Nat.{ℕ, zero, suc, ◌≤◌, ◌<◌}
use mathlib.Core.Path.{◌≡◌, refl, ap, ap₂, ◌∙◌}
use mathlib.Core.List.{List, [], ◌∷◌, ◌++◌, map}
use native.Mathlib.Omega.{arith}
use native.Mathlib.Decide.{ℕ_discrete}
use lib.ListN.{length, get_or, set, take, drop}
use lib.Seq.{get_or-set_same, get_or-set_other}
use Rattle.occurrences.specs.Count.{count}
use Rattle.occurrences.proofs.Counts.{bit-eq, count_head, count_at}
use Rattle.ports.specs.Index.{cut, put_in}

module _ {A B : Type 0} where
  pub map-all : (f g : A → B) (xs : List A) → ((z : A) → f z ≡ g z) → map f xs ≡ map g xs
  map-all f g [] h = refl
  map-all f g (x ∷ xs) h = ap₂ {C = List B} (λ y l. y ∷ l) (h x) (map-all f g xs h)

  pub map-append : (f : A → B) (xs ys : List A) → map f (xs ++ ys) ≡ map f xs ++ map f ys
  map-append f [] ys = refl
  map-append f (x ∷ xs) ys = ap (◌∷◌ (f x)) (map-append f xs ys)

  pub map-take : (f : A → B) (n : ℕ) (xs : List A) → map f (take n xs) ≡ take n (map f xs)
  map-take f zero xs = refl
  map-take f (suc n) [] = refl
  map-take f (suc n) (x ∷ xs) = ap (◌∷◌ (f x)) (map-take f n xs)

  pub map-drop : (f : A → B) (n : ℕ) (xs : List A) → map f (drop n xs) ≡ drop n (map f xs)
  map-drop f zero xs = refl
  map-drop f (suc n) [] = refl
  map-drop f (suc n) (x ∷ xs) = map-drop f n xs

  pub map-cut : (f : A → B) (n : ℕ) (xs : List A) → map f (cut n xs) ≡ cut n (map f xs)
  unfolding cut
  map-cut f n xs = map-append f (take n xs) (drop (suc n) xs) ∙ rw (map-take, map-drop)

  pub map-put_in : (f : A → B) (n : ℕ) (x : A) (xs : List A) → map f (put_in n x xs) ≡ put_in n (f x) (map f xs)
  unfolding put_in
  map-put_in f n x xs = map-append f (take n xs) (x ∷ drop n xs) ∙ rw (map-take f n xs, map-drop f n xs)

  pub map_at : (f : A → B) (xs : List A) (n : ℕ) (a : A) (b : B) → n < length xs → get_or (map f xs) n b ≡ f (get_or xs n a)
  map_at f [] n a b h = absurd (omega arith)
  map_at f (x ∷ xs) zero a b h = refl
  map_at f (x ∷ xs) (suc n) a b h = map_at f xs n a b (omega arith)

  -- one list set in two families
  pub map-set : (f : A → B) (ls : List (List A)) (ms : List (List B)) (l : ℕ) (xs : List A) → l < length ls → l < length ms
      → (j : ℕ) → map f (get_or ls j []) ≡ get_or ms j [] → map f (get_or (set ls l xs) j []) ≡ get_or (set ms l (map f xs)) j []
  map-set f ls ms l xs a b j h = go (ℕ_discrete j l)
    where
      go : Dec (j ≡ l) → map f (get_or (set ls l xs) j []) ≡ get_or (set ms l (map f xs)) j []
      go (yes e) = rw (e, get_or-set_same ls l xs [] a, get_or-set_same ms l (map f xs) [] b)
      go (no d) = rw (get_or-set_other ls l j xs [] d, get_or-set_other ms l j (map f xs) [] d) h

module _ {B : Type 0} (f g : ℕ → B) where
  -- alike on what stands in the list
  pub map-in : (xs : List ℕ) → ((z : ℕ) → 1 ≤ count z xs → f z ≡ g z) → map f xs ≡ map g xs
  unfolding count
  map-in [] h = refl
  map-in (x ∷ xs) h = ap₂ {C = List B} (λ y l. y ∷ l) (h x (count_head x xs)) (map-in xs (λ z k. h z (omega arith)))

  -- two maps agree except at element i, which occurs once
  pub map-but : (xs : List ℕ) (i : ℕ) (b : B) → i < length xs → f (get_or xs i 0) ≡ b → ((z : ℕ) → (z ≡ get_or xs i 0 → ⊥) → f z ≡ g z)
      → count (get_or xs i 0) xs ≤ 1 → map f xs ≡ set (map g xs) i b
  unfolding count
  map-but [] i b h e o c = absurd (omega arith)
  map-but (x ∷ xs) zero b h e o c =
      ap₂ {C = List B} (λ u v. u ∷ v) e (map-in xs (λ z k. o z (λ u. omega (arith, bit-eq x x refl, ap (λ y. count y xs) u))))
  map-but (x ∷ xs) (suc i) b h e o c =
      ap₂ {C = List B} (λ u v. u ∷ v) (o x (λ u. omega (arith, bit-eq x (get_or xs i 0) u, count_at xs i (omega arith))))
      (map-but xs i b (omega arith) e o (omega arith))

-- The entry of a place, found in a list: it is there, and where a place has one entry only it is that one.
use Prim.Native.Nat.{ℕ, ◌≤◌}
use mathlib.Core.Path.{◌≡◌, refl, sym, subst, ap, ap₂, ◌∙◌}
use mathlib.Core.List.{List, [], ◌∷◌, ◌++◌, map}
use native.Mathlib.Omega.{arith}
use native.Mathlib.Decide.{ℕ_discrete}
use borrow.Author.Tests.{eq-eqb, ne_eqb}
use Rattle.occurrences.specs.Count.{count}
use Rattle.occurrences.proofs.Counts.{bit-eq, bit-ne}
use Rattle.sound.specs.Walks.{place_in}
use Rattle.decision.specs.Survey.{Each, named}
use Rattle.decision.proofs.desk.MadeDesk.{the_entry}

pub each_at : (P : ℕ → Type 0) (l : List ℕ) → Each P l → (e : ℕ) → 1 ≤ count e l → P e
unfolding Each count
each_at P [] a e c = absurd (omega arith)
each_at P (x ∷ l) a e c = go (ℕ_discrete x e) (each_at P l a.1 e)
  where
    go : Dec (x ≡ e) → (1 ≤ count e l → P e) → P e
    go (yes u) k = rw (← u) a.0
    go (no u) k = k (omega (arith, bit-ne x e u))

pub map_same : {A : Type 0} (g h : ℕ → A) (l : List ℕ) → ((e : ℕ) → 1 ≤ count e l → g e ≡ h e) → map g l ≡ map h l
unfolding count
map_same g h [] k = refl
map_same g h (x ∷ l) k = rw (k x (omega (arith, bit-eq x x refl)), map_same g h l (λ e c. k e (omega arith)))

pub map-self : (g : ℕ → ℕ) (l : List ℕ) → ((e : ℕ) → 1 ≤ count e l → g e ≡ e) → map g l ≡ l
unfolding count
map-self g [] k = refl
map-self g (x ∷ l) k = ap₂ {C = List ℕ} (λ y m. y ∷ m) (k x (omega (arith, bit-eq x x refl))) (map-self g l (λ e c. k e (omega arith)))

pub map-map : {A B : Type 0} (g : A → B) (h : ℕ → A) (l : List ℕ) → map g (map h l) ≡ map (λ e. g (h e)) l
map-map g h [] = refl
map-map g h (x ∷ l) = ap (λ m. g (h x) ∷ m) (map-map g h l)

module _ (s : List ℕ) where
  pub named_in : (e : ℕ) (l : List ℕ) → 1 ≤ count e l → 1 ≤ named s (place_in s e) l
  unfolding named count
  named_in e [] c = absurd (omega arith)
  named_in e (x ∷ l) c = go (ℕ_discrete x e) (named_in e l)
    where
      go : Dec (x ≡ e) → (1 ≤ count e l → 1 ≤ named s (place_in s e) l) → 1 ≤ named s (place_in s e) (x ∷ l)
      go (yes u) k = omega (arith, bit-eq (place_in s x) (place_in s e) (ap (place_in s) u))
      go (no u) k = omega (arith, k (omega (arith, bit-ne x e u)))

  module _ (i : ℕ) where
    entry_here : (x : ℕ) (l : List ℕ) → place_in s x ≡ i → the_entry s i (x ∷ l) ≡ x
    unfolding the_entry
    entry_here x l u = rw (eq-eqb (place_in s x) i u)

    entry_next : (x : ℕ) (l : List ℕ) → (place_in s x ≡ i → ⊥) → the_entry s i (x ∷ l) ≡ the_entry s i l
    unfolding the_entry
    entry_next x l u = rw (ne_eqb (place_in s x) i u)

    pub entry_in : (l : List ℕ) → 1 ≤ named s i l → (1 ≤ count (the_entry s i l) l) × (place_in s (the_entry s i l) ≡ i)
    unfolding named count
    entry_in [] c = absurd (omega arith)
    entry_in (x ∷ l) c = go (ℕ_discrete (place_in s x) i) (entry_in l)
      where
        go : Dec (place_in s x ≡ i) → (1 ≤ named s i l → (1 ≤ count (the_entry s i l) l) × (place_in s (the_entry s i l) ≡ i))
            → (1 ≤ count (the_entry s i (x ∷ l)) (x ∷ l)) × (place_in s (the_entry s i (x ∷ l)) ≡ i)
        go (yes u) k = rw (entry_here x l u) (omega (arith, bit-eq x x refl), u)
        go (no u) k =
            let (a, b) = k (omega (arith, bit-ne (place_in s x) i u)) in
            subst (λ (w : ℕ). (1 ≤ count w (x ∷ l)) × (place_in s w ≡ i)) (sym (entry_next x l u)) (omega arith, b)

    pub entry-left : (l m : List ℕ) → 1 ≤ named s i l → the_entry s i (l ++ m) ≡ the_entry s i l
    unfolding named count
    entry-left [] m c = absurd (omega arith)
    entry-left (x ∷ l) m c = go (ℕ_discrete (place_in s x) i) (entry-left l m)
      where
        go : Dec (place_in s x ≡ i) → (1 ≤ named s i l → the_entry s i (l ++ m) ≡ the_entry s i l) → the_entry s i (x ∷ (l ++ m)) ≡ the_entry s i (x ∷ l)
        go (yes u) k = entry_here x (l ++ m) u ∙ sym (entry_here x l u)
        go (no u) k = entry_next x (l ++ m) u ∙ (k (omega (arith, bit-ne (place_in s x) i u)) ∙ sym (entry_next x l u))

    pub entry-right : (l m : List ℕ) → named s i l ≡ 0 → the_entry s i (l ++ m) ≡ the_entry s i m
    unfolding named count
    entry-right [] m c = refl
    entry-right (x ∷ l) m c = go (ℕ_discrete (place_in s x) i) (entry-right l m)
      where
        go : Dec (place_in s x ≡ i) → (named s i l ≡ 0 → the_entry s i (l ++ m) ≡ the_entry s i m) → the_entry s i (x ∷ (l ++ m)) ≡ the_entry s i m
        go (yes u) k = absurd (omega (arith, bit-eq (place_in s x) i u))
        go (no u) k = entry_next x (l ++ m) u ∙ k (omega arith)

  pub entry-back : (e : ℕ) (l : List ℕ) → 1 ≤ count e l → named s (place_in s e) l ≤ 1 → the_entry s (place_in s e) l ≡ e
  unfolding named count
  entry-back e [] c o = absurd (omega arith)
  entry-back e (x ∷ l) c o = go (ℕ_discrete x e) (ℕ_discrete (place_in s x) (place_in s e)) (entry-back e l)
    where
      go : Dec (x ≡ e) → Dec (place_in s x ≡ place_in s e) → (1 ≤ count e l → named s (place_in s e) l ≤ 1 → the_entry s (place_in s e) l ≡ e) → the_entry s (place_in s e) (x ∷ l) ≡ e
      go (yes u) v k = entry_here (place_in s e) x l (ap (place_in s) u) ∙ u
      go (no u) (yes v) k = absurd (omega (arith, named_in e l (omega (arith, bit-ne x e u)), bit-eq (place_in s x) (place_in s e) v))
      go (no u) (no v) k = entry_next (place_in s e) x l v ∙ k (omega (arith, bit-ne x e u)) (omega arith)

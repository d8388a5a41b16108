-- Laws of the groups: their sizes, and one record more.
use Prim.Native.Nat.{ℕ, zero, suc, ◌+◌, ◌*◌, ◌≤◌, ◌<◌}
use mathlib.Core.Path.{◌≡◌, refl, sym, ap}
use mathlib.Core.List.{List, [], ◌∷◌, ◌++◌, append-nil, append_assoc}
use native.Mathlib.Omega.{arith}
use native.Mathlib.Nat.{suc-mul}
use lib.Dec.{ltb}
use lib.ListN.{length, take, drop, length-append}
use borrow.Author.Tests.{ltb-true, ltb-false, lt-ltb}
use Rattle.rules.specs.State.{Rec}
use Rattle.shares.specs.Image.{words_of}
use Rattle.shares.specs.Groups.{All, Small, flat, Shape, Begun, add_to}
use Rattle.rules.proofs.Split.{by_cases, both, pick_true}

-- All

module _ (P : Rec → Type 0) where
  pub all_append : (qs rs : List Rec) → All P qs → All P rs → All P (qs ++ rs)
  unfolding All
  all_append [] rs h k = k
  all_append (q ∷ qs) rs h k = (h.0, all_append qs rs h.1 k)

  pub all_take : (n : ℕ) (rs : List Rec) → All P rs → All P (take n rs)
  unfolding All
  all_take zero rs h = tt
  all_take (suc n) [] h = tt
  all_take (suc n) (r ∷ rs) h = (h.0, all_take n rs h.1)

  pub all_drop : (n : ℕ) (rs : List Rec) → All P rs → All P (drop n rs)
  unfolding All
  all_drop zero rs h = h
  all_drop (suc n) [] h = tt
  all_drop (suc n) (r ∷ rs) h = all_drop n rs h.1

  pub all_snoc : (rs : List Rec) (r : Rec) → All P rs → P r → All P (rs ++ (r ∷ []))
  unfolding All
  all_snoc rs r h k = all_append rs (r ∷ []) h (k, tt)

pub words_of-small : (m : ℕ) (rs : List Rec) → Small m rs → words_of rs ≤ length rs * m
unfolding All words_of
words_of-small m [] h = omega arith
words_of-small m (r ∷ rs) h = omega (arith, words_of-small m rs h.1, h.0, suc-mul (length rs) m)

-- Shape and Begun

pub begun-zero : (b : ℕ) (qs : List (List Rec)) → Shape b qs → Begun 0 qs
unfolding Begun Shape
begun-zero b [] s = refl
begun-zero b (q ∷ qs) s = s.0

pub begun-flat : (spent : ℕ) (qs : List (List Rec)) → Begun spent qs → spent ≤ length (flat qs)
unfolding Begun flat
begun-flat spent [] h = omega arith
begun-flat spent (q ∷ qs) h = omega (arith, length-append q (flat qs))

pub shape-none : (b : ℕ) (qs : List (List Rec)) → Shape b qs → length (flat qs) ≡ 0 → qs ≡ []
unfolding Shape flat
shape-none b [] s e = refl
shape-none b (q ∷ qs) s e = absurd (omega (arith, length-append q (flat qs), s.0))

-- where more records follow than a group may have, it is full
pub shape-full : (b j i : ℕ) (q : List Rec) (qs : List (List Rec)) → Shape b (q ∷ qs) → length (flat (q ∷ qs)) ≡ suc j * b + i
    → (length q ≡ b) × (length (flat qs) ≡ j * b + i)
unfolding Shape flat
shape-full b j i q qs s u =
    let c : length (q ++ flat qs) ≡ length q + length (flat qs) = length-append q (flat qs) in
    by_cases (ltb (length q) b)
    (λ e. let z : length (flat qs) ≡ 0 = ap (λ (p : List (List Rec)). length (flat p)) (s.2 (ltb-true (length q) b e)) in
    absurd (omega (arith, suc-mul j b, ltb-true (length q) b e)))
    (λ e. let v : b ≤ length q = ltb-false (length q) b e in (omega (arith, s.1), omega (arith, suc-mul j b, s.1)))

-- where fewer follow, it is the last
pub shape-last : (b i : ℕ) (q : List Rec) (qs : List (List Rec)) → Shape b (q ∷ qs) → length (flat (q ∷ qs)) ≡ 0 * b + i → i < b
    → (length q < b) × (1 ≤ i) × (qs ≡ [])
unfolding Shape flat
shape-last b i q qs s u p =
    let v : length q < b = omega (arith, length-append q (flat qs)) in
    (v, omega (arith, length-append q (flat qs), s.0), s.2 v)

-- add_to

pub flat-add_to : (b : ℕ) (qs : List (List Rec)) (r : Rec) → Shape b qs → flat (add_to b qs r) ≡ flat qs ++ (r ∷ [])
unfolding flat add_to Shape
flat-add_to b [] r s = refl
flat-add_to b (q ∷ qs) r s = both (λ (p : List (List Rec)). flat p ≡ (q ++ flat qs) ++ (r ∷ [])) (ltb (length q) b)
    (λ e. let z : qs ≡ [] = s.2 (ltb-true (length q) b e) in rw (z, append-nil (q ++ (r ∷ [])), append-nil q))
    (λ e. rw (flat-add_to b qs r s.3) (sym (append_assoc q (flat qs) (r ∷ []))))

pub shape-add_to : (b : ℕ) → 0 < b → (qs : List (List Rec)) (r : Rec) → Shape b qs → Shape b (add_to b qs r)
unfolding add_to Shape
shape-add_to b o [] r s = (omega arith, omega arith, λ h. refl, tt)
shape-add_to b o (q ∷ qs) r s = both (Shape b) (ltb (length q) b)
    (λ e. let v : length q < b = ltb-true (length q) b e in
    let l : length (q ++ (r ∷ [])) ≡ length q + 1 = length-append q (r ∷ []) in
    (omega arith, omega arith, (λ h. s.2 v), s.3))
    (λ e. let v : b ≤ length q = ltb-false (length q) b e in (s.0, s.1, (λ h. absurd (omega arith)), shape-add_to b o qs r s.3))

pub begun-add_to : (b spent : ℕ) (qs : List (List Rec)) (r : Rec) → Begun spent qs → Begun spent (add_to b qs r)
unfolding Begun add_to
begun-add_to b spent [] r h = omega arith
begun-add_to b spent (q ∷ qs) r h = both (Begun spent) (ltb (length q) b) (λ e. omega (arith, length-append q (r ∷ []))) (λ e. h)

pub length-add_to : (b j i : ℕ) (qs : List (List Rec)) (r : Rec) → length (flat qs) ≡ j * b + i → i < b → Shape b qs → length (add_to b qs r) ≡ suc j
unfolding add_to flat Shape
length-add_to b zero i [] r u p s = refl
length-add_to b (suc j) i [] r u p s = absurd (omega (arith, suc-mul j b))
length-add_to b zero i (q ∷ qs) r u p s =
    let y = shape-last b i q qs s u p in
    rw (y.2, pick_true (ltb (length q) b) ((q ++ (r ∷ [])) ∷ []) (q ∷ add_to b [] r) (lt-ltb (length q) b y.0))
length-add_to b (suc j) i (q ∷ qs) r u p s =
    let y = shape-full b j i q qs s u in
    both (λ (p : List (List Rec)). length p ≡ suc (suc j)) (ltb (length q) b)
    (λ e. absurd (omega (arith, ltb-true (length q) b e, y.0)))
    (λ e. ap suc (length-add_to b j i qs r y.1 p s.3))

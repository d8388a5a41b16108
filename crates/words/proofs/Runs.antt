-- Laws of a run of stores, `sets`: of runs one after another, of one store more, and of a run into a part.
use Prim.Native.Nat.{ℕ, zero, suc, ◌+◌, ◌-◌, ◌≤◌, ◌<◌}
use mathlib.Core.List.{List, [], ◌∷◌, ◌++◌}
use mathlib.Core.Path.{◌≡◌, refl, ap}
use native.Mathlib.Nat.{add-suc, suc-add, add-zero, zero-add}
use native.Mathlib.Omega.{arith}
use lib.ListN.{length, get_or, set, take, drop, length-drop, length-set, length-replicate, get_or-replicate, take-append-drop}
use lib.Seq.{sets, take-add, set-append_left, length-take-le}
use Rattle.words.specs.Word.{zeros}

pub length-zeros : (n : ℕ) → length (zeros n) ≡ n
unfolding zeros
length-zeros n = length-replicate n 0

pub get_or-zeros : (n i : ℕ) → i < n → get_or (zeros n) i 0 ≡ 0
unfolding zeros
get_or-zeros n i h = get_or-replicate n i 0 0 h

-- one run right after another
pub sets-sets : (vs ws xs : List ℕ) (i : ℕ) → sets (sets xs i vs) (i + length vs) ws ≡ sets xs i (vs ++ ws)
sets-sets [] ws xs i = rw add-zero
sets-sets (v ∷ vs) ws xs i = rw (add-suc, ← suc-add) (sets-sets vs ws (set xs i v) (suc i))

-- one run right after another, the second's place known by an equation
pub sets-at : (vs ws xs : List ℕ) (i j : ℕ) → i + length vs ≡ j → sets (sets xs i vs) j ws ≡ sets xs i (vs ++ ws)
sets-at vs ws xs i j e = rw (← e) (sets-sets vs ws xs i)

-- n more, a part of `ds` as it is lent
pub sets-run : (xs ds : List ℕ) (at i n m : ℕ) → m ≡ n → i + n ≤ length ds → sets (sets xs at (take i ds)) (at + i) (take m (drop i ds)) ≡ sets xs at (take (i + n) ds)
sets-run xs ds at i n m e h =
    let k : length (take i ds) ≡ i = length-take-le i ds (omega arith) in
    rw (e, take-add i n ds) (sets-at (take i ds) (take n (drop i ds)) xs at (at + i) (ap (λ (k : ℕ). at + k) k))

-- a run in the first of two lists
pub sets-left : (vs xs ys : List ℕ) (i : ℕ) → i + length vs ≤ length xs → sets (xs ++ ys) i vs ≡ sets xs i vs ++ ys
sets-left [] xs ys i h = refl
sets-left (v ∷ vs) xs ys i h =
    let h' : suc i + length vs ≤ length (set xs i v) = rw length-set (omega (arith, add-suc i (length vs), suc-add i (length vs))) in
    rw (set-append_left xs ys i v (omega (arith, add-suc i (length vs)))) (sets-left vs (set xs i v) ys (suc i) h')

-- a store in the second of two lists
pub set-right : (xs ys : List ℕ) (i v : ℕ) → set (xs ++ ys) (length xs + i) v ≡ xs ++ set ys i v
set-right [] ys i v = rw zero-add
set-right (x ∷ xs) ys i v = rw suc-add (ap (λ (l : List ℕ). x ∷ l) (set-right xs ys i v))

pub sets-right : (vs xs ys : List ℕ) (i : ℕ) → sets (xs ++ ys) (length xs + i) vs ≡ xs ++ sets ys i vs
sets-right [] xs ys i = refl
sets-right (v ∷ vs) xs ys i = rw (set-right, ← add-suc) (sets-right vs xs (set ys i v) (suc i))

-- a run into the part from a, k elements long, that was lent and is back: the same run into the whole
pub sets-part : (vs xs : List ℕ) (a k : ℕ) → length vs ≤ k → a + k ≤ length xs → take a xs ++ (sets (take k (drop a xs)) 0 vs ++ drop k (drop a xs)) ≡ sets xs a vs
sets-part vs xs a k hv hx =
    let n : length (take a xs) ≡ a = length-take-le a xs (omega arith) in
    let m : length (take k (drop a xs)) ≡ k = length-take-le k (drop a xs) (rw length-drop (omega arith)) in
    let l : 0 + length vs ≤ length (take k (drop a xs)) = rw m (omega arith) in
    let e : sets (take a xs ++ drop a xs) (length (take a xs) + 0) vs ≡ take a xs ++ sets (drop a xs) 0 vs = sets-right vs (take a xs) (drop a xs) 0 in
    let d : sets (take k (drop a xs) ++ drop k (drop a xs)) 0 vs ≡ sets (take k (drop a xs)) 0 vs ++ drop k (drop a xs) = sets-left vs (take k (drop a xs)) (drop k (drop a xs)) 0 l in
    let e' : sets xs a vs ≡ take a xs ++ sets (drop a xs) 0 vs = rw (n, add-zero, take-append-drop) at e in
    let d' : sets (drop a xs) 0 vs ≡ sets (take k (drop a xs)) 0 vs ++ drop k (drop a xs) = rw (take-append-drop k (drop a xs)) at d in
    cc

take-zeros : (n m : ℕ) → n ≤ m → take n (zeros m) ≡ zeros n
unfolding zeros
take-zeros zero m h = refl
take-zeros (suc n) zero h = absurd (omega arith)
take-zeros (suc n) (suc m) h = ap (◌∷◌ 0) (take-zeros n m (omega arith))

drop-zeros : (n m k : ℕ) → n + k ≡ m → drop n (zeros m) ≡ zeros k
unfolding zeros
drop-zeros zero m k h = let e : m ≡ k = omega arith in rw e
drop-zeros (suc n) zero k h = absurd (omega arith)
drop-zeros (suc n) (suc m) k h = drop-zeros n m k (omega arith)

-- n of m zeros
pub part-zeros : (n at m : ℕ) → at + n ≤ m → take n (drop at (zeros m)) ≡ zeros n
part-zeros n at m h = rw (drop-zeros at m (m - at) (omega arith)) (take-zeros n (m - at) (omega arith))

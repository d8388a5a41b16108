-- Laws of a part of a memory: one that was lent and is back, and the parts beside it.
use Prim.Native.Nat.{ℕ, suc, ◌+◌, ◌-◌, ◌*◌, ◌≤◌, ◌<◌}
use mathlib.Core.Path.{◌≡◌, refl, sym, ap, ap₂, ◌∙◌}
use mathlib.Core.List.{List, [], ◌∷◌, ◌++◌, append_assoc}
use mathlib.Core.Logic.{◌⊎◌, inl, inr}
use native.Mathlib.Omega.{arith}
use native.Mathlib.Nat.{mul-suc, mul-le-mul_left}
use lib.ListN.{length, get_or, take, drop, replicate, length-replicate, length-take, length-drop, take-append-drop}
use lib.Seq.{sets, sets-eq, length-sets, length-take-le, take_all, take-add, drop-drop, get_or-take, get_or-drop, ext_get_or}
use Rattle.words.specs.Word.{zeros, part}
use Rattle.words.proofs.Runs.{sets-sets, sets-at}
use Rattle.words.proofs.Stands.{get_d_sets, same, part-read}

-- A list of length 0 is empty.
pub length-zero : {A : Type 0} (l : List A) → length l ≡ 0 → l ≡ []
length-zero [] e = refl
length-zero (x ∷ l) e = absurd (omega arith)

-- the part of k bytes that starts at a comes back as ys
pub part-back : (xs ys : List ℕ) (a k : ℕ) → length ys ≡ k → a + k ≤ length xs → take a xs ++ (ys ++ drop k (drop a xs)) ≡ sets xs a ys
part-back xs ys a k e h =
    rw (drop-drop k a xs, ← e, ← append_assoc (take a xs) ys (drop (a + length ys) xs)) (sym (sets-eq ys xs a (omega arith)))

-- a part comes back with zeros
pub part-zero : (xs ys : List ℕ) (a k n : ℕ) → k ≡ n → a + n ≤ length xs → ys ≡ replicate (length (take k (drop a xs))) 0
    → take a xs ++ (ys ++ drop k (drop a xs)) ≡ sets xs a (zeros n)
unfolding zeros
part-zero xs ys a k n e h z =
    let m : length (take k (drop a xs)) ≡ n = rw e (length-take-le n (drop a xs) (rw length-drop (omega arith))) in
    rw (z, m, e) (part-back xs (replicate n 0) a n (length-replicate n 0) h)

-- the part is what was stored there
pub part_same : (xs ys : List ℕ) (a k : ℕ) → length ys ≡ k → a + k ≤ length xs → take k (drop a (sets xs a ys)) ≡ ys
part_same xs ys a k e h =
    let f : a + length ys ≤ length (sets xs a ys) = rw length-sets (omega arith) in
    rw (← e) (part-read ys (sets xs a ys) a f (same ys xs a (omega arith)))

-- all beside the stored part stays
pub part-beside : (xs ys : List ℕ) (a b k : ℕ) → (b + k ≤ a) ⊎ (a + length ys ≤ b) → take k (drop b (sets xs a ys)) ≡ take k (drop b xs)
part-beside xs ys a b k d =
    let n : length (take k (drop b (sets xs a ys))) ≡ length (take k (drop b xs)) = simp (length-take, length-drop, length-sets) in
    ext_get_or 0 (take k (drop b (sets xs a ys))) (take k (drop b xs)) n (λ i h. each i (omega (arith, length-take k (drop b (sets xs a ys)))))
  where
    away : (i : ℕ) → i < k → (b + k ≤ a) ⊎ (a + length ys ≤ b) → (b + i < a) ⊎ (a + length ys ≤ b + i)
    away i h (inl e) = inl (omega arith)
    away i h (inr e) = inr (omega arith)

    each : (i : ℕ) → i < k → get_or (take k (drop b (sets xs a ys))) i 0 ≡ get_or (take k (drop b xs)) i 0
    each i h = rw (get_or-take k (drop b (sets xs a ys)) i 0 h, get_or-take k (drop b xs) i 0 h, get_or-drop b (sets xs a ys) i 0, get_or-drop b xs i 0) (get_d_sets ys xs a (b + i) (away i h d))

-- what is stored there twice is what was stored last
pub sets-again : (xs ys zs : List ℕ) (a : ℕ) → length ys ≡ length zs → a + length zs ≤ length xs → sets (sets xs a ys) a zs ≡ sets xs a zs
sets-again xs ys zs a e h =
    let m : ℕ = length xs in
    let front : take a (drop 0 (sets xs a ys)) ≡ take a (drop 0 xs) = part-beside xs ys a 0 a (inl (omega arith)) in
    let back : take m (drop (a + length zs) (sets xs a ys)) ≡ take m (drop (a + length zs) xs) = part-beside xs ys a (a + length zs) m (inr (omega arith)) in
    let all : drop (a + length zs) (sets xs a ys) ≡ drop (a + length zs) xs =
    sym (take_all m (drop (a + length zs) (sets xs a ys)) (omega (arith, length-drop (a + length zs) (sets xs a ys), length-sets xs a ys)))
    ∙ back ∙ take_all m (drop (a + length zs) xs) (omega (arith, length-drop (a + length zs) xs)) in
    sets-eq zs (sets xs a ys) a (omega (arith, length-sets xs a ys)) ∙ rw (front, all) (sym (sets-eq zs xs a h))

-- from k on all of `ds` is stored, where its first i bytes, more than k, were stored before
pub sets_over : (xs ds : List ℕ) (at i k : ℕ) → k ≤ i → i ≤ length ds → at + length ds ≤ length xs → sets (sets xs at (take i ds)) (at + k) (drop k ds) ≡ sets xs at ds
sets_over xs ds at i k h hi hx =
    let ms : List ℕ = take (i - k) (drop k ds) in
    let rest : List ℕ = drop (i - k) (drop k ds) in
    let ys : List ℕ = sets xs at (take k ds) in
    let n : length (take k ds) ≡ k = length-take-le k ds (omega arith) in
    let m : length ms ≡ i - k = length-take-le (i - k) (drop k ds) (rw length-drop (omega arith)) in
    let whole : i ≡ k + (i - k) = omega arith in
    let put : sets xs at (take i ds) ≡ sets ys (at + k) ms =
    ap (λ (j : ℕ). sets xs at (take j ds)) whole ∙ ap (λ (l : List ℕ). sets xs at l) (take-add k (i - k) ds)
    ∙ sym (sets-at (take k ds) ms xs at (at + k) (ap (λ (j : ℕ). at + j) n)) in
    let behind : drop k ds ≡ ms ++ rest = sym (take-append-drop (i - k) (drop k ds)) in
    let room : at + k + length ms ≤ length ys = omega (arith, length-sets xs at (take k ds)) in
    ap₂ {C = List ℕ} (λ (l r : List ℕ). sets l (at + k) r) put behind
    ∙ sym (sets-sets ms rest (sets ys (at + k) ms) (at + k))
    ∙ ap (λ (l : List ℕ). sets l (at + k + length ms) rest) (sets-again ys ms ms (at + k) refl room)
    ∙ sets-sets ms rest ys (at + k) ∙ ap (λ (l : List ℕ). sets ys (at + k) l) (sym behind)
    ∙ sets-at (take k ds) (drop k ds) xs at (at + k) (ap (λ (j : ℕ). at + j) n) ∙ ap (λ (l : List ℕ). sets xs at l) (take-append-drop k ds)

-- Of the m parts of a memory, k bytes each.

part-fits : (k m i : ℕ) → i < m → k * i + k ≤ k * m
part-fits k m i h = let l : k * suc i ≤ k * m = mul-le-mul_left k h in omega (arith, mul-suc k i)

pub length_part : (xs : List ℕ) (k m i : ℕ) → length xs ≡ k * m → i < m → length (part k i xs) ≡ k
length_part xs k m i n h = length-take-le k (drop (k * i) xs) (rw length-drop (omega (arith, part-fits k m i h)))

-- the i-th was lent, and is back as ys
pub part-lent : (xs ys zs : List ℕ) (k m i : ℕ) → length xs ≡ k * m → i < m → length zs ≡ k → ys ≡ zs
    → take (k * i) xs ++ (ys ++ drop k (drop (k * i) xs)) ≡ sets xs (k * i) zs
part-lent xs ys zs k m i n h l e = rw e (part-back xs zs (k * i) k l (omega (arith, part-fits k m i h)))

pub part-own : (xs zs : List ℕ) (k m i : ℕ) → length xs ≡ k * m → i < m → length zs ≡ k → part k i (sets xs (k * i) zs) ≡ zs
part-own xs zs k m i n h l = part_same xs zs (k * i) k l (omega (arith, part-fits k m i h))

-- the parts before and after the i-th stay
pub part-other : (xs ys : List ℕ) (k i j : ℕ) → length ys ≡ k → (i < j) ⊎ (j < i) → part k j (sets xs (k * i) ys) ≡ part k j xs
part-other xs ys k i j e (inl h) = part-beside xs ys (k * i) (k * j) k (inr (omega (arith, part-fits k j i h)))
part-other xs ys k i j e (inr h) = part-beside xs ys (k * i) (k * j) k (inl (part-fits k i j h))

-- the whole of it
pub sets-whole : (xs ys : List ℕ) → length ys ≡ length xs → sets xs 0 ys ≡ ys
sets-whole xs ys e =
    let l : length (sets xs 0 ys) ≤ length xs = omega (arith, length-sets xs 0 ys) in
    sym (take_all (length xs) (sets xs 0 ys) l) ∙ part_same xs ys 0 (length xs) e (omega arith)

-- how long a part is, from its two ends
pub span : (a n : ℕ) → a + n - a ≡ n
span a n = omega arith

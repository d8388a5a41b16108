-- Words of the segment and runs of them: what is written is read, and all else is as it was.
use Prim.Native.Nat.{ℕ, zero, suc, ◌+◌, ◌*◌, ◌≤◌, ◌<◌}
use mathlib.Core.Path.{◌≡◌, refl, ap, ap₂, ◌∙◌}
use mathlib.Core.List.{List, [], ◌∷◌, ◌++◌}
use mathlib.Core.Logic.{◌⊎◌, inl, inr}
use native.Mathlib.Omega.{arith}
use native.Mathlib.Numerals.{add-one}
use native.Mathlib.Decide.{ℕ_discrete, dec_lt}
use lib.ListN.{length, get_or, set, drop, replicate}
use lib.Seq.{sets, length-sets, drop-cons, set-get_or}
use Rattle.words.specs.Word.{word}
use Rattle.words.proofs.Runs.{sets-at}
use Rattle.words.proofs.Stands.{word_same, word-other}
use Rattle.segment.specs.Table.{nth, put_nth, row, fill}

-- one word

pub length-put_nth : (s : List ℕ) (k v : ℕ) → length (put_nth s k v) ≡ length s
unfolding put_nth
length-put_nth s k v = length-sets s (2 * k) (word v)

pub nth-same : (s : List ℕ) (k v : ℕ) → 2 * k + 2 ≤ length s → nth (put_nth s k v) k ≡ v
unfolding nth put_nth
nth-same s k v h = word_same s (2 * k) v h

pub nth-other : (s : List ℕ) (k v j : ℕ) → (j ≡ k → ⊥) → nth (put_nth s k v) j ≡ nth s j
unfolding nth put_nth
nth-other s k v j d = go (dec_lt j k)
  where
    go : Dec (j < k) → nth (put_nth s k v) j ≡ nth s j
    go (yes h) = word-other s (word v) (2 * k) (2 * j) (inl (omega arith))
    go (no h) = word-other s (word v) (2 * k) (2 * j) (inr (omega arith))

-- a run

pub length-row : (s : List ℕ) (k n : ℕ) → length (row s k n) ≡ n
unfolding row
length-row s k zero = refl
length-row s k (suc n) = ap suc (length-row s (suc k) n)

pub length-fill : (s : List ℕ) (k : ℕ) (vs : List ℕ) → length (fill s k vs) ≡ length s
unfolding fill
length-fill s k [] = refl
length-fill s k (v ∷ vs) = length-fill (put_nth s k v) (suc k) vs ∙ length-put_nth s k v

-- word i of a run
pub row_at : (s : List ℕ) (k n i : ℕ) → i < n → get_or (row s k n) i 0 ≡ nth s (k + i)
unfolding row
row_at s k zero i h = absurd (omega arith)
row_at s k (suc n) zero h = let e : k + 0 ≡ k = omega arith in rw e
row_at s k (suc n) (suc i) h = let e : k + suc i ≡ suc k + i = omega arith in rw e (row_at s (suc k) n i (omega arith))

-- one word more
pub row_more : (s : List ℕ) (k n : ℕ) → row s k (suc n) ≡ row s k n ++ nth s (k + n) ∷ []
unfolding row
row_more s k zero = let e : k + 0 ≡ k = omega arith in rw e
row_more s k (suc n) = let e : k + suc n ≡ suc k + n = omega arith in rw e (ap (◌∷◌ (nth s k)) (row_more s (suc k) n))

-- a run in two parts
pub row-join : (s : List ℕ) (k m n : ℕ) → row s k (m + n) ≡ row s k m ++ row s (k + m) n
unfolding row
row-join s k zero n =
    let e : k + 0 ≡ k = omega arith in
    let z : 0 + n ≡ n = omega arith in
    rw (e, z)
row-join s k (suc m) n =
    let e : k + suc m ≡ suc k + m = omega arith in
    let z : suc m + n ≡ suc (m + n) = omega arith in
    rw (e, z) (ap (◌∷◌ (nth s k)) (row-join s (suc k) m n))

-- a word outside of what was written
pub fill-below : (s : List ℕ) (k : ℕ) (vs : List ℕ) (j : ℕ) → j < k → nth (fill s k vs) j ≡ nth s j
unfolding fill
fill-below s k [] j h = refl
fill-below s k (v ∷ vs) j h = fill-below (put_nth s k v) (suc k) vs j (omega arith) ∙ nth-other s k v j (λ u. omega arith)

pub fill-above : (s : List ℕ) (k : ℕ) (vs : List ℕ) (j : ℕ) → k + length vs ≤ j → nth (fill s k vs) j ≡ nth s j
unfolding fill
fill-above s k [] j h = refl
fill-above s k (v ∷ vs) j h = fill-above (put_nth s k v) (suc k) vs j (omega arith) ∙ nth-other s k v j (λ u. omega arith)

-- the run that was written
pub row-fill : (s : List ℕ) (k : ℕ) (vs : List ℕ) → 2 * (k + length vs) ≤ length s → row (fill s k vs) k (length vs) ≡ vs
unfolding row fill
row-fill s k [] h = refl
row-fill s k (v ∷ vs) h =
    ap₂ {C = List ℕ} (λ x l. x ∷ l) (fill-below (put_nth s k v) (suc k) vs k (omega arith) ∙ nth-same s k v (omega arith))
    (row-fill (put_nth s k v) (suc k) vs (rw length-put_nth (omega arith)))

-- runs of segments that agree there, and back
pub row_same : (s t : List ℕ) (k n : ℕ) → ((j : ℕ) → k ≤ j → j < k + n → nth t j ≡ nth s j) → row t k n ≡ row s k n
unfolding row
row_same s t k zero f = refl
row_same s t k (suc n) f = ap₂ {C = List ℕ} (λ x l. x ∷ l) (f k (omega arith) (omega arith)) (row_same s t (suc k) n (λ j a b. f j (omega arith) (omega arith)))

pub row_word : (s t : List ℕ) (k n : ℕ) → row t k n ≡ row s k n → (j : ℕ) → k ≤ j → j < k + n → nth t j ≡ nth s j
unfolding row
row_word s t k zero e j a b = absurd (omega arith)
row_word s t k (suc n) e j a b = go (ℕ_discrete k j) (λ h. row_word s t (suc k) n (cc) j h (omega arith))
  where
    go : Dec (k ≡ j) → (suc k ≤ j → nth t j ≡ nth s j) → nth t j ≡ nth s j
    go (yes q) r = rw (← q) (cc)
    go (no d) r = r (omega arith)

-- a run beside what was written
pub row_other : (s : List ℕ) (k : ℕ) (vs : List ℕ) (j n : ℕ) → (j + n ≤ k) ⊎ (k + length vs ≤ j) → row (fill s k vs) j n ≡ row s j n
row_other s k vs j n (inl h) = row_same s (fill s k vs) j n (λ i a b. fill-below s k vs i (omega arith))
row_other s k vs j n (inr h) = row_same s (fill s k vs) j n (λ i a b. fill-above s k vs i (omega arith))

-- zeros written where zeros stand behind a run

put-zero : (s : List ℕ) (k : ℕ) → nth s k ≡ 0 → put_nth s k 0 ≡ s
unfolding nth put_nth
put-zero s k h =
    let high : 0 ≡ get_or s (2 * k) 0 = omega arith in
    let low : 0 ≡ get_or s (suc (2 * k)) 0 = let e : 2 * k + 1 ≡ suc (2 * k) = omega arith in omega (arith, ap (λ (i : ℕ). get_or s i 0) e) in
    ap₂ {C = List ℕ} (λ (a b : ℕ). set (set s (2 * k) a) (suc (2 * k)) b) high low
    ∙ ap (λ (ys : List ℕ). set ys (suc (2 * k)) (get_or s (suc (2 * k)) 0)) (set-get_or s (2 * k) 0) ∙ set-get_or s (suc (2 * k)) 0

pub fill-zeros : (s : List ℕ) (k : ℕ) (vs : List ℕ) (n : ℕ) → ((j : ℕ) → j < n → nth s (k + length vs + j) ≡ 0) → fill s k (vs ++ replicate n 0) ≡ fill s k vs
unfolding fill
fill-zeros s k [] zero f = refl
fill-zeros s k [] (suc n) f =
    let e : k ≡ k + 0 + 0 = omega arith in
    let z : put_nth s k 0 ≡ s = put-zero s k (ap (nth s) e ∙ f 0 (omega arith)) in
    ap (λ (ys : List ℕ). fill ys (suc k) (replicate n 0)) z
    ∙ fill-zeros s (suc k) [] n (λ j h. let d : suc k + 0 + j ≡ k + 0 + suc j = omega arith in ap (nth s) d ∙ f (suc j) (omega arith))
fill-zeros s k (v ∷ vs) n f =
    fill-zeros (put_nth s k v) (suc k) vs n
    (λ j h. let d : suc k + length vs + j ≡ k + suc (length vs) + j = omega arith in
    nth-other s k v (suc k + length vs + j) (λ u. omega arith) ∙ ap (nth s) d ∙ f j h)

-- one turn of the loops that write and read a run

pub fill-turn : (s : List ℕ) (k : ℕ) (vs : List ℕ) (i : ℕ) → i < length vs
    → fill (put_nth s (k + i) (get_or vs i 0)) (k + (i + 1)) (drop (i + 1) vs) ≡ fill s (k + i) (drop i vs)
unfolding fill
fill-turn s k vs i h = let e : k + suc i ≡ suc (k + i) = omega arith in rw (add-one i, drop-cons vs i 0 h, e)

pub row-turn : (s xs : List ℕ) (k i : ℕ) → set (sets xs 0 (row s k i)) i (nth s (k + i)) ≡ sets xs 0 (row s k (i + 1))
row-turn s xs k i = rw (add-one i, row_more s k i) (sets-at (row s k i) (nth s (k + i) ∷ []) xs 0 i (omega (arith, length-row s k i)))

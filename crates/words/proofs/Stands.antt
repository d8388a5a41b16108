-- Bytes that stand in a memory: `BytesAt xs a bs`, starting at place a, one after another; and what a store leaves alone.
use Prim.Native.Nat.{ℕ, suc, ◌+◌, ◌≤◌, ◌<◌}
use mathlib.Core.Path.{◌≡◌, refl, ◌∙◌}
use mathlib.Core.List.{List, [], ◌∷◌, ◌++◌}
use mathlib.Core.Logic.{◌⊎◌, inl, inr}
use native.Mathlib.Omega.{arith}
use native.Mathlib.Numerals.{add-one}
use lib.ListN.{length, get_or, set, take, drop, length-set}
use lib.Seq.{sets, get_or-set_same, get_or-set_other, drop-cons}
use Rattle.words.specs.Word.{word, word_at}

unfoldable pub BytesAt : List ℕ → ℕ → List ℕ → Type 0
BytesAt xs a [] = Unit {0}
BytesAt xs a (b ∷ bs) = (get_or xs a 0 ≡ b) × BytesAt xs (suc a) bs

pub join : (bs cs xs : List ℕ) (a c : ℕ) → a + length bs ≡ c → BytesAt xs a bs → BytesAt xs c cs → BytesAt xs a (bs ++ cs)
unfolding BytesAt
join [] cs xs a c e h k = let f : a ≡ c = omega arith in rw f k
join (b ∷ bs) cs xs a c e h k = (h.0, join bs cs xs (suc a) c (omega arith) h.1 k)

pub left : (bs cs xs : List ℕ) (a : ℕ) → BytesAt xs a (bs ++ cs) → BytesAt xs a bs
unfolding BytesAt
left [] cs xs a h = tt
left (b ∷ bs) cs xs a h = (h.0, left bs cs xs (suc a) h.1)

pub right : (bs cs xs : List ℕ) (a c : ℕ) → a + length bs ≡ c → BytesAt xs a (bs ++ cs) → BytesAt xs c cs
unfolding BytesAt
right [] cs xs a c e h = let f : c ≡ a = omega arith in rw f h
right (b ∷ bs) cs xs a c e h = right bs cs xs (suc a) c (omega arith) h.1

-- a store elsewhere
pub get_d_sets : (vs xs : List ℕ) (c i : ℕ) → (i < c) ⊎ (c + length vs ≤ i) → get_or (sets xs c vs) i 0 ≡ get_or xs i 0
get_d_sets [] xs c i h = refl
get_d_sets (v ∷ vs) xs c i (inl h) = get_d_sets vs (set xs c v) (suc c) i (inl (omega arith)) ∙ get_or-set_other xs c i v 0 (λ q. omega arith)
get_d_sets (v ∷ vs) xs c i (inr h) = get_d_sets vs (set xs c v) (suc c) i (inr (omega arith)) ∙ get_or-set_other xs c i v 0 (λ q. omega arith)

pub other : (bs vs xs : List ℕ) (a c : ℕ) → (a + length bs ≤ c) ⊎ (c + length vs ≤ a) → BytesAt xs a bs → BytesAt (sets xs c vs) a bs
unfolding BytesAt
other [] vs xs a c d h = tt
other (b ∷ bs) vs xs a c (inl d) h = (get_d_sets vs xs c a (inl (omega arith)) ∙ h.0, other bs vs xs (suc a) c (inl (omega arith)) h.1)
other (b ∷ bs) vs xs a c (inr d) h = (get_d_sets vs xs c a (inr d) ∙ h.0, other bs vs xs (suc a) c (inr (omega arith)) h.1)

-- what was stored stands
pub same : (vs xs : List ℕ) (a : ℕ) → a + length vs ≤ length xs → BytesAt (sets xs a vs) a vs
unfolding BytesAt
same [] xs a h = tt
same (v ∷ vs) xs a h = (
  get_d_sets vs (set xs a v) (suc a) a (inl (omega arith)) ∙ get_or-set_same xs a v 0 (omega arith),
  same vs (set xs a v) (suc a) (rw length-set (omega arith)),
)

pub word_read : (xs : List ℕ) (a w : ℕ) → BytesAt xs a (word w) → word_at xs a ≡ w
unfolding BytesAt
word_read xs a w h = rw (h.0, add-one a, h.1.0) (omega arith)

-- the part that is lent from there is those bytes
pub part-read : (bs xs : List ℕ) (a : ℕ) → a + length bs ≤ length xs → BytesAt xs a bs → take (length bs) (drop a xs) ≡ bs
unfolding BytesAt
part-read [] xs a r h = refl
part-read (b ∷ bs) xs a r h =
    rw (drop-cons xs a 0 (omega arith), h.0, part-read bs xs (suc a) (omega arith) h.1)

-- all that changed lies in the n bytes starting at a
unfoldable pub Within : List ℕ → List ℕ → ℕ → ℕ → Type 0
Within xs ys a n = (i : ℕ) → (i < a) ⊎ (a + n ≤ i) → get_or ys i 0 ≡ get_or xs i 0

pub kept : (bs xs ys : List ℕ) (b a n : ℕ) → Within xs ys a n → (b + length bs ≤ a) ⊎ (a + n ≤ b) → BytesAt xs b bs → BytesAt ys b bs
unfolding BytesAt Within
kept [] xs ys b a n w d h = tt
kept (v ∷ bs) xs ys b a n w (inl d) h = (w b (inl (omega arith)) ∙ h.0, kept bs xs ys (suc b) a n w (inl (omega arith)) h.1)
kept (v ∷ bs) xs ys b a n w (inr d) h = (w b (inr d) ∙ h.0, kept bs xs ys (suc b) a n w (inr (omega arith)) h.1)

pub within-then : (xs ys zs : List ℕ) (a n : ℕ) → Within xs ys a n → Within ys zs a n → Within xs zs a n
unfolding Within
within-then xs ys zs a n v w i d = w i d ∙ v i d

-- a run of stores inside
pub sets-within : (vs xs : List ℕ) (c a n : ℕ) → a ≤ c → c + length vs ≤ a + n → Within xs (sets xs c vs) a n
unfolding Within
sets-within vs xs c a n h k i (inl d) = get_d_sets vs xs c i (inl (omega arith))
sets-within vs xs c a n h k i (inr d) = get_d_sets vs xs c i (inr (omega arith))

-- a word that was stored is read back, and a word elsewhere is as it was
pub word_same : (xs : List ℕ) (a w : ℕ) → a + 2 ≤ length xs → word_at (sets xs a (word w)) a ≡ w
word_same xs a w h = word_read (sets xs a (word w)) a w (same (word w) xs a h)

pub word-other : (xs vs : List ℕ) (a b : ℕ) → (b + 2 ≤ a) ⊎ (a + length vs ≤ b) → word_at (sets xs a vs) b ≡ word_at xs b
word-other xs vs a b (inl h) = rw (get_d_sets vs xs a b (inl (omega arith)), get_d_sets vs xs a (b + 1) (inl (omega arith)))
word-other xs vs a b (inr h) = rw (get_d_sets vs xs a b (inr h), get_d_sets vs xs a (b + 1) (inr (omega arith)))

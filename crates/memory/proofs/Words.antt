-- Two segments that are read alike have the same words; two memories with the same words are one.
use Prim.Native.Nat.{ℕ, zero, suc, ◌+◌, ◌*◌, ◌/◌, ◌%◌, ◌≤◌, ◌<◌}
use mathlib.Core.Path.{◌≡◌, sym, ap, ◌∙◌}
use mathlib.Core.List.{List, [], ◌∷◌, map}
use native.Mathlib.Omega.{arith}
use native.Mathlib.Decide.{ℕ_discrete}
use borrow.Author.Tests.{ne_eqb}
use lib.ListN.{length, get_or}
use lib.Seq.{ext_get_or}
use Rattle.occurrences.specs.Count.{bit, count}
use Rattle.segment.specs.Layout.{link_at}
use Rattle.segment.specs.Table.{nth, row}
use Rattle.ports.specs.Lists.{Chain}
use Rattle.words.specs.Word.{Bytes}

-- one list of entries in both

pub chain_head : (s t : List ℕ) (p : ℕ) (xs : List ℕ) → Chain s p xs → Chain t p xs → nth s p ≡ nth t p
unfolding Chain
chain_head s t p [] c e = c ∙ sym e
chain_head s t p (x ∷ xs) c e = c.0 ∙ sym e.0

pub chain_link : (s t : List ℕ) (p : ℕ) (xs : List ℕ) → Chain s p xs → Chain t p xs → (z : ℕ) → 1 ≤ count z xs → nth s (link_at z) ≡ nth t (link_at z)
unfolding Chain count
chain_link s t p [] c e z h = absurd (omega arith)
chain_link s t p (x ∷ xs) c e z h = go (ℕ_discrete x z) (λ k. chain_link s t (link_at x) xs c.2 e.2 z k)
  where
    go : Dec (x ≡ z) → (1 ≤ count z xs → nth s (link_at z) ≡ nth t (link_at z)) → nth s (link_at z) ≡ nth t (link_at z)
    go (yes u) r = rw (← u) (chain_head s t (link_at x) xs c.2 e.2)
    go (no u) r = r (omega (arith, ap bit (ne_eqb x z u)))

-- what is alike on a list is alike on each of its elements
pub map_back : {B : Type 0} (f g : ℕ → B) (xs : List ℕ) → map f xs ≡ map g xs → (z : ℕ) → 1 ≤ count z xs → f z ≡ g z
unfolding count
map_back f g [] e z h = absurd (omega arith)
map_back f g (x ∷ xs) e z h = go (ℕ_discrete x z) (λ k. map_back f g xs (cc) z k)
  where
    go : Dec (x ≡ z) → (1 ≤ count z xs → f z ≡ g z) → f z ≡ g z
    go (yes u) r = rw (← u) (cc)
    go (no u) r = r (omega (arith, ap bit (ne_eqb x z u)))

pub row_back : (s t : List ℕ) (k n : ℕ) → row s k n ≡ row t k n → (j : ℕ) → k ≤ j → j < k + n → nth s j ≡ nth t j
unfolding row
row_back s t k zero e j a b = absurd (omega arith)
row_back s t k (suc n) e j a b = go (ℕ_discrete k j) (λ h. row_back s t (suc k) n (cc) j h (omega arith))
  where
    go : Dec (k ≡ j) → (suc k ≤ j → nth s j ≡ nth t j) → nth s j ≡ nth t j
    go (yes q) r = rw (← q) (cc)
    go (no d) r = r (omega arith)

-- words determine bytes
pub same-words : (n : ℕ) (s t : List ℕ) → Bytes s → Bytes t → length s ≡ 2 * n → length t ≡ 2 * n → ((k : ℕ) → k < n → nth s k ≡ nth t k) → s ≡ t
unfolding nth Bytes
same-words n s t bs bt ls lt w = ext_get_or 0 s t (ls ∙ sym lt) (λ i h. byte i (rw ls at h))
  where
    byte : (i : ℕ) → i < 2 * n → get_or s i 0 ≡ get_or t i 0
    byte i h = half (ℕ_discrete (i % 2) 0) (i / 2) (omega arith) (w (i / 2) (omega arith))
      where
        half : Dec (i % 2 ≡ 0) → (k : ℕ) → i / 2 ≡ k → nth s k ≡ nth t k → get_or s i 0 ≡ get_or t i 0
        half (yes z) k e u = let q : i ≡ 2 * k = omega arith in rw q (omega (arith, u, bs (2 * k), bs (2 * k + 1), bt (2 * k), bt (2 * k + 1)))
        half (no z) k e u = let q : i ≡ 2 * k + 1 = omega arith in rw q (omega (arith, u, bs (2 * k), bs (2 * k + 1), bt (2 * k), bt (2 * k + 1)))

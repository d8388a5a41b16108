-- Words and bytes by their number: rows of words, zeros, record buffers.
use Prim.Native.Nat.{ℕ, zero, suc, ◌+◌, ◌*◌, ◌<◌}
use mathlib.Core.Bool.{true}
use mathlib.Core.Path.{◌≡◌, refl, sym, ap, ◌∙◌}
use mathlib.Core.List.{List, [], ◌∷◌}
use native.Mathlib.Omega.{arith}
use native.Mathlib.Numerals.{unary_clauses}
use borrow.Author.Tests.{eqb-true, eq-eqb}
use lib.Dec.{eqb}
use lib.ListN.{length, get_or, drop, length-drop, replicate}
use lib.Seq.{ext_get_or, length-take-le}
use Rattle.rules.specs.Limits.{files, places, buffer_bytes}
use Rattle.rules.specs.Memories.{buffer_at}
use Rattle.rules.proofs.Split.{pick_true, pass-true}
use Rattle.segment.specs.Layout.{data_at, data_words}
use Rattle.segment.proofs.Rows.{row_at, length-row}
use Rattle.segment.specs.Table.{nth, row, data_of}
use Rattle.sound.specs.Rows.{zero_words}
use Rattle.sound.specs.Walks.{entry_word}

-- rows

pub row_is : (s : List ℕ) (k n : ℕ) (ms : List ℕ) → length ms ≡ n → ((j : ℕ) → j < n → nth s (k + j) ≡ get_or ms j 0) → row s k n ≡ ms
row_is s k n ms e h = ext_get_or 0 (row s k n) ms (length-row s k n ∙ sym e) (λ j i. let l : j < n = rw (length-row s k n) at i in row_at s k n j l ∙ h j l)

pub data-at : (s : List ℕ) (e j : ℕ) → j < data_words → get_or (data_of s e) j 0 ≡ entry_word s e j
unfolding data_of entry_word
data-at s e j h = row_at s (data_at e) data_words j h

-- all words of a row, and of an entry's data, given one by one
pub row-eight : (s : List ℕ) (k a b c d e f g h : ℕ) → nth s (k + 0) ≡ a → nth s (k + 1) ≡ b → nth s (k + 2) ≡ c → nth s (k + 3) ≡ d → nth s (k + 4) ≡ e
    → nth s (k + 5) ≡ f → nth s (k + 6) ≡ g → nth s (k + 7) ≡ h → row s k 8 ≡ a ∷ b ∷ c ∷ d ∷ e ∷ f ∷ g ∷ h ∷ []
unfolding row
row-eight s k a b c d e f g h p₀ p₁ p₂ p₃ p₄ p₅ p₆ p₇ = rw (← p₀, ← p₁, ← p₂, ← p₃, ← p₄, ← p₅, ← p₆, ← p₇) (simp unary_clauses)

pub row-nine : (s : List ℕ) (k a b c d e f g h i : ℕ) → nth s (k + 0) ≡ a → nth s (k + 1) ≡ b → nth s (k + 2) ≡ c → nth s (k + 3) ≡ d → nth s (k + 4) ≡ e
    → nth s (k + 5) ≡ f → nth s (k + 6) ≡ g → nth s (k + 7) ≡ h → nth s (k + 8) ≡ i → row s k 9 ≡ a ∷ b ∷ c ∷ d ∷ e ∷ f ∷ g ∷ h ∷ i ∷ []
unfolding row
row-nine s k a b c d e f g h i p₀ p₁ p₂ p₃ p₄ p₅ p₆ p₇ p₈ = rw (← p₀, ← p₁, ← p₂, ← p₃, ← p₄, ← p₅, ← p₆, ← p₇, ← p₈) (simp unary_clauses)

-- zeros

pub none-at : (n j : ℕ) → get_or {A = ℕ} (replicate n 0) j 0 ≡ 0
none-at zero j = refl
none-at (suc n) zero = refl
none-at (suc n) (suc j) = none-at n j

pub zero-words : (s : List ℕ) (k n : ℕ) → zero_words s k n ≡ true → (j : ℕ) → j < n → nth s (k + j) ≡ 0
unfolding zero_words
zero-words s k zero h j i = absurd (omega arith)
zero-words s k (suc n) h zero i = let e : k + 0 ≡ k = omega arith in ap (nth s) e ∙ eqb-true (nth s k) 0 (pass-true (eqb (nth s k) 0) (zero_words s (suc k) n) h).0
zero-words s k (suc n) h (suc j) i =
    let e : k + suc j ≡ suc k + j = omega arith in
    ap (nth s) e ∙ zero-words s (suc k) n (pass-true (eqb (nth s k) 0) (zero_words s (suc k) n) h).1 j (omega arith)

pub words-zero : (s : List ℕ) (k n : ℕ) → ((j : ℕ) → j < n → nth s (k + j) ≡ 0) → zero_words s k n ≡ true
unfolding zero_words
words-zero s k zero h = refl
words-zero s k (suc n) h =
    let e : k ≡ k + 0 = omega arith in
    pick_true (eqb (nth s k) 0) _ _ (eq-eqb (nth s k) 0 (ap (nth s) e ∙ h 0 (omega arith)))
    ∙ words-zero s (suc k) n (λ j i. let d : suc k + j ≡ k + suc j = omega arith in ap (nth s) d ∙ h (suc j) (omega arith))

-- record buffers

pub buffer-long : (bufs : List ℕ) → length bufs ≡ places * buffer_bytes * files → (i : ℕ) → i < files * places → length (buffer_at i bufs) ≡ buffer_bytes
buffer-long bufs size i h = length-take-le buffer_bytes (drop (buffer_bytes * i) bufs) (rw (length-drop (buffer_bytes * i) bufs) (omega arith))

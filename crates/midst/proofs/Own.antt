-- A word that is written where it stands, and a row that is written back where it holds the file already.
use Prim.Native.Nat.{ℕ, suc, ◌+◌, ◌*◌, ◌/◌, ◌%◌, ◌<◌}
use mathlib.Core.Path.{◌≡◌, refl, sym, ap, ap₂, ◌∙◌}
use mathlib.Core.List.{List, [], ◌∷◌}
use native.Mathlib.Omega.{arith}
use native.Mathlib.Numerals.{add-one}
use lib.ListN.{get_or, set}
use lib.Seq.{set-get_or}
use Rattle.words.specs.Word.{Bytes}
use Rattle.segment.specs.Layout.{file_row_at, file_width}
use Rattle.segment.specs.Table.{nth, put_nth, row, fill}
use Rattle.segment.proofs.Rows.{nth-other, row_at}
use Rattle.midst.specs.declared.File as hand
use Rattle.midst.specs.File.{file_row_words, RowStands}

-- a word that is written where it stands, its low byte being one
back : (xs : List ℕ) (k : ℕ) → get_or xs (2 * k + 1) 0 < 256 → put_nth xs k (nth xs k) ≡ xs
unfolding nth put_nth
back xs k byte =
    let high : nth xs k / 256 ≡ get_or xs (2 * k) 0 = omega arith in
    let low : nth xs k % 256 ≡ get_or xs (2 * k + 1) 0 = omega arith in
    ap₂ {C = List ℕ} (λ (a b : ℕ). set (set xs (2 * k) a) (suc (2 * k)) b) high (low ∙ ap (λ (i : ℕ). get_or xs i 0) (add-one (2 * k)))
    ∙ ap (λ (ys : List ℕ). set ys (suc (2 * k)) (get_or xs (suc (2 * k)) 0)) (set-get_or xs (2 * k) 0) ∙ set-get_or xs (suc (2 * k)) 0

module _ (xs : List ℕ) (bytes : Bytes xs) where
  pub put-own : (k : ℕ) → put_nth xs k (nth xs k) ≡ xs
  unfolding Bytes
  put-own k = back xs k (bytes (2 * k + 1))

  pub fill-own : (k v : ℕ) (vs : List ℕ) → nth xs k ≡ v → fill xs k (v ∷ vs) ≡ fill xs (suc k) vs
  unfolding fill
  fill-own k v vs e = ap (λ (ys : List ℕ). fill ys (suc k) vs) (ap (put_nth xs k) (sym e) ∙ put-own k)

  -- a word that is there already, the next word's number known by an equation
  on : (k j v : ℕ) (vs : List ℕ) → nth xs k ≡ v → suc k ≡ j → fill xs k (v ∷ vs) ≡ fill xs j vs
  on k j v vs e h = fill-own k v vs e ∙ ap (λ (i : ℕ). fill xs i vs) h

-- a 0 that is there already
zero_on : (xs : List ℕ) (k j : ℕ) (vs : List ℕ) → nth xs k ≡ 0 → suc k ≡ j → fill xs k (0 ∷ vs) ≡ fill xs j vs
unfolding nth fill
zero_on xs k j vs e h =
    ap (λ (ys : List ℕ). fill ys (suc k) vs) (ap (put_nth xs k) (sym e) ∙ back xs k (omega arith)) ∙ ap (λ (i : ℕ). fill xs i vs) h

put_on : (xs : List ℕ) (k j v : ℕ) (vs : List ℕ) → suc k ≡ j → fill xs k (v ∷ vs) ≡ fill (put_nth xs k v) j vs
unfolding fill
put_on xs k j v vs h = ap (λ (i : ℕ). fill (put_nth xs k v) i vs) h

fill_none : (xs : List ℕ) (k : ℕ) → fill xs k [] ≡ xs
unfolding fill
fill_none xs k = refl

-- three words of the row are written
module _ (xs : List ℕ) (f : ℕ) (x : hand.File) (R : RowStands xs f x) where
  word_at : (i : ℕ) → i < file_width → nth xs (file_row_at f + i) ≡ get_or (file_row_words R.file) i 0
  word_at i h = sym (row_at xs (file_row_at f) file_width i h) ∙ ap (λ (r : List ℕ). get_or r i 0) R.row

  pub ring-back : (k b s h : ℕ) (ys zs ws : List ℕ) → k ≡ file_row_at f → b ≡ x.ring.block → s ≡ x.ring.spent → h ≡ x.ring.held
      → ys ≡ put_nth xs (k + 3) b → zs ≡ put_nth ys (k + 4) s → ws ≡ put_nth zs (k + 5) h → Bytes xs → ws ≡ fill xs (file_row_at f) (file_row_words x)
  unfolding file_row_words
  ring-back k b s h ys zs ws e eb es eh first second third bytes =
      let k₀ = file_row_at f in
      let is : ws ≡ put_nth (put_nth (put_nth xs (k₀ + 3) x.ring.block) (k₀ + 4) x.ring.spent) (k₀ + 5) x.ring.held = rw (third, second, first, e, eb, es, eh) refl in
      let still : (i : ℕ) → 5 < i → i < file_width → nth ws (k₀ + i) ≡ nth xs (k₀ + i) =
      λ i l m. ap (λ (l : List ℕ). nth l (k₀ + i)) is ∙ nth-other _ _ _ _ (λ q. omega arith) ∙ nth-other _ _ _ _ (λ q. omega arith) ∙ nth-other _ _ _ _ (λ q. omega arith) in
      sym (on xs bytes k₀ (k₀ + 1) _ _ (ap (nth xs) (omega arith) ∙ word_at 0 (omega arith) ∙ R.words) (omega arith)
      ∙ on xs bytes (k₀ + 1) (k₀ + 2) _ _ (word_at 1 (omega arith) ∙ R.factor) (omega arith)
      ∙ on xs bytes (k₀ + 2) (k₀ + 3) _ _ (word_at 2 (omega arith) ∙ R.blocks) (omega arith)
      ∙ put_on xs (k₀ + 3) (k₀ + 4) _ _ (omega arith) ∙ put_on _ (k₀ + 4) (k₀ + 5) _ _ (omega arith) ∙ put_on _ (k₀ + 5) (k₀ + 6) _ _ (omega arith)
      ∙ ap (λ (l : List ℕ). fill l (k₀ + 6) (0 ∷ 0 ∷ [])) (sym is)
      ∙ zero_on ws (k₀ + 6) (k₀ + 7) _ (still 6 (omega arith) (omega arith) ∙ word_at 6 (omega arith)) (omega arith)
      ∙ zero_on ws (k₀ + 7) (k₀ + 8) _ (still 7 (omega arith) (omega arith) ∙ word_at 7 (omega arith)) (omega arith) ∙ fill_none ws (k₀ + 8))

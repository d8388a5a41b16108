-- The first operation is spent, and by a read control 47: one word of the row is written, or two, and the others as they stand.
use Prim.Native.Nat.{ℕ, suc, ◌+◌}
use mathlib.Core.Path.{◌≡◌, refl, sym, ap, ap₂, ◌∙◌}
use mathlib.Core.List.{List, [], ◌∷◌}
use native.Mathlib.Omega.{arith}
use Rattle.words.specs.Word.{Bytes}
use Rattle.segment.specs.Layout.{place_row_at, place_width}
use Rattle.segment.specs.Table.{nth, put_nth, row, fill}
use Rattle.segment.specs.Fields.{place_words, place_row_of, place_at}
use Rattle.segment.proofs.Rows.{row_at}
use Rattle.midst.proofs.Own.{put-own, fill-own}
use Rattle.transfers.specs.Rows.{begun_row, begun_segment}

module _ (xs : List ℕ) (bytes : Bytes xs) where
  stands : (k : ℕ) (vs : List ℕ) → fill xs k (nth xs k ∷ vs) ≡ fill xs (suc k) vs
  stands k vs = fill-own xs bytes k (nth xs k) vs refl

  fill-two : (k m n v : ℕ) → m ≡ k → n ≡ suc k → fill xs k (v ∷ 0 ∷ []) ≡ put_nth (put_nth xs m v) n 0
  unfolding fill
  fill-two k m n v e h = ap₂ {C = List ℕ} (λ (i j : ℕ). put_nth (put_nth xs i v) j 0) (sym e) (sym h)

  row-spent : (k v : ℕ) → v ≡ (begun_row (place_row_of (row xs k place_width))).keep
      → fill xs k (place_words (begun_row (place_row_of (row xs k place_width)))) ≡ put_nth (put_nth xs (k + 6) v) (k + 7) 0
  unfolding begun_row place_row_of place_words row
  row-spent k v e =
      stands k _ ∙ stands (suc k) _ ∙ stands (suc (suc k)) _ ∙ stands (suc (suc (suc k))) _ ∙ stands (suc (suc (suc (suc k)))) _
      ∙ stands (suc (suc (suc (suc (suc k))))) _ ∙ ap (λ (w : ℕ). fill xs (suc (suc (suc (suc (suc (suc k)))))) (w ∷ 0 ∷ [])) (sym e)
      ∙ fill-two (suc (suc (suc (suc (suc (suc k)))))) (k + 6) (k + 7) v (omega arith) (omega arith)

  begun-puts : (i k v : ℕ) → k ≡ place_row_at i → v ≡ (begun_row (place_at xs i)).keep → put_nth (put_nth xs (k + 6) v) (k + 7) 0 ≡ begun_segment xs i
  unfolding begun_segment place_at
  begun-puts i k v at kept =
      sym (row-spent k v (kept ∙ ap (λ (j : ℕ). (begun_row (place_row_of (row xs j place_width))).keep) (sym at)))
      ∙ ap (λ (j : ℕ). fill xs j (place_words (begun_row (place_row_of (row xs j place_width))))) at

  -- of a reader
  pub read-begun : {ys zs : List ℕ} {k : ℕ} (i : ℕ) → k ≡ place_row_at i → (place_at xs i).side ≡ 1 → ys ≡ put_nth xs (k + 6) 0 → zs ≡ put_nth ys (k + 7) 0 → zs ≡ begun_segment xs i
  unfolding begun_row
  read-begun {k = k} i at side first second =
      second ∙ ap (λ (l : List ℕ). put_nth l (k + 7) 0) first ∙ begun-puts i k 0 at (rw side refl)

  -- of a writer, whose control 47 is as it was
  pub write-begun : {ys : List ℕ} {k : ℕ} (i : ℕ) → k ≡ place_row_at i → (place_at xs i).side ≡ 2 → ys ≡ put_nth xs (k + 7) 0 → ys ≡ begun_segment xs i
  unfolding begun_row place_at place_row_of
  write-begun {k = k} i at side put =
      let keep : nth xs (k + 6) ≡ (place_at xs i).keep = ap (λ (j : ℕ). nth xs (j + 6)) at ∙ sym (row_at xs (place_row_at i) place_width 6 (omega arith)) in
      put ∙ ap (λ (l : List ℕ). put_nth l (k + 7) 0) (sym (put-own xs bytes (k + 6))) ∙ begun-puts i k (nth xs (k + 6)) at (rw side keep)

-- The rows of a segment that stands for a desk. And desk and allocation determine its bytes, each entry being on some list.
use Prim.Native.Nat.{ℕ, ◌+◌, ◌-◌, ◌/◌, ◌≤◌, ◌<◌}
use mathlib.Core.Path.{◌≡◌, sym, ◌∙◌}
use mathlib.Core.List.{List, map}
use native.Mathlib.Omega.{arith}
use native.Mathlib.Decide.{ℕ_discrete, dec_lt}
use Rattle.occurrences.specs.Count.{count}
use Rattle.segment.specs.Layout.{desk_places, list_count, data_words, entry_width, link_at, data_at, file_width, place_width, file_rows, place_rows, segment_words, file_row_at, place_row_at, file_row, place_row}
use Rattle.segment.specs.Table.{nth, row, data_of}
use Rattle.segment.proofs.Apart.{words-file, words-place}
use Rattle.rules.specs.Limits.{files}
use Rattle.rules.specs.Desk.{Desk, file_of}
use Rattle.rules.specs.Allocation.{Alloc}
use Rattle.memory.specs.Image.{place_acc, file_words, place_words, list_of}
use Rattle.memory.specs.Stands.{Segment}
use Rattle.memory.specs.Covers.{Covers}
use Rattle.memory.proofs.Image.{row_of-file, row_of-place}
use Rattle.memory.proofs.Words.{chain_head, chain_link, map_back, row_back, same-words}

-- the row of a file, and of a place

pub segment-file : {xs : List ℕ} {d : Desk} {s : Alloc} → Segment xs d s → (f : ℕ) → f < files → row xs (file_row_at f) file_width ≡ file_words (file_of d f)
segment-file {xs} {d} S f h = sym (words-file xs f h) ∙ S.rows (file_row f) (omega arith) ∙ row_of-file d f h

pub segment-place : {xs : List ℕ} {d : Desk} {s : Alloc} → Segment xs d s → (i : ℕ) → i < desk_places → row xs (place_row_at i) place_width ≡ place_words (place_acc d i)
segment-place {xs} {d} S i h = sym (words-place xs i) ∙ S.rows (place_row i) (omega arith) ∙ row_of-place d i

module _ (x y : List ℕ) (d : Desk) (s : Alloc) (X : Segment x d s) (Y : Segment y d s) where
  -- the words of an entry on a list
  same-entry : (e l : ℕ) → l < list_count → 1 ≤ count e (list_of d s l) → (k : ℕ) → link_at e ≤ k → k < link_at e + entry_width → nth x k ≡ nth y k
  same-entry e l h c k lo hi = go (ℕ_discrete k (link_at e))
    where
      alike : map (data_of x) (list_of d s l) ≡ map (data_of y) (list_of d s l)
      alike = X.boxes l h ∙ sym (Y.boxes l h)

      go : Dec (k ≡ link_at e) → nth x k ≡ nth y k
      go (yes q) = rw q (chain_link x y l (list_of d s l) (X.chains l h) (Y.chains l h) e c)
      go (no q) = row_back x y (data_at e) data_words (unfold data_of in map_back (data_of x) (data_of y) (list_of d s l) alike e c) k (omega arith) (omega arith)

  same_word : Covers d s → (k : ℕ) → k < segment_words → nth x k ≡ nth y k
  same_word C k h = go (dec_lt k list_count) (dec_lt k file_rows) (dec_lt k place_rows)
    where
      go : Dec (k < list_count) → Dec (k < file_rows) → Dec (k < place_rows) → nth x k ≡ nth y k
      go (yes a) b c = chain_head x y k (list_of d s k) (X.chains k a) (Y.chains k a)
      go (no a) (yes b) c =
          let e : ℕ = (k - list_count) / entry_width in
          let (l, hl, on) = C e (omega arith) in
          same-entry e l hl on k (omega arith) (omega arith)
      go (no a) (no b) (yes c) =
          let f : ℕ = (k - file_rows) / file_width in
          let low : f < files = omega arith in
          row_back x y (file_row_at f) file_width (segment-file X f low ∙ sym (segment-file Y f low)) k (omega arith) (omega arith)
      go (no a) (no b) (no c) =
          let i : ℕ = (k - place_rows) / place_width in
          let low : i < desk_places = omega arith in
          row_back x y (place_row_at i) place_width (segment-place X i low ∙ sym (segment-place Y i low)) k (omega arith) (omega arith)

  pub segment-same : Covers d s → x ≡ y
  segment-same C = same-words segment_words x y X.bytes Y.bytes X.size Y.size (same_word C)

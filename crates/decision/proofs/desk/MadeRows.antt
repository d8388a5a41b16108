-- The rows of the desk that memories say are those of the memories.
use Prim.Native.Nat.{ℕ, zero, suc, ◌+◌, ◌*◌, ◌/◌, ◌≤◌, ◌<◌}
use mathlib.Core.Bool.{true, false}
use mathlib.Core.Path.{◌≡◌, refl, sym, ap, ap₂, ◌∙◌}
use mathlib.Core.List.{List, [], ◌∷◌, ◌++◌}
use mathlib.Core.Logic.{◌⊎◌, inl, inr}
use mathlib.Core.Option.{none, some}
use native.Mathlib.Omega.{arith}
use native.Mathlib.Decide.{dec_lt}
use borrow.Author.Tests.{ne_eqb}
use lib.Dec.{eqb}
use lib.ListN.{length, get_or, take, drop, replicate, length-replicate, length-drop, get_or-eq_default}
use lib.Seq.{get_or-take, get_or-drop, length-take-le}
use Rattle.occurrences.specs.Count.{bit}
use Rattle.rules.specs.Limits.{files, places, share_bytes}
use Rattle.rules.specs.State.{Built, unbuilt, built}
use Rattle.rules.specs.Store.{used}
use Rattle.rules.specs.Requests.{writers}
use Rattle.rules.specs.Memories.{share_at}
use Rattle.rules.proofs.Split.{by_cases, pick-false}
use Rattle.segment.specs.Layout.{file_width, place_fields, place_spare, place_width, file_row_at, place_row_at, row_count, file_row, place_row, row_at, row_width}
use Rattle.segment.proofs.Apart.{words-file, words-place}
use Rattle.segment.proofs.Rows.{row-join}
use Rattle.segment.specs.Table.{row}
use Rattle.shares.specs.Groups.{All}
use Rattle.shares.specs.Laid.{GoodRec}
use Rattle.shares.specs.Back.{used_recs}
use Rattle.shares.specs.Holds.{InShare}
use Rattle.shares.specs.Sound.{store_at}
use Rattle.shares.proofs.Good.{geometry-sized}
use Rattle.shares.proofs.Sound.{sound-holds}
use Rattle.laws.specs.Room.{Roomy}
use Rattle.memory.specs.Image.{file_words, place_words, row_of}
use Rattle.words.specs.Word.{Bytes}
use Rattle.memory.proofs.Image.{row_of-file, row_of-place, each_row}
use Rattle.accessors.specs.Sides.{sides_from, count_side}
use Rattle.accessors.proofs.Counted.{writers-from}
use Rattle.sound.specs.Rows.{file_word, place_word, built_at, geo_at, side_at}
use Rattle.decision.specs.Survey.{Survey}
use Rattle.sound.specs.Sound.{files_ok}
use Rattle.decision.proofs.desk.Words.{none-at, row_is, row-eight}
use Rattle.decision.proofs.desk.MadeFacts.{BuiltRow, OpenRow, built-at, blank-at, place_at}
use Rattle.decision.proofs.desk.MadeDesk.{open_for, acc_for, built_for, desk_for}
use Rattle.decision.proofs.desk.MadeRequests.{bit_word}
use Rattle.decision.proofs.desk.MadeBase.{acc-none, file-built, file-blank, accs-at, accs-long, place-acc}

-- a share of bytes

share-bytes : (blocks : List ℕ) (f : ℕ) → Bytes blocks → Bytes (share_at f blocks)
unfolding Bytes
share-bytes blocks f b i = go (dec_lt i share_bytes)
  where
    xs : List ℕ
    xs = drop (share_bytes * f) blocks

    past : (l : List ℕ) → length (take share_bytes l) ≤ share_bytes
    past l = short share_bytes l
      where
        short : (n : ℕ) (l : List ℕ) → length (take n l) ≤ n
        short zero l = omega arith
        short (suc n) [] = omega arith
        short (suc n) (x ∷ l) = omega (arith, short n l)

    go : Dec (i < share_bytes) → get_or (take share_bytes xs) i 0 < 256
    go (yes h) = omega (arith, get_or-take share_bytes xs i 0 h, get_or-drop (share_bytes * f) blocks i 0, b (share_bytes * f + i))
    go (no h) = omega (arith, get_or-eq_default (take share_bytes xs) 0 {n = i} (omega (arith, past xs)))

share-long : (blocks : List ℕ) (f : ℕ) → length blocks ≡ share_bytes * files → f < files → length (share_at f blocks) ≡ share_bytes
share-long blocks f e h = length-take-le share_bytes (drop (share_bytes * f) blocks) (rw (length-drop (share_bytes * f) blocks) (omega arith))

module _ (s blocks bufs : List ℕ) (ls : List (List ℕ)) (bytes : Bytes blocks) (long : length blocks ≡ share_bytes * files) (ok : files_ok s blocks 0 files ≡ true) (U : Survey s ls) where
  -- the records of a built file
  module _ (f : ℕ) (h : f < files) (t : built_at s f ≡ true) where
    abbrev b : Built
    b = built_for s blocks bufs ls f

    file : BuiltRow s blocks f
    file = built-at s blocks ok f h t

    pub stored : InShare b.geo b.store × All GoodRec (used_recs b.geo b.store) × (length b.store.recs ≡ file_word s f 5)
    unfolding built_for store_at
    stored =
        sound-holds (geo_at s f) (share_at f blocks) (file_word s f 3) (file_word s f 4) (file_word s f 5) (geometry-sized (geo_at s f) file.geo.factor-low file.geo.room file.geo.share)
        (share-bytes blocks f bytes) (share-long blocks f long h) file.laid

    built-row : row s (file_row_at f) file_width ≡ file_words (built b)
    unfolding file_words built_for store_at geo_at file_word
    built-row = row-eight s (file_row_at f) _ _ _ _ _ _ _ _ refl refl refl refl refl (sym stored.2) file.six file.seven

  blank-row : (f : ℕ) → f < files → built_at s f ≡ false → row s (file_row_at f) file_width ≡ file_words unbuilt
  unfolding file_words file_word
  blank-row f h t =
      row_is s (file_row_at f) file_width (replicate file_width 0) (length-replicate {A = ℕ} file_width 0)
      (λ j k. (blank-at s blocks ok f h t).file j k ∙ sym (none-at file_width j))

  file-right : (f : ℕ) → f < files → row s (file_row_at f) file_width ≡ row_of (desk_for s blocks bufs ls) (file_row f)
  file-right f h = by_cases (built_at s f)
      (λ t. built-row f h t ∙ sym (row_of-file (desk_for s blocks bufs ls) f h ∙ ap file_words (file-built s blocks bufs ls ok U f h t)))
      (λ t. blank-row f h t ∙ sym (row_of-file (desk_for s blocks bufs ls) f h ∙ ap file_words (file-blank s blocks bufs ls ok U f h t)))

  -- a place
  module _ (i : ℕ) (h : i < files * places) where
    none_row : ((j : ℕ) → j < place_width → place_word s i j ≡ 0) → row s (place_row_at i) place_width ≡ place_words (acc_for s bufs ls i)
    unfolding place_words place_word side_at
    none_row z =
        row_is s (place_row_at i) place_width (replicate place_width 0) (length-replicate {A = ℕ} place_width 0) (λ j k. z j k ∙ sym (none-at place_width j))
        ∙ sym (ap place_words (acc-none s blocks bufs ls ok U i h (z 0 (omega arith))))

    side-word : OpenRow s i → side_at s i ≡ 1 + bit (eqb (side_at s i) 2)
    side-word o = go o.side
      where
        go : ((side_at s i ≡ 1) × (place_word s i 1 ≡ 0)) ⊎ ((side_at s i ≡ 2) × (1 ≤ place_word s i 1)) → side_at s i ≡ 1 + bit (eqb (side_at s i) 2)
        go (inl (u, v)) = rw u refl
        go (inr (u, v)) = rw u refl

    pub acc-some : (side_at s i ≡ 0 → ⊥) → acc_for s bufs ls i ≡ some (open_for s bufs ls i)
    unfolding acc_for
    acc-some n = pick-false (eqb (side_at s i) 0) none (some (open_for s bufs ls i)) (ne_eqb (side_at s i) 0 n)

    some-row : (side_at s i ≡ 0 → ⊥) → OpenRow s i → row s (place_row_at i) place_width ≡ place_words (acc_for s bufs ls i)
    unfolding place_words open_for place_word side_at
    some-row n o =
        row-join s (place_row_at i) place_fields place_spare
        ∙ ap₂ {C = List ℕ} ◌++◌
        (row-eight s (place_row_at i) _ _ _ _ _ _ _ _ (side-word o) refl refl refl (sym (bit_word (place_word s i 4) o.extended)) (sym (bit_word (place_word s i 5) o.typed))
        (sym (bit_word (place_word s i 6) o.keep)) (sym (bit_word (place_word s i 7) o.first)))
        (row_is s (place_row_at i + place_fields) place_spare (replicate place_spare 0) (length-replicate {A = ℕ} place_spare 0) (λ j k. o.spare j k ∙ sym (none-at place_spare j)))
        ∙ sym (ap place_words (acc-some n))

    place-row : row s (place_row_at i) place_width ≡ place_words (acc_for s bufs ls i)
    place-row = go (place_at s blocks ok i h)
      where
        go : ((j : ℕ) → j < place_width → place_word s i j ≡ 0) ⊎ ((side_at s i ≡ 0 → ⊥) × (built_at s (i / places) ≡ true) × OpenRow s i)
            → row s (place_row_at i) place_width ≡ place_words (acc_for s bufs ls i)
        go (inl z) = none_row z
        go (inr (n, t, o)) = some-row n o

    place-right : row s (place_row_at i) place_width ≡ row_of (desk_for s blocks bufs ls) (place_row i)
    place-right = place-row ∙ sym (row_of-place (desk_for s blocks bufs ls) i ∙ ap place_words (place-acc s blocks bufs ls ok U i h))

  pub rows_right : (i : ℕ) → i < row_count → row s (row_at i) (row_width i) ≡ row_of (desk_for s blocks bufs ls) i
  rows_right =
      each_row (λ i. row s (row_at i) (row_width i) ≡ row_of (desk_for s blocks bufs ls) i) (λ f h. words-file s f h ∙ file-right f h) (λ i h. words-place s i ∙ place-right i h)

  -- the room of a built file
  module _ (f : ℕ) (h : f < files) (t : built_at s f ≡ true) where
    writers-is : count_side s f 2 ≡ writers (b f h t)
    unfolding writers
    writers-is =
        ap (λ (n : ℕ). sides_from s 2 (places * f) n) (sym (accs-long s blocks bufs ls ok U f h))
        ∙ writers-from s (places * f) (b f h t).accs
        (λ p k. let l : p < places = omega (arith, accs-long s blocks bufs ls ok U f h) in
        rw (accs-at s blocks bufs ls ok U f h p l) (place-row (places * f + p) (omega arith)))

    used-is : used (b f h t).store ≡ file_word s f 4 + file_word s f 5
    unfolding used built_for store_at
    used-is = ap (λ (n : ℕ). file_word s f 4 + n) (stored f h t).2

    pub roomy : Roomy (b f h t)
    unfolding built_for
    roomy =
        record {
          geo = (file f h t).geo;
          holds = (stored f h t).0;
          places = omega (arith, writers-is, used-is, (file f h t).few);
          one_more = omega (arith, writers-is, (file f h t).one_more);
        }

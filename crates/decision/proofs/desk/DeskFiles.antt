-- The files of memories that stand for a desk pass the test.
use Prim.Native.Nat.{ℕ, zero, suc, ◌+◌, ◌*◌, ◌/◌, ◌%◌, ◌<◌}
use mathlib.Core.Bool.{true, false}
use mathlib.Core.Path.{◌≡◌, refl, sym, ap, ◌∙◌}
use mathlib.Core.List.{List}
use mathlib.Core.Option.{none}
use native.Mathlib.Omega.{arith}
use borrow.Author.Tests.{eq-eqb, le-leb}
use lib.ListN.{length, get_or}
use Rattle.rules.specs.Limits.{files, places, room_words, most_factor, least_capacity, share_words}
use Rattle.rules.specs.Geometry.{capacity, block_size, within}
use Rattle.rules.specs.State.{Geo, Built, File, unbuilt, built}
use Rattle.rules.specs.Store.{used}
use Rattle.rules.specs.Requests.{writers, acc_at}
use Rattle.rules.specs.Desk.{Desk, file_of}
use Rattle.rules.specs.Allocation.{Alloc}
use Rattle.rules.specs.Memories.{share_at}
use Rattle.rules.proofs.Split.{true-and, pick_true, pick-false}
use Rattle.segment.specs.Layout.{file_width, place_width, file_row_at, place_row_at}
use Rattle.segment.specs.Table.{nth}
use Rattle.shares.specs.Sound.{sound}
use Rattle.shares.proofs.Good.{geometry-sized}
use Rattle.shares.proofs.Sound.{holds-sound}
use Rattle.laws.specs.Runs.{OnFile}
use Rattle.laws.specs.Changes.{GoodGeo}
use Rattle.laws.specs.Entries.{accs_of}
use Rattle.memory.specs.Memories.{memories}
use Rattle.memory.specs.Image.{acc_of, place_acc, file_words, place_words}
use Rattle.memory.specs.Stands.{buffers_at, FileBytes}
use Rattle.memory.specs.Fine.{Fine, StandsFor}
use Rattle.memory.proofs.Image.{place_acc-at}
use Rattle.accessors.specs.Sides.{sides_from, count_side}
use Rattle.accessors.proofs.Counted.{writers-from}
use Rattle.sound.specs.Rows.{file_word, place_word, built_at, geo_at, good_geo, unbuilt_ok}
use Rattle.sound.specs.Sound.{built_ok, file_ok, files_ok}
use Rattle.segment.proofs.Rows.{row_at}
use Rattle.decision.proofs.desk.Words.{none-at, words-zero}
use Rattle.decision.proofs.desk.DeskRows.{Rowed, place_ok_lem, places-ok, rowed-row}
use Rattle.memory.proofs.Segments.{segment-file, segment-place}

good-geo : (g : Geo) → GoodGeo g → good_geo g ≡ true
unfolding good_geo within
good-geo g G =
    true-and _ _ (true-and _ _ (true-and _ _ (true-and _ _ (le-leb 1 g.words G.words-low) (le-leb g.words room_words G.words-high))
    (true-and _ _ (le-leb 1 g.factor G.factor-low) (le-leb g.factor most_factor G.factor-high)))
    (le-leb least_capacity (capacity g.factor g.blocks) G.room))
    (le-leb (g.blocks * block_size g.words g.factor) share_words G.share)

-- file f has the row of x
abbrev pub Filed : List ℕ → ℕ → File → Type 0
Filed s f x = (j : ℕ) → j < file_width → file_word s f j ≡ get_or (file_words x) j 0

module _ (s blocks : List ℕ) (f : ℕ) where
  module _ (b : Built) (F : Fine b) (eight : length b.accs ≡ places) (r : Filed s f (built b)) (rs : (p : ℕ) → p < places → Rowed s (places * f + p) (acc_at b p))
      (share : share_at f blocks ≡ b.store.share) where
    geo-is : geo_at s f ≡ b.geo
    unfolding geo_at file_words
    geo-is = rw (r 0 (omega arith), r 1 (omega arith), r 2 (omega arith))

    room-is : capacity (geo_at s f).factor (geo_at s f).blocks ≡ capacity b.geo.factor b.geo.blocks
    room-is = ap (λ (g : Geo). capacity g.factor g.blocks) geo-is

    writers-is : count_side s f 2 ≡ writers b
    unfolding writers
    writers-is =
        ap (λ (n : ℕ). sides_from s 2 (places * f) n) (sym eight)
        ∙ writers-from s (places * f) b.accs (λ p h. rowed-row s (places * f + p) _ (unfold acc_at in rs p (omega (arith, eight))))

    block-is : file_word s f 3 ≡ b.store.block
    unfolding file_words
    block-is = r 3 (omega arith)

    spent-is : file_word s f 4 ≡ b.store.spent
    unfolding file_words
    spent-is = r 4 (omega arith)

    held-is : file_word s f 5 ≡ length b.store.recs
    unfolding file_words
    held-is = r 5 (omega arith)

    pub built-is : built_at s f ≡ true
    unfolding built_at file_words
    built-is = le-leb 1 (file_word s f 0) (omega (arith, r 0 (omega arith), F.room.geo.words-low))

    sound-is : sound (geo_at s f) (share_at f blocks) (file_word s f 3) (file_word s f 4) (file_word s f 5) ≡ true
    sound-is =
        rw (geo-is, share, block-is, spent-is, held-is)
        (holds-sound b.geo b.store (geometry-sized b.geo F.room.geo.factor-low F.room.geo.room F.room.geo.share) F.room.holds F.records)

    built-ok : built_ok s blocks f ≡ true
    unfolding built_ok
    built-ok =
        true-and _ _ (true-and _ _ (true-and _ _ (true-and _ _ (true-and _ _ (true-and _ _ (ap good_geo geo-is ∙ good-geo b.geo F.room.geo)
        (eq-eqb (file_word s f 6) 0 (unfold file_words in r 6 (omega arith)))) (eq-eqb (file_word s f 7) 0 (unfold file_words in r 7 (omega arith))))
        (places-ok s (places * f) places (λ p h. place_ok_lem s (places * f + p) (acc_at b p) (rs p h) (λ a e. F.sides p a e))))
        (le-leb (file_word s f 4 + file_word s f 5 + count_side s f 2) (capacity (geo_at s f).factor (geo_at s f).blocks)
        (unfold used in omega (arith, spent-is, held-is, writers-is, room-is, F.room.places))))
        (le-leb (count_side s f 2 + 1) (capacity (geo_at s f).factor (geo_at s f).blocks) (omega (arith, writers-is, room-is, F.room.one_more))))
        sound-is

    pub file-built : file_ok s blocks f ≡ true
    unfolding file_ok
    file-built = pick_true (built_at s f) _ _ built-is ∙ built-ok

  module _ (r : Filed s f unbuilt) (rs : (p : ℕ) → p < places → Rowed s (places * f + p) none) where
    zero-at : (j : ℕ) → j < file_width → file_word s f j ≡ 0
    unfolding file_words
    zero-at j h = r j h ∙ none-at file_width j

    pub unbuilt-is : built_at s f ≡ false
    unfolding built_at
    unbuilt-is = rw (zero-at 0 (omega arith)) refl

    place-zero : (p j : ℕ) → p < places → j < place_width → nth s (place_row_at (places * f + p) + j) ≡ 0
    unfolding place_words place_word
    place-zero p j h k = rs p h j k ∙ none-at place_width j

    pub file-unbuilt : file_ok s blocks f ≡ true
    unfolding file_ok unbuilt_ok file_word
    file-unbuilt =
        pick-false (built_at s f) _ _ unbuilt-is
        ∙ true-and _ _ (words-zero s (file_row_at f) file_width zero-at)
        (words-zero s (place_row_at (places * f)) (places * place_width)
        (λ j h. let e : place_row_at (places * f) + j ≡ place_row_at (places * f + j / place_width) + j % place_width = omega arith in
        ap (nth s) e ∙ place-zero (j / place_width) (j % place_width) (omega arith) (omega arith)))

pub files-ok : (s blocks : List ℕ) (f n : ℕ) → ((g : ℕ) → g < n → file_ok s blocks (f + g) ≡ true) → files_ok s blocks f n ≡ true
unfolding files_ok
files-ok s blocks f zero h = refl
files-ok s blocks f (suc n) h =
    let e : f ≡ f + 0 = omega arith in
    pick_true (file_ok s blocks f) _ _ (ap (file_ok s blocks) e ∙ h 0 (omega arith))
    ∙ files-ok s blocks (suc f) n (λ g k. let d : suc f + g ≡ f + suc g = omega arith in ap (file_ok s blocks) d ∙ h (suc g) (omega arith))

module _ (s blocks bufs : List ℕ) (d : Desk) (a : Alloc) (S : StandsFor (memories s blocks bufs) d a) where
  pub file-row : (f : ℕ) → f < files → Filed s f (file_of d f)
  unfolding file_word
  file-row f h j k = sym (row_at s (file_row_at f) file_width j k) ∙ ap (λ (l : List ℕ). get_or l j 0) (segment-file S.stands.segment f h)

  pub place-row : (i : ℕ) → i < files * places → Rowed s i (place_acc d i)
  unfolding place_word
  place-row i h j k = sym (row_at s (place_row_at i) place_width j k) ∙ ap (λ (l : List ℕ). get_or l j 0) (segment-place S.stands.segment i h)

  pub acc-row : (f p : ℕ) → f < files → p < places → Rowed s (places * f + p) (acc_of (file_of d f) p)
  acc-row f p h k = rw (place_acc-at d f p k) at (place-row (places * f + p) (omega arith))

  file-ok : (f : ℕ) → (x : File) → OnFile Fine x → length (accs_of x) ≡ places → Filed s f x → ((p : ℕ) → p < places → Rowed s (places * f + p) (acc_of x p))
      → FileBytes x (share_at f blocks) (buffers_at f bufs) → file_ok s blocks f ≡ true
  unfolding OnFile accs_of acc_of FileBytes
  file-ok f unbuilt F e r rs b = file-unbuilt s blocks f r rs
  file-ok f (built c) F e r rs b = file-built s blocks f c F e r rs b.0

  pub files-pass : files_ok s blocks 0 files ≡ true
  files-pass = files-ok s blocks 0 files each
    where
      each : (g : ℕ) → g < files → file_ok s blocks (0 + g) ≡ true
      each g h =
          let e : 0 + g ≡ g = omega arith in
          rw e (file-ok g (file_of d g) (S.fine g h) (S.agreed.agrees g h).eight (file-row g h) (λ p k. acc-row g p h k) (S.stands.bodies.each g h))

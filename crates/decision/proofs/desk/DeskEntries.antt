-- An entry that holds a request, or a timer, of a desk passes the test of its list.
use Prim.Native.Nat.{ℕ, ◌+◌, ◌*◌, ◌/◌, ◌≤◌, ◌<◌}
use mathlib.Core.Bool.{Bool, true, false}
use mathlib.Core.Path.{◌≡◌, refl, sym, ap, ◌∙◌}
use mathlib.Core.List.{List}
use mathlib.Core.Option.{some}
use native.Mathlib.Omega.{arith}
use lib.ListN.{length, get_or, take, drop, replicate}
use lib.Seq.{get_or-take, get_or-drop}
use Rattle.occurrences.specs.Count.{bit}
use Rattle.occurrences.proofs.Counts.{bit_le}
use Rattle.rules.specs.Limits.{files, places, buffer_bytes}
use Rattle.rules.specs.State.{Wanted, Offered, Brought, Wrote, reading, writing, read_done, write_done, Acc, Timer}
use Rattle.segment.specs.Layout.{data_at, data_words}
use Rattle.segment.specs.Table.{nth, data_of}
use Rattle.segment.specs.Fields.{waiting_read, waiting_write, completed_request, entry_words}
use Rattle.laws.specs.Bounds.{least_refusal}
use Rattle.laws.specs.Sides.{Fitting, Sided}
use Rattle.memory.specs.Image.{req_words, timer_words}
use Rattle.sound.specs.Rows.{file_word, side_at, zero_words}
use Rattle.sound.specs.Walks.{entry_word, place_in, size_in, free_entry}
use Rattle.decision.specs.Survey.{ReadEntry, WriteEntry, PortEntry, TimerEntry}
use Rattle.decision.proofs.desk.Words.{none-at, data-at, words-zero}
use Rattle.decision.proofs.desk.DeskRows.{Rowed, some-side}

-- entry e holds the words m
module _ (s : List ℕ) (e : ℕ) (m : List ℕ) (q : data_of s e ≡ m) where
  pub word_in : (j : ℕ) → j < data_words → entry_word s e j ≡ get_or m j 0
  word_in j h = sym (data-at s e j h) ∙ ap (λ (l : List ℕ). get_or l j 0) q

  pub place-in : place_in s e ≡ get_or m 0 0
  unfolding place_in
  place-in = word_in 0 (omega arith)

  pub size_in_lem : size_in s e ≡ get_or m 6 0
  unfolding size_in
  size_in_lem = word_in 6 (omega arith)

  pub zeros-in : (k n : ℕ) → k + n ≤ data_words → take n (drop k m) ≡ replicate n 0 → zero_words s (data_at e + k) n ≡ true
  unfolding entry_word
  zeros-in k n h z = words-zero s (data_at e + k) n word
    where
      word : (j : ℕ) → j < n → nth s (data_at e + k + j) ≡ 0
      word j l =
          let d : data_at e + k + j ≡ data_at e + (k + j) = omega arith in
          ap (nth s) d ∙ word_in (k + j) (omega arith) ∙ sym (get_or-drop k m j 0) ∙ sym (get_or-take n (drop k m) j 0 l)
          ∙ ap (λ (l : List ℕ). get_or l j 0) z ∙ none-at n j

pub free-entry : (s : List ℕ) (e : ℕ) → data_of s e ≡ replicate data_words 0 → free_entry s e ≡ true
unfolding free_entry
free-entry s e q = let d : data_at e ≡ data_at e + 0 = omega arith in ap (λ (k : ℕ). zero_words s k data_words) d ∙ zeros-in s e (replicate data_words 0) q 0 data_words (omega arith) refl

pub timer-entry : (s : List ℕ) (e : ℕ) (t : Timer) → t.place < files * places → data_of s e ≡ timer_words t → TimerEntry s e × (place_in s e ≡ t.place) × (entry_word s e 7 ≡ t.left)
unfolding timer_words place_in entry_words
timer-entry s e t h q = (
  record {
    place = omega (arith, word_in s e _ q 0 (omega arith));
    middle = zeros-in s e _ q 1 6 (omega arith) refl;
    rest = word_in s e _ q 8 (omega arith);
  },
  word_in s e _ q 0 (omega arith),
  word_in s e _ q 7 (omega arith),
)

-- the request of accessor a, at place p of file f
module _ (s : List ℕ) (i e : ℕ) (h : i < files * places) (a : Acc) (sided : Sided a) (r : Rowed s i (some a)) (holds : data_of s e ≡ req_words i a.req) where
  pub reader-side : a.writer ≡ false → side_at s i ≡ 1
  reader-side u = some-side s i a r ∙ ap (λ (t : Bool). 1 + bit t) u

  pub writer-side : a.writer ≡ true → side_at s i ≡ 2
  writer-side u = some-side s i a r ∙ ap (λ (t : Bool). 1 + bit t) u

  pub read-entry : (f : ℕ) (x : Wanted) → i / places ≡ f → a.req ≡ reading x → x.limit ≤ buffer_bytes → ReadEntry s f e × (place_in s e ≡ i)
  unfolding req_words Fitting entry_words
  read-entry f x g u b =
      let q : data_of s e ≡ entry_words (waiting_read i (bit x.by_words) x.limit (bit x.keep)) = holds ∙ ap (req_words i) u in
      let pl : place_in s e ≡ i = place-in s e _ q in
      let sd : a.writer ≡ false = rw u at sided.request in (
        record {
          place = omega (arith, pl);
          file = ap (λ (j : ℕ). j / places) pl ∙ g;
          side = ap (side_at s) pl ∙ reader-side sd;
          unit = omega (arith, word_in s e _ q 1 (omega arith), bit_le x.by_words);
          limit = omega (arith, word_in s e _ q 2 (omega arith));
          keep = omega (arith, word_in s e _ q 3 (omega arith), bit_le x.keep);
          rest = zeros-in s e _ q 4 5 (omega arith) refl;
        },
        pl,
      )

  pub write-entry : (f words : ℕ) (x : Offered) → i / places ≡ f → a.req ≡ writing x → length x.bytes ≤ 2 * words → file_word s f 0 ≡ words
      → WriteEntry s f e × (place_in s e ≡ i)
  unfolding req_words Fitting entry_words
  write-entry f words x g u b fw =
      let q : data_of s e ≡ entry_words (waiting_write i (bit x.by_words) (length x.bytes)) = holds ∙ ap (req_words i) u in
      let pl : place_in s e ≡ i = place-in s e _ q in
      let sz : size_in s e ≡ length x.bytes = size_in_lem s e _ q in
      let sd : a.writer ≡ true = rw u at sided.request in (
        record {
          place = omega (arith, pl);
          file = ap (λ (j : ℕ). j / places) pl ∙ g;
          side = ap (side_at s) pl ∙ writer-side sd;
          unit = omega (arith, word_in s e _ q 1 (omega arith), bit_le x.by_words);
          middle = zeros-in s e _ q 2 4 (omega arith) refl;
          size = omega (arith, sz, fw);
          rest = zeros-in s e _ q 7 2 (omega arith) refl;
        },
        pl,
      )

  pub read_done_lem : (x : Brought) → a.req ≡ read_done x → length x.bytes ≤ buffer_bytes → x.status < least_refusal → PortEntry s i e
  unfolding req_words Fitting entry_words
  read_done_lem x u b n =
      let q : data_of s e ≡ entry_words (completed_request i x.status x.log (length x.bytes)) = holds ∙ ap (req_words i) u in
      let pl : place_in s e ≡ i = place-in s e _ q in
      let sz : size_in s e ≡ length x.bytes = size_in_lem s e _ q in
      let sd : side_at s i ≡ 1 = reader-side (rw u at sided.request) in
      record {
        place = pl;
        side = omega (arith, sd);
        middle = zeros-in s e _ q 1 3 (omega arith) refl;
        status = omega (arith, word_in s e _ q 4 (omega arith));
        size = rw (sd, sz) b;
        rest = zeros-in s e _ q 7 2 (omega arith) refl;
      }

  pub write_done_lem : (x : Wrote) → a.req ≡ write_done x → x.status < least_refusal → PortEntry s i e
  unfolding req_words Fitting entry_words
  write_done_lem x u n =
      let q : data_of s e ≡ entry_words (completed_request i x.status x.log 0) = holds ∙ ap (req_words i) u in
      let pl : place_in s e ≡ i = place-in s e _ q in
      let sz : size_in s e ≡ 0 = size_in_lem s e _ q in
      let sd : side_at s i ≡ 2 = writer-side (rw u at sided.request) in
      record {
        place = pl;
        side = omega (arith, sd);
        middle = zeros-in s e _ q 1 3 (omega arith) refl;
        status = omega (arith, word_in s e _ q 4 (omega arith));
        size = rw (sd, sz) (omega arith);
        rest = zeros-in s e _ q 7 2 (omega arith) refl;
      }

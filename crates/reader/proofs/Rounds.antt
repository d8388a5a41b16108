-- A round of a loop over a sheet's records: next_frame has handed out a frame, and it stands in the memory.
use Prim.Native.Nat.{ℕ, ◌+◌, ◌-◌, ◌*◌, ◌≤◌, ◌<◌}
use mathlib.Core.Bool.{Bool, true, false}
use mathlib.Core.List.{List, ◌∷◌, ◌++◌}
use mathlib.Core.Path.{◌≡◌, sym, ap, ◌∙◌}
use native.Mathlib.Omega.{arith}
use lib.Dec.{eqb}
use lib.ListN.{length, take, drop, length-drop, get_or-append}
use lib.Seq.{sets, sets-eq, take_at, drop-append-le}
use Rattle.words.specs.Word.{word_at}
use Rattle.rules.specs.Limits.{most_type}
use Rattle.rules.specs.State.{Rec}
use Rattle.rules.specs.Sheet.{good_rec, rec_of}
use Rattle.rules.proofs.Split.{bothc}
use Rattle.reader.specs.Frames.{frame_at, next_at, rec_in}
use Rattle.reader.specs.Sheets.{most_size, recs_from, good_from}
use Rattle.reader.proofs.Frames.{frame-read}
use Rattle.reader.proofs.Records.{rec-good, recs-step, from_step, from-bad, good-step}

word-front : (xs ys : List ℕ) (a : ℕ) → a + 2 ≤ length xs → word_at (xs ++ ys) a ≡ word_at xs a
word-front xs ys a h = rw (get_or-append xs ys 0 a (omega arith), get_or-append xs ys 0 (a + 1) (omega arith))

rec-front : (fr zs : List ℕ) (size : ℕ) → size ≡ length fr → 4 ≤ size → size ≤ length zs → rec_in (sets zs 0 fr) size ≡ rec_of fr
unfolding rec_of
rec-front fr zs size e h k =
    let q = drop (0 + length fr) zs in
    let l : length (drop 4 fr) ≡ size - 4 = length-drop 4 fr ∙ omega arith in
    rw (sets-eq fr zs 0 (omega arith), word-front fr q 0 (omega arith), word-front fr q 2 (omega arith), drop-append-le 4 fr q (omega arith), take_at (drop 4 fr) q (size - 4) l)

pub size-most : (r typ : ℕ) → most_size r typ ≤ 4 + 2 * r
unfolding most_size
size-most r typ = bothc (λ (x : ℕ). x ≤ 4 + 2 * r) (eqb typ 0) (λ _. omega arith) (λ _. omega arith)

-- the next of good records lies in the first `n` bytes of the memory, and those after it are good
pub record Handed (r : ℕ) (t frame : List ℕ) (at left n : ℕ) : Type 0 where
  pub long : 4 ≤ n
  pub short : n ≤ 4 + 2 * r
  pub size : n ≤ most_size r (word_at frame 0)
  pub typ : word_at frame 0 ≤ most_type
  pub wid : 1 ≤ word_at frame 2
  pub recs : recs_from t at left ≡ rec_in frame n ∷ recs_from t (next_at t at) (left - 1)
  pub good : good_from r t (next_at t at) (left - 1) ≡ true

module _ (r : ℕ) (t zs frame : List ℕ) (at left n : ℕ) (some_left : 0 < left) (e : n ≡ length (frame_at t at)) (f : frame ≡ sets zs 0 (frame_at t at)) (h : n ≤ length zs) where
  good-read : {b x : Bool} → b ≡ good_rec r (take n frame) → b ≡ x → good_rec r (frame_at t at) ≡ x
  good-read k g = sym (ap (λ (l : List ℕ). good_rec r l) (frame-read t zs frame at n e f h)) ∙ sym k ∙ g

  pub round-on : {b : Bool} → b ≡ good_rec r (take n frame) → b ≡ true → good_from r t at left ≡ good_from r t (next_at t at) (left - 1)
  round-on k g = from_step r t at left some_left (good-read k g)

  pub round-bad : {b : Bool} → b ≡ good_rec r (take n frame) → b ≡ false → good_from r t at left ≡ false
  round-bad k g = from-bad r t at left some_left (good-read k g)

  -- the next record is handed out, if the records are known to be good
  pub handed : good_from r t at left ≡ true → Handed r t frame at left n
  unfolding rec_of
  handed g =
      let p = good-step r t at left some_left g in
      let q = rec-good r (frame_at t at) p.0 in
      let i : rec_in frame n ≡ rec_of (frame_at t at) = rw f (rec-front (frame_at t at) zs n e (omega arith) h) in
      let y : word_at frame 0 ≡ word_at (frame_at t at) 0 = ap (λ (x : Rec). x.typ) i in
      let w : word_at frame 2 ≡ word_at (frame_at t at) 2 = ap (λ (x : Rec). x.wid) i in
      record {
        long = omega arith;
        short = omega (arith, size-most r (word_at (frame_at t at) 0));
        size = rw (y, e) q.3;
        typ = rw y q.1;
        wid = rw w q.2;
        recs = recs-step t at left some_left ∙ rw (← i);
        good = p.1;
      }

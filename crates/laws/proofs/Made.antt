-- What a call makes of a file that is not built: nothing, a new file of a good geometry, or one with the records of a good sheet.
use mathlib.Core.Path.{◌≡◌, subst}
use mathlib.Core.Bool.{Bool, true, false, cond, ◌&&◌}
use mathlib.Core.List.{List, [], ◌∷◌, map}
use mathlib.Core.Option.{Option, none, some}
use Prim.Native.Nat.{ℕ, ◌+◌, ◌-◌, ◌*◌, ◌≤◌}
use native.Mathlib.Omega.{arith}
use native.Mathlib.Nat.{le_trans, mul-le-mul_left, mul_comm}
use lib.Dec.{leb, eqb}
use lib.ListN.{length, get_or, drop, length-map, length-drop, drop_of_length-le}
use borrow.Author.Tests.{leb-true, ne_eqb}
use Rattle.words.specs.Word.{word_at}
use Rattle.rules.specs.Limits.{most_words, most_factor, most_share, least_capacity, most_type}
use Rattle.rules.specs.Geometry.{divided_up, data_blocks, capacity, block_size, within, in_range, fits_share}
use Rattle.rules.specs.State.{Geo}
use Rattle.rules.specs.Reply.{Reply, shows, Out, leaves, answering, unmade}
use Rattle.rules.specs.Store.{empty_store}
use Rattle.rules.specs.Open.{geo_of, new_file, build}
use Rattle.rules.specs.Sheet.{Sheet, good_head, good_rec, good_recs, rec_of, frames_sheet, read_sheet, all_lines, loaded, load}
use Rattle.rules.specs.Line.{lines_of}
use Rattle.rules.specs.Calls.{Ask, ask_unbuilt}
use Rattle.rules.specs.Calls as calls
use Rattle.rules.proofs.Split.{both, and_left, and_right}
use Rattle.rules.proofs.Fits.{words-fit, share-fits}
use Rattle.shares.specs.Groups.{All}
use Rattle.shares.specs.Laid.{GoodRec}
use Rattle.shares.proofs.Good.{divided_up-most}
use Rattle.laws.specs.Changes.{GoodGeo, GoodRecs, GoodSheet}

-- what build makes is a good geometry

record InRange (r b n x : ℕ) : Type 0 where
  words-low : 1 ≤ r
  words-high : r ≤ most_words
  factor-low : 1 ≤ b
  factor-high : b ≤ most_factor
  records-low : 1 ≤ n
  extents-low : 1 ≤ x

in-range : (r b n x : ℕ) → in_range r b n x ≡ true → InRange r b n x
unfolding in_range within
in-range r b n x e =
    record {
      words-low = leb-true 1 r (search (and_left, and_right));
      words-high = leb-true r most_words (search (and_left, and_right));
      factor-low = leb-true 1 b (search (and_left, and_right));
      factor-high = leb-true b most_factor (search (and_left, and_right));
      records-low = leb-true 1 n (search (and_left, and_right));
      extents-low = leb-true 1 x (search (and_left, and_right));
    }

built-good : (r b n x : ℕ) → in_range r b n x ≡ true → fits_share r b (data_blocks n b x) ≡ true → GoodGeo (geo_of r b (data_blocks n b x))
unfolding geo_of fits_share data_blocks capacity
built-good r b n x e f =
    let i = in-range r b n x e in
    let k : ℕ = divided_up (n + 2) b in
    let h₁ : n + 2 ≤ k * b = divided_up-most (n + 2) b i.factor-low in
    let h₂ : k + 1 ≤ divided_up (k + 1) x * x = divided_up-most (k + 1) x i.extents-low in
    let h₃ : b * k ≤ b * (divided_up (k + 1) x * x - 1) = mul-le-mul_left b (omega arith) in
    record {
      words-low = i.words-low;
      words-high = le_trans i.words-high words-fit;
      factor-low = i.factor-low;
      factor-high = i.factor-high;
      room = omega (arith, i.records-low, mul_comm k b);
      share = le_trans (leb-true _ most_share f) share-fits;
    }

-- what load reads is a good sheet

good-rec : (words : ℕ) (fr : List ℕ) → good_rec words fr ≡ true → GoodRec (rec_of fr) × (length (rec_of fr).body ≤ 2 * words)
unfolding good_rec rec_of
good-rec words fr e =
    let t : leb (word_at fr 0) most_type ≡ true = search (and_left, and_right) in
    let i : leb 1 (word_at fr 2) ≡ true = search (and_left, and_right) in
    let l : leb (length fr) (cond (eqb (word_at fr 0) 0) (4 + 2 * words) 4) ≡ true = search (and_left, and_right) in
    let k : length fr ≤ cond (eqb (word_at fr 0) 0) (4 + 2 * words) 4 = leb-true _ _ l in
    (record { kind = leb-true _ most_type t; from = leb-true 1 _ i; bare = λ z. drop_of_length-le fr (rw (ne_eqb (word_at fr 0) 0 z) at k) }, short (eqb (word_at fr 0) 0) k)
  where
    short : (t : Bool) → length fr ≤ cond t (4 + 2 * words) 4 → length (drop 4 fr) ≤ 2 * words
    short true h = omega (arith, length-drop 4 fr)
    short false h = omega (arith, length-drop 4 fr)

good-recs : (words : ℕ) (fs : List (List ℕ)) → good_recs words fs ≡ true → GoodRecs words (map rec_of fs)
unfolding good_recs GoodRecs All
good-recs words [] e = tt
good-recs words (f ∷ fs) e = (good-rec words f (and_left (good_rec words f) (good_recs words fs) e), good-recs words fs (and_right (good_rec words f) (good_recs words fs) e))

good-head : (h : List ℕ) (n : ℕ) → good_head h n ≡ true → GoodGeo (geo_of (word_at h 1) (get_or h 3 0) (word_at h 4)) × (n ≤ capacity (get_or h 3 0) (word_at h 4))
unfolding good_head geo_of within fits_share
good-head h n e =
    let rl : leb 1 (word_at h 1) ≡ true = search (and_left, and_right) depth 9 in
    let rh : leb (word_at h 1) most_words ≡ true = search (and_left, and_right) depth 9 in
    let bl : leb 1 (get_or h 3 0) ≡ true = search (and_left, and_right) depth 9 in
    let bh : leb (get_or h 3 0) most_factor ≡ true = search (and_left, and_right) depth 9 in
    let c : leb least_capacity (capacity (get_or h 3 0) (word_at h 4)) ≡ true = search (and_left, and_right) depth 9 in
    let s : leb (word_at h 4 * block_size (word_at h 1) (get_or h 3 0)) most_share ≡ true = search (and_left, and_right) depth 9 in
    let m : leb n (capacity (get_or h 3 0) (word_at h 4)) ≡ true = search (and_left, and_right) depth 9 in
    (record { words-low = leb-true _ _ rl; words-high = le_trans (leb-true _ most_words rh) words-fit; factor-low = leb-true _ _ bl; factor-high = leb-true _ _ bh; room = leb-true _ _ c; share = le_trans (leb-true _ most_share s) share-fits }, leb-true _ _ m)

unfoldable GoodRead : Option Sheet → Type 0
GoodRead none = Unit {0}
GoodRead (some s) = GoodSheet s

frames-good : (fs : List (List ℕ)) → GoodRead (frames_sheet fs)
unfolding frames_sheet GoodRead geo_of
frames-good [] = tt
frames-good (h ∷ fs) =
    both GoodRead (good_head h (length fs) && good_recs (word_at h 1) fs)
    (λ e. said (and_left (good_head h (length fs)) (good_recs (word_at h 1) fs) e) (and_right (good_head h (length fs)) (good_recs (word_at h 1) fs) e))
    (λ _. tt)
  where
    said : good_head h (length fs) ≡ true → good_recs (word_at h 1) fs ≡ true → GoodSheet (record { geo = geo_of (word_at h 1) (get_or h 3 0) (word_at h 4); recs = map rec_of fs })
    said e f =
        let g = good-head h (length fs) e in
        record { geo = g.0; few = unfold geo_of in rw (length-map fs rec_of) g.1; recs = unfold geo_of in good-recs (word_at h 1) fs f }

read-good : (t : List ℕ) → GoodRead (read_sheet t)
unfolding read_sheet
read-good t = both GoodRead (eqb (length (lines_of t).rest) 0 && all_lines (lines_of t).whole) (λ _. frames-good _) (λ _. unfold GoodRead in tt)

pub sheet-good : (t : List ℕ) (s : Sheet) → read_sheet t ≡ some s → GoodSheet s
unfolding GoodRead
sheet-good t s e = subst GoodRead e (read-good t)

-- every call of a file that is not built

module _ (G : Out → Type 0) (none_made : (r : Reply) → G (unmade r)) (builds : (r : Reply) (g : Geo) → GoodGeo g → G (leaves r (new_file g empty_store))) (loads : (r : Reply) (s : Sheet) → GoodSheet s → G (leaves r (loaded s))) where
  made-build : (r b n x : ℕ) → G (build r b n x)
  unfolding build answering
  made-build r b n x =
      both G (in_range r b n x)
      (λ e. both G (fits_share r b (data_blocks n b x)) (λ f. builds _ _ (built-good r b n x e f)) (λ _. none_made _))
      (λ _. none_made _)

  made-load : (t : List ℕ) → G (load t)
  unfolding load
  made-load t = go (read_sheet t) (read-good t)
    where
      go : (o : Option Sheet) → GoodRead o → G (elim o as (λ (x : Option Sheet). Out) [ none ↦ unmade (shows 43 []) | some s ↦ leaves (shows 0 []) (loaded s) ])
      go none h = none_made _
      go (some s) h = loads _ s (unfold GoodRead in h)

  pub made : (q : Ask) → G (ask_unbuilt q)
  unfolding ask_unbuilt
  made (calls.build r b n x) = made-build r b n x
  made (calls.opens a s m) = none_made _
  made (calls.read p n) = none_made _
  made (calls.write p n d) = none_made _
  made (calls.control p c) = none_made _
  made (calls.collect p) = none_made _
  made (calls.close p) = none_made _
  made calls.counts = none_made _
  made (calls.load t) = made-load t
  made (calls.save n) = none_made _
  made (calls.look p) = none_made _

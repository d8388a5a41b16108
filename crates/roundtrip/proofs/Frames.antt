-- The frames of a sheet: they are bytes, no longer than a line, pass the tests of load, and say what was written.
use Prim.Native.Nat.{ℕ, zero, suc, ◌+◌, ◌*◌, ◌/◌, ◌%◌, ◌<◌, ◌≤◌}
use mathlib.Core.Bool.{true, cond}
use mathlib.Core.Path.{◌≡◌, refl, ap}
use mathlib.Core.List.{List, [], ◌∷◌, ◌++◌, map}
use native.Mathlib.Nat.{le_trans}
use native.Mathlib.Omega.{arith}
use lib.Dec.{eqb}
use lib.ListN.{length, get_or}
use borrow.Author.Tests.{le-leb, eq-eqb, eqb-false}
use Rattle.words.specs.Word.{word, word_at, Bytes}
use Rattle.rules.specs.Limits.{most_words, most_factor, least_capacity, most_type, most_share}
use Rattle.rules.specs.Geometry.{capacity, within, fits_share}
use Rattle.rules.specs.State.{Rec, Geo}
use Rattle.rules.specs.Sheet.{head_frame, rec_frame, good_head, good_rec, good_recs, rec_of}
use Rattle.rules.proofs.Split.{by_cases, true-and}
use Rattle.rules.proofs.Fits.{words-said, share-said}
use Rattle.shares.specs.Groups.{All}
use Rattle.shares.specs.Laid.{GoodRec}
use Rattle.laws.specs.Changes.{GoodGeo, GoodRecs}
use Rattle.roundtrip.specs.Trip.{Plain}

-- a word, written and read
pub word_back : (n : ℕ) → word_at (word n) 0 ≡ n
word_back n = omega arith

-- one byte more, one word more
pub byte-bytes : (x : ℕ) (xs : List ℕ) → x < 256 → Bytes xs → Bytes (x ∷ xs)
unfolding Bytes
byte-bytes x xs h b zero = h
byte-bytes x xs h b (suc i) = b i

pub word_bytes : (n : ℕ) (xs : List ℕ) → n < 65536 → Bytes xs → Bytes (word n ++ xs)
word_bytes n xs h b = byte-bytes (n / 256) _ (omega arith) (byte-bytes (n % 256) xs (omega arith) b)

pub nil-bytes : Bytes []
unfolding Bytes
nil-bytes i = omega arith

-- the first frame

pub bytes-head : (g : Geo) (n : ℕ) → g.words < 65536 → g.factor < 256 → g.blocks < 65536 → n < 65536 → Bytes (head_frame g n)
unfolding head_frame
bytes-head g n r b d h = byte-bytes 1 _ (omega arith) (word_bytes g.words _ r (byte-bytes g.factor _ b (word_bytes g.blocks _ d (word_bytes n [] h nil-bytes))))

pub length-head : (g : Geo) (n : ℕ) → length (head_frame g n) ≡ 8
unfolding head_frame
length-head g n = refl

pub head-words : (g : Geo) (n : ℕ) → word_at (head_frame g n) 1 ≡ g.words
unfolding head_frame
head-words g n = word_back g.words

pub head-factor : (g : Geo) (n : ℕ) → get_or (head_frame g n) 3 0 ≡ g.factor
unfolding head_frame
head-factor g n = refl

pub head-blocks : (g : Geo) (n : ℕ) → word_at (head_frame g n) 4 ≡ g.blocks
unfolding head_frame
head-blocks g n = word_back g.blocks

head-held : (g : Geo) (n : ℕ) → word_at (head_frame g n) 6 ≡ n
unfolding head_frame
head-held g n = word_back n

head-kind : (g : Geo) (n : ℕ) → get_or (head_frame g n) 0 0 ≡ 1
unfolding head_frame
head-kind g n = refl

pub head-good : (g : Geo) (n : ℕ) → GoodGeo g → n ≤ capacity g.factor g.blocks → good_head (head_frame g n) n ≡ true
unfolding good_head within fits_share
head-good g n k m =
    rw (length-head g n, head-kind g n, head-words g n, head-factor g n, head-blocks g n, head-held g n)
    (true-and _ _ (true-and _ _ (true-and _ _ (true-and _ _ (true-and _ _ (true-and _ _ refl
    (true-and _ _ (le-leb 1 g.words k.words-low) (le-leb g.words most_words (le_trans k.words-high words-said))))
    (true-and _ _ (le-leb 1 g.factor k.factor-low) (le-leb g.factor most_factor k.factor-high)))
    (le-leb least_capacity _ k.room))
    (le-leb _ most_share (le_trans k.share share-said)))
    (le-leb n _ m))
    (eq-eqb n n refl))

-- the frame of a record

pub bytes-rec : (r : Rec) → GoodRec r → Plain r → Bytes (rec_frame r)
unfolding rec_frame
bytes-rec r k p = word_bytes r.typ _ (omega (arith, k.kind)) (word_bytes r.wid _ p.ident p.bytes)

pub length-rec : (r : Rec) → length (rec_frame r) ≡ 4 + length r.body
unfolding rec_frame
length-rec r = omega arith

rec-kind : (r : Rec) → word_at (rec_frame r) 0 ≡ r.typ
unfolding rec_frame
rec-kind r = word_back r.typ

rec-from : (r : Rec) → word_at (rec_frame r) 2 ≡ r.wid
unfolding rec_frame
rec-from r = word_back r.wid

pub rec-back : (r : Rec) → rec_of (rec_frame r) ≡ r
unfolding rec_of rec_frame
rec-back r = rw (rec-kind r, rec-from r)

rec-short : (r : Rec) (words : ℕ) → GoodRec r → length r.body ≤ 2 * words → length (rec_frame r) ≤ cond (eqb r.typ 0) (4 + 2 * words) 4
rec-short r words k l =
    by_cases (eqb r.typ 0)
    (λ e. rw e (omega (arith, length-rec r)))
    (λ e. rw e (omega (arith, length-rec r, ap length (k.bare (eqb-false r.typ 0 e)))))

pub rec-good : (r : Rec) (words : ℕ) → GoodRec r → length r.body ≤ 2 * words → good_rec words (rec_frame r) ≡ true
unfolding good_rec
rec-good r words k l =
    rw (rec-kind r, rec-from r)
    (true-and _ _ (true-and _ _ (true-and _ _
    (le-leb 4 (length (rec_frame r)) (omega (arith, length-rec r)))
    (le-leb r.typ most_type k.kind))
    (le-leb 1 r.wid k.from))
    (le-leb _ _ (rec-short r words k l)))

-- the frames of all records

pub recs-good : (rs : List Rec) (words : ℕ) → GoodRecs words rs → good_recs words (map rec_frame rs) ≡ true
unfolding good_recs GoodRecs All
recs-good [] words k = refl
recs-good (r ∷ rs) words k = true-and _ _ (rec-good r words k.0.0 k.0.1) (recs-good rs words k.1)

pub recs-back : (rs : List Rec) → map rec_of (map rec_frame rs) ≡ rs
recs-back [] = refl
recs-back (r ∷ rs) = rw (rec-back r, recs-back rs)

-- Laws of a block's image: its length, its pieces, a zeroed block, and one record more.
use Prim.Native.Nat.{ℕ, ◌+◌, ◌-◌, ◌*◌, ◌%◌, ◌≤◌}
use mathlib.Core.Path.{◌≡◌, refl, sym}
use mathlib.Core.List.{List, [], ◌∷◌, ◌++◌, append-nil, append_assoc}
use native.Mathlib.Omega.{arith}
use lib.Dec.{eqb}
use lib.ListN.{length, length-append}
use borrow.Author.Tests.{eqb-true, eqb-false}
use Rattle.words.specs.Word.{word, word_at, zeros}
use Rattle.words.proofs.Stands.{BytesAt, join, left, right, word_read}
use Rattle.rules.specs.State.{Rec}
use Rattle.rules.specs.Store.{pad, record_bytes, record_words, zeroed}
use Rattle.shares.specs.Image.{bytes_of, words_of, image}
use Rattle.rules.proofs.Split.{by_cases}

pub length-pad : (n : ℕ) → length (pad n) ≡ n % 2
unfolding pad
length-pad n = by_cases (eqb (n % 2) 0)
    (λ e. rw e (omega (arith, eqb-true (n % 2) 0 e)))
    (λ e. rw e (let f : n % 2 ≡ 0 → ⊥ = eqb-false (n % 2) 0 e in omega arith))

pub length-record_bytes : (r : Rec) → length (record_bytes r) ≡ 2 * record_words r
unfolding record_bytes record_words
length-record_bytes r = simp (length-append, length-pad) (omega arith)

pub record_words-least : (r : Rec) → 3 ≤ record_words r
unfolding record_words
record_words-least r = omega arith

-- a record with at most 2w bytes of data takes one place
pub record_words-most : (w : ℕ) (r : Rec) → length r.body ≤ 2 * w → record_words r ≤ w + 3
unfolding record_words
record_words-most w r h = omega arith

pub length-bytes_of : (rs : List Rec) → length (bytes_of rs) ≡ 2 * words_of rs
unfolding bytes_of words_of
length-bytes_of [] = refl
length-bytes_of (r ∷ rs) = rw length-append (omega (arith, length-record_bytes r, length-bytes_of rs))

pub bytes_of-snoc : (rs : List Rec) (r : Rec) → bytes_of (rs ++ (r ∷ [])) ≡ bytes_of rs ++ record_bytes r
unfolding bytes_of
bytes_of-snoc [] r = append-nil (record_bytes r)
bytes_of-snoc (q ∷ rs) r = rw (bytes_of-snoc rs r) (sym (append_assoc (record_bytes q) (bytes_of rs) (record_bytes r)))

pub words_of-append : (qs rs : List Rec) → words_of (qs ++ rs) ≡ words_of qs + words_of rs
unfolding words_of
words_of-append [] rs = omega arith
words_of-append (q ∷ qs) rs = omega (arith, words_of-append qs rs)

pub words_of-snoc : (rs : List Rec) (r : Rec) → words_of (rs ++ (r ∷ [])) ≡ words_of rs + record_words r
unfolding words_of
words_of-snoc rs r = omega (arith, words_of-append rs (r ∷ []))

pub length-image : (rs : List Rec) → length (image rs) ≡ 4 + 2 * words_of rs
unfolding image
length-image rs = omega (arith, length-bytes_of rs)

pub image-nil : (n : ℕ) → zeroed n ≡ image [] ++ zeros (n - 4)
unfolding image zeroed words_of bytes_of
image-nil n = refl

-- The pieces of an image: records put, words used, the records' bytes.

pub record Parts (xs : List ℕ) (a c w : ℕ) (bs : List ℕ) : Type 0 where
  pub put : BytesAt xs a (word c)
  pub used : BytesAt xs (a + 2) (word (2 + w))
  pub recs : BytesAt xs (a + 4) bs

-- an image apart, and whole again
pub apart : (xs : List ℕ) (a : ℕ) (rs : List Rec) → BytesAt xs a (image rs)
    → Parts xs a (length rs) (words_of rs) (bytes_of rs)
unfolding image
apart xs a rs h =
    let c = word (length rs) in
    let u = word (2 + words_of rs) in
    let h₁ : BytesAt xs (a + 2) (u ++ bytes_of rs) = right c (u ++ bytes_of rs) xs a (a + 2) refl h in
    record {
      put = left c (u ++ bytes_of rs) xs a h;
      used = left u (bytes_of rs) xs (a + 2) h₁;
      recs = right u (bytes_of rs) xs (a + 2) (a + 4) (omega arith) h₁;
    }

pub whole : (xs : List ℕ) (a : ℕ) (rs : List Rec) → Parts xs a (length rs) (words_of rs) (bytes_of rs) → BytesAt xs a (image rs)
unfolding image
whole xs a rs p =
    let c = word (length rs) in
    let u = word (2 + words_of rs) in
    join c (u ++ bytes_of rs) xs a (a + 2) refl p.put (join u (bytes_of rs) xs (a + 2) (a + 4) (omega arith) p.used p.recs)

-- the first two words of a block that holds rs
pub image-put : (xs : List ℕ) (a : ℕ) (rs : List Rec) → BytesAt xs a (image rs) → word_at xs a ≡ length rs
image-put xs a rs h = word_read xs a (length rs) (apart xs a rs h).put

pub image-used : (xs : List ℕ) (a : ℕ) (rs : List Rec) → BytesAt xs a (image rs) → word_at xs (a + 2) ≡ 2 + words_of rs
image-used xs a rs h = word_read xs (a + 2) (2 + words_of rs) (apart xs a rs h).used

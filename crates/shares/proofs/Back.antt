-- What is read back from a share is what it holds.
use Prim.Native.Nat.{ℕ, zero, suc, ◌+◌, ◌-◌, ◌*◌, ◌%◌, ◌≤◌}
use mathlib.Core.Path.{◌≡◌, refl, sym}
use mathlib.Core.List.{List, [], ◌∷◌, ◌++◌, append_assoc}
use native.Mathlib.Omega.{arith}
use lib.ListN.{length}
use lib.Seq.{drop-append-le, take-append_seam}
use Rattle.words.specs.Word.{word, word_at}
use Rattle.words.proofs.Stands.{BytesAt, left, right, word_read, part-read}
use Rattle.rules.specs.Limits.{share_bytes}
use Rattle.rules.specs.State.{Rec, Geo, Store}
use Rattle.rules.specs.Store.{pad, record_bytes, record_words, block_bytes}
use Rattle.shares.specs.Image.{bytes_of, words_of, image}
use Rattle.shares.specs.Groups.{flat, Shape}
use Rattle.shares.specs.Holds.{Sized, At, InShare}
use Rattle.shares.specs.Back.{rec_at, next, recs_at, block_recs, ring_recs, read_back}
use Rattle.shares.proofs.Image.{length-record_bytes, apart, image-put}
use Rattle.shares.proofs.Groups.{begun-flat}
use Rattle.shares.proofs.Ring.{ring-inside, block-fits}

-- the fields of a record that stands at p
pub record Fields (xs : List ℕ) (p : ℕ) (r : Rec) : Type 0 where
  pub size : word_at xs p ≡ 4 + length r.body
  pub kind : word_at xs (p + 2) ≡ r.typ
  pub from : word_at xs (p + 4) ≡ r.wid
  pub text : BytesAt xs (p + 6) r.body
  pub rest : BytesAt xs (p + 6 + length r.body) (pad (length r.body))

pub fields : (xs : List ℕ) (p : ℕ) (r : Rec) → BytesAt xs p (record_bytes r) → Fields xs p r
unfolding record_bytes
fields xs p r h =
    let n = length r.body in
    let z = r.body ++ pad n in
    let h₁ : BytesAt xs (p + 2) (word r.typ ++ (word r.wid ++ z)) = right (word (4 + n)) (word r.typ ++ (word r.wid ++ z)) xs p (p + 2) refl h in
    let h₂ : BytesAt xs (p + 4) (word r.wid ++ z) = right (word r.typ) (word r.wid ++ z) xs (p + 2) (p + 4) (omega arith) h₁ in
    let h₃ : BytesAt xs (p + 6) z = right (word r.wid) z xs (p + 4) (p + 6) (omega arith) h₂ in
    record {
      size = word_read xs p (4 + n) (left (word (4 + n)) (word r.typ ++ (word r.wid ++ z)) xs p h);
      kind = word_read xs (p + 2) r.typ (left (word r.typ) (word r.wid ++ z) xs (p + 2) h₁);
      from = word_read xs (p + 4) r.wid (left (word r.wid) z xs (p + 4) h₂);
      text = left r.body (pad n) xs (p + 6) h₃;
      rest = right r.body (pad n) xs (p + 6) (p + 6 + n) refl h₃;
    }

pub rec_at-stands : (xs : List ℕ) (p : ℕ) (r : Rec) → p + 2 * record_words r ≤ length xs → BytesAt xs p (record_bytes r) → rec_at xs p ≡ r
unfolding rec_at record_words
rec_at-stands xs p r l h =
    let f = fields xs p r h in
    let e : word_at xs p - 4 ≡ length r.body = omega (arith, f.size) in
    rw (f.kind, f.from, e, part-read r.body xs (p + 6) (omega arith) f.text)

pub next-stands : (xs : List ℕ) (p : ℕ) (r : Rec) → BytesAt xs p (record_bytes r) → next xs p ≡ p + 2 * record_words r
unfolding next record_words
next-stands xs p r h = rw (fields xs p r h).size (omega arith)

pub recs_at-stands : (xs : List ℕ) (p : ℕ) (rs : List Rec) → p + 2 * words_of rs ≤ length xs → BytesAt xs p (bytes_of rs) → recs_at xs p (length rs) ≡ rs
unfolding recs_at words_of bytes_of
recs_at-stands xs p [] l h = refl
recs_at-stands xs p (r ∷ rs) l h =
    let h₀ : BytesAt xs p (record_bytes r) = left (record_bytes r) (bytes_of rs) xs p h in
    let h₁ : BytesAt xs (p + 2 * record_words r) (bytes_of rs) = right (record_bytes r) (bytes_of rs) xs p (p + 2 * record_words r) (omega (arith, length-record_bytes r)) h in
    rw (rec_at-stands xs p r (omega arith) h₀, next-stands xs p r h₀, recs_at-stands xs (p + 2 * record_words r) rs (omega arith) h₁)

pub block_recs-stands : (xs : List ℕ) (a n : ℕ) (rs : List Rec) → 4 + 2 * words_of rs ≤ n → a + n ≤ length xs → BytesAt xs a (image rs)
    → block_recs xs a ≡ rs
unfolding block_recs
block_recs-stands xs a n rs f l h = rw (image-put xs a rs h) (recs_at-stands xs (a + 4) rs (omega arith) (apart xs a rs h).recs)

-- the held blocks, and whatever the e blocks after them have left
pub ring_recs-at : (g : Geo) → Sized g → (xs : List ℕ) → length xs ≡ share_bytes → (qs : List (List Rec)) (k n e : ℕ) → n ≡ length qs + e
    → Shape g.factor qs → At g xs k qs
    → ring_recs g xs k n ≡ flat qs ++ ring_recs g xs (k + length qs) e
unfolding ring_recs flat Shape At
ring_recs-at g o xs l [] k n e m s a = let z : n ≡ e = omega arith in let y : k + 0 ≡ k = omega arith in rw (z, y)
ring_recs-at g o xs l (q ∷ qs) k zero e m s a = absurd (omega arith)
ring_recs-at g o xs l (q ∷ qs) k (suc n) e m s a =
    let y : k + suc (length qs) ≡ suc k + length qs = omega arith in
    rw (
      block_recs-stands xs (k % g.blocks * block_bytes g) (block_bytes g) q (block-fits g q s.1 a.0) (omega (arith, ring-inside g o k)) a.1,
      ring_recs-at g o xs l qs (suc k) n e (omega arith) s.3 a.2,
      y,
    ) (sym (append_assoc q (flat qs) (ring_recs g xs (suc k + length qs) e)))

pub back : (g : Geo) (s : Store) → Sized g → InShare g s → read_back g s.share s.block s.spent (length s.recs) ≡ s.recs
unfolding read_back
back g s o h =
    let qs = h.groups in
    let e = g.blocks - length qs in
    let z = ring_recs g s.share (s.block + length qs) e in
    rw (
      ring_recs-at g o s.share h.long qs s.block g.blocks e (omega (arith, h.few)) h.shape h.at,
      drop-append-le s.spent (flat qs) z (begun-flat s.spent qs h.begun),
      h.recs,
    ) (take-append_seam s.recs z)
